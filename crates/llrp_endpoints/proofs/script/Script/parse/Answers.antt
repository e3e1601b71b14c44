use Rattle.std.proofs.lemmas.Result.{err_from_is_err_and}
use Rattle.llrp_endpoints.proofs.ScriptReading.{parse_failed, parse_script, parse_stopped}
use Rattle.llrp_endpoints.proofs.script.Script.parse.Goals as goal

pub returns-in_err-rest-clause-stopped : goal.returns-in_err-rest-clause-stopped
returns-in_err-rest-clause-stopped c =
    let p = err_from_is_err_and c.from_residual.result c.from_residual.ensures.1 in
    rw (p.1, p.2) (parse_failed c.args.text.now c.new-entries.result.items c.in_err-rest.field-0.0 c.new-entries.ensures.items c.in_err-rest.ensures.refused)

pub returns-clause-script : goal.returns-clause-script
returns-clause-script c = parse_script c.args.text.now c.new-entries.result.items c.take_lines.new.entries.items c.in_ok-rest.rest.now c.at_end.result c.new-entries.ensures.items c.in_ok-rest.ensures.taken c.at_end.ensures

pub returns-clause-stopped : goal.returns-clause-stopped
returns-clause-stopped c = parse_stopped c.args.text.now c.new-entries.result.items c.take_lines.new.entries.items c.in_ok-rest.rest.now c.at_end.result c.new-entries.ensures.items c.in_ok-rest.ensures.taken c.at_end.ensures
