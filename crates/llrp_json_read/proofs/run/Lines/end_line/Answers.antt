use Rattle.std.proofs.Common.{◌+◌, List, ℕ, subst}
use Rattle.llrp_json_read.specs.Calls.ReadErrors.{IsReadErr}
use Rattle.llrp_json_read.specs.JsonLine.{RefusesLineWithin}
use Rattle.llrp_json_read.proofs.LineRuns.{not_ended}
use Rattle.llrp_json_read.proofs.run.Lines.end_line.Goals as goal

pub returns-in-Err-clause-ended : goal.returns-in-Err-clause-ended
returns-in-Err-clause-ended c =
    not_ended c.args.set c.args.limit (c.args.self.now.number + 1) c.args.self.now.line.items _ _ c.in-Err.error c.numbered.result
    (subst (λ (x : List ℕ). IsReadErr (RefusesLineWithin c.args.set c.args.limit x) c.in-Err.error) c.as_slice.ensures.value c.in-Err.ensures.refused) c.numbered.ensures c.in-Err.ensures.err
