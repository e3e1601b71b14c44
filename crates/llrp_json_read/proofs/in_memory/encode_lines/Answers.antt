use Rattle.std.proofs.Common.{◌≡◌, ◌∙◌, ◌++◌, ℕ, List, [], ap, append_assoc}
use Rattle.std.proofs.lemmas.Result.{err_from_is_err_and}
use Rattle.llrp_json_read.proofs.LineRuns.{stands_new}
use Rattle.llrp_json_read.proofs.TextSteps.{last_stopped, text_stopped}
use Rattle.llrp_json_read.proofs.in_memory.encode_lines.Goals as goal

pub returns-in_err-take : goal.returns-in_err-take
returns-in_err-take c =
    let p = err_from_is_err_and c.from_residual.result c.from_residual.ensures.1 in
    let (more, grown, stop) = c.in_err-take.ensures.taken [] [] (stands_new c.args.set c.args.limit c.new-lines.result c.new-lines.ensures.line c.new-lines.ensures.number) in
    rw (p.1, p.2) (text_stopped c.args.set c.args.limit c.args.text.now more _ _ c.in_err-take.field-0.0 grown stop.0 stop.1)

pub returns-in_err-end : goal.returns-in_err-end
returns-in_err-end c =
    let p = err_from_is_err_and c.from_residual-in_err-end.result c.from_residual-in_err-end.ensures.1 in
    let (more, grown, stands) = c.in_ok-take.ensures.taken [] [] (stands_new c.args.set c.args.limit c.new-lines.result c.new-lines.ensures.line c.new-lines.ensures.number) in
    let (last, longer, ended) = c.in_err-end.ensures c.args.text.now more stands in
    rw (p.1, p.2) (last_stopped c.args.set c.args.limit c.args.text.now (more ++ last) c.args.frames.now.items _ c.in_err-end.field-0.0 (longer ∙ ap (λ (x : List ℕ). x ++ last) grown ∙ append_assoc c.args.frames.now.items more last) ended)

pub returns : goal.returns
returns c =
    let (more, grown, stands) = c.in_ok-take.ensures.taken [] [] (stands_new c.args.set c.args.limit c.new-lines.result c.new-lines.ensures.line c.new-lines.ensures.number) in
    let (last, longer, ended) = c.in_ok-end.ensures c.args.text.now more stands in
    (more ++ last, ended, longer ∙ ap (λ (x : List ℕ). x ++ last) grown ∙ append_assoc c.args.frames.now.items more last)
