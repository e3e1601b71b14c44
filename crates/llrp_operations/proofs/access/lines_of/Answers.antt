use Rattle.std.proofs.Common.{◌∙◌, List, ℕ, ◌++◌, ap, arith}
use Rattle.llrp_operations.specs.Calls.Access.{lines_of, results_of}
use Rattle.llrp_operations.proofs.AccessLemmas.{one_more_line}
use Rattle.llrp_operations.proofs.access.lines_of.Goals as goal

pub loop-place-preserved : goal.loop-place-preserved
loop-place-preserved c =
    one_more_line c.args.json c.args.name.now c.args.operations.now (results_of c.args.tag.now) c.loop-place.place c.index-operations-place.result c.result_of.result c.loop-place.lines.items c.extend_from_slice.new.self.items
    (lines_of c.args.json c.args.name.now c.args.operations.now (results_of c.args.tag.now)) (omega (arith, c.loop-place-test.true)) c.index-operations-place.is c.result_of.ensures
    (c.in_ok-extend_from_slice.ensures.items ∙ ap (λ (x : List ℕ). c.loop-place.lines.items ++ x) (c.as_slice.ensures ∙ c.in_ok-line.ensures)) c.loop-place.invariant
