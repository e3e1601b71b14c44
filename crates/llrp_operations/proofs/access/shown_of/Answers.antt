use Rattle.std.proofs.Common.{◌∙◌, ℕ, List, subst, sym}
use Rattle.llrp_operations.specs.Calls.TagNames.{IsTagName}
use Rattle.llrp_operations.proofs.AccessLemmas.{shown_so}
use Rattle.llrp_operations.proofs.access.shown_of.Goals as goal

pub returns : goal.returns
returns c =
    shown_so (λ lines. lines.items) c.args.errand c.args.tag.now c.as_slice.result.now c.as_slice-2.result.now c.lines_of.result (c.as_slice.ensures.value ∙ c.in_ok-epc.ensures)
    (subst (λ (x : List ℕ). IsTagName c.as_slice.result.now x) (sym c.as_slice-2.ensures) c.in_ok-name.ensures) c.lines_of.ensures
