use Rattle.std.proofs.Common.{◌∙◌, ◌++◌, List, ℕ, ap}
use Rattle.llrp_explain.proofs.PrintedLemmas.{four_parts, on_written}
use Rattle.llrp_explain.proofs.sentences.push_misplaced.Goals as goal

pub returns : goal.returns
returns c = on_written c.extend_from_slice-4.result _ _ _ _ c.extend_from_slice-4.ensures.items
    (λ e. four_parts _ _ _ _ _ _ _ _ _ c.in_ok-extend_from_slice.ensures.items c.in_ok-extend_from_slice-2.ensures.items c.in_ok-extend_from_slice-3.ensures.items (e ∙ ap (λ (x : List ℕ). c.extend_from_slice-3.new.self.items ++ x) (c.as_bytes.ensures.value ∙ c.name.ensures)))
