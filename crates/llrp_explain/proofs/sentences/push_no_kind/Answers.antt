use Rattle.std.proofs.Common.{◌∙◌, ◌++◌, List, ℕ, ap}
use Rattle.llrp_explain.specs.Calls.HeaderFaults.{set_words}
use Rattle.llrp_explain.proofs.PrintedLemmas.{four_parts, on_written}
use Rattle.llrp_explain.proofs.sentences.push_no_kind.Goals as goal

pub returns : goal.returns
returns c = on_written c.extend_from_slice-3.result _ _ _ _ c.extend_from_slice-3.ensures.items
    (λ e. four_parts _ _ _ _ _ _ _ _ _ c.in_ok-extend_from_slice.ensures.items c.in_ok-push_digits.ensures c.in_ok-extend_from_slice-2.ensures.items (e ∙ ap (λ (x : List ℕ). c.extend_from_slice-2.new.self.items ++ x) (c.as_bytes.ensures.value ∙ c.set_words.ensures ∙ ap set_words c.kind_set.ensures)))
