use Rattle.std.proofs.Common.{ℕ, List, ◌++◌, subst, sym, ap, ◌∙◌}
use Rattle.llrp_schema.specs.Schema.{GroupRule}
use Rattle.llrp_stream.specs.Calls.Reading.{AreSeen}
use Rattle.std.proofs.lemmas.Result.{on_ok_weaker}
use Rattle.llrp_explain.specs.Calls.FaultSentences.{first_missing}
use Rattle.llrp_explain.proofs.PrintedLemmas.{four_parts}
use Rattle.llrp_explain.proofs.missing.push_missing_sentence.Goals as goal

pub returns : goal.returns
returns c = on_ok_weaker c.push_first_missing.result
    (λ f children seen. four_parts _ _ _ _ _ _ _ _ _ c.in_ok-extend_from_slice.ensures.items
    (c.in_ok-extend_from_slice-2.ensures.items ∙ ap (λ (x : List ℕ). c.extend_from_slice.new.self.items ++ x) (c.as_bytes.ensures.value ∙ c.name.ensures))
    c.in_ok-extend_from_slice-3.ensures.items
    (f children (subst (λ (gs : List GroupRule). AreSeen gs children c.args.seen) (sym c.narrow_groups.ensures.rules) seen) ∙ ap (λ (gs : List GroupRule). c.extend_from_slice-3.new.self.items ++ first_missing gs children) c.narrow_groups.ensures.rules))
    c.push_first_missing.ensures
