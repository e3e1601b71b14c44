use Rattle.std.proofs.Common.{◌≡◌, ◌++◌, take}
use Rattle.std.specs.Prelude.{codes}
use Rattle.std.specs.List.{flat_map}
use Rattle.llrp_explain.specs.Calls.KindTexts.{names}
use Rattle.llrp_explain.proofs.kind_texts.push_later_choices.Given as goal

abbrev pub invariant-loop-member : goal.invariant-loop-member
invariant-loop-member l = l.text.items ≡ l.fn.text.items ++ flat_map (λ name. codes " or " ++ name) (names (take l.member-index l.members))
