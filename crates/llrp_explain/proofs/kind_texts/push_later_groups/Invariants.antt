use Rattle.std.proofs.Common.{◌≡◌, ◌++◌, ◌∷◌, take, map}
use Rattle.std.specs.List.{flat_map}
use Rattle.llrp_schema.specs.Calls.Schema.{group_rule}
use Rattle.llrp_explain.specs.Calls.KindTexts.{group_text}
use Rattle.llrp_explain.proofs.kind_texts.push_later_groups.Given as goal

abbrev pub invariant-loop-group : goal.invariant-loop-group
invariant-loop-group l = l.text.items ≡ l.fn.text.items ++ flat_map (λ text. 44 ∷ 32 ∷ text) (map group_text (map group_rule (take l.group-index l.groups)))
