use Rattle.std.proofs.Common.{◌≡◌, ◌++◌, ◌∷◌, take, map}
use Rattle.std.specs.List.{flat_map}
use Rattle.llrp_schema.specs.Calls.Schema.{field_rule}
use Rattle.llrp_explain.specs.Calls.KindTexts.{field_text}
use Rattle.llrp_explain.proofs.kind_texts.push_later_fields.Given as goal

abbrev pub invariant-loop-field : goal.invariant-loop-field
invariant-loop-field l = l.text.items ≡ l.fn.text.items ++ flat_map (λ text. 44 ∷ 32 ∷ text) (map field_text (map field_rule (take l.field-index l.fields)))
