use Rattle.std.proofs.Common.{◌≡◌, drop, nat_eq}
use Rattle.std.specs.Prelude.{find, map}
use Rattle.std.specs.Cmp.Lexicographic.{pointwise}
use Rattle.llrp_enumerations.specs.Private.Rows.{enumerated_field}
use Rattle.llrp_enumerations.proofs.names.field_named.Given as goal

abbrev pub invariant-loop-field : goal.invariant-loop-field
invariant-loop-field l = find (λ f. pointwise nat_eq f.name l.name) (map enumerated_field (drop l.field-index l.fields)) ≡ find (λ f. pointwise nat_eq f.name l.name) (map enumerated_field l.fields)
