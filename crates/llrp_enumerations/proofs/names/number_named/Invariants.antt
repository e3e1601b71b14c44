use Rattle.std.proofs.Common.{◌≡◌, drop, nat_eq}
use Rattle.std.specs.Prelude.{find, map}
use Rattle.llrp_enumerations.specs.Private.Rows.{named_value}
use Rattle.llrp_enumerations.proofs.names.number_named.Given as goal

abbrev pub invariant-loop-value : goal.invariant-loop-value
invariant-loop-value l = find (λ v. nat_eq v.number l.number) (map named_value (drop l.value-index l.values)) ≡ find (λ v. nat_eq v.number l.number) (map named_value l.values)
