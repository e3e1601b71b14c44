use Rattle.std.proofs.Common.{◌≡◌, refl, sym, ap, inl, inr, ◌∙◌}
use Rattle.std.specs.Prelude.{List, ℕ, [], ◌⊎◌}
use Rattle.tag_bits.specs.Digits.{digits}
use Rattle.llrp_schema.specs.declared.kinds.Tail.{Tail}
use Rattle.llrp_schema.specs.declared.kinds.Tail.TheVariants.{Absent, Bits, Data}
use Rattle.llrp_tree.specs.Spelling.{count_digits}
use Rattle.llrp_tree.proofs.heads.count.Goals as goal

no_digits : digits 0 0 ≡ []
unfolding digits
no_digits = refl

no_count : (form : Tail) (tail : List ℕ) → (form ≡ Absent) ⊎ ((form ≡ Bits) ⊎ (form ≡ Data)) → [] ≡ count_digits form tail
no_count form tail (inl e) = sym (ap (λ (f : Tail). count_digits f tail) e)
no_count form tail (inr (inl e)) = sym (ap (λ (f : Tail). count_digits f tail) e)
no_count form tail (inr (inr e)) = sym (ap (λ (f : Tail). count_digits f tail) e)

pub returns-in-Absent-clause-spelled : goal.returns-in-Absent-clause-spelled
returns-in-Absent-clause-spelled c = no_digits ∙ no_count c.args.form c.args.tail.now c.in-Absent.is
