-- The members of an object have different names; the checker computes each kind's.
use Rattle.std.proofs.Common.{◌≡◌, ℕ, Bool, true, not, List, [], ◌∷◌, nat_eq, refl, sym, ap, ◌∙◌, eq-eqb}
use Rattle.std.specs.Cmp.Lexicographic.{pointwise}
use Rattle.llrp_schema.specs.declared.kinds.MsgKind.{MsgKind}
use Rattle.llrp_schema.specs.declared.kinds.MsgKind.TheVariants.{SetReaderConfig}
use Rattle.llrp_schema.specs.declared.kinds.ParamKind.{ParamKind}
use Rattle.llrp_schema.specs.declared.kinds.ParamKind.TheVariants.{AntennaId}
use Rattle.llrp_schema.specs.declared.kinds.Kind.{Kind}
use Rattle.llrp_schema.specs.declared.kinds.Kind.TheVariants.{Message, Parameter}
use Rattle.llrp_schema.specs.Schema.{fields_of, rule_of, message_rule, param_rule, tail_of}
use Rattle.llrp_schema.proofs.SchemaLemmas.{AllPairs-from_pairs_all, pairs_all}
use Rattle.llrp_json.specs.Calls.JsonLaws.{NamesAreApart, member_names}

abbrev differ : List ℕ → List ℕ → Bool
differ a b = not (pointwise nat_eq a b)

message_names : (kind : MsgKind) → pairs_all differ (member_names (Message kind)) ≡ true
unfolding fields_of tail_of rule_of message_rule
message_names SetReaderConfig = refl
message_names _ = refl

parameter_names : (kind : ParamKind) → pairs_all differ (member_names (Parameter kind)) ≡ true
unfolding fields_of tail_of rule_of param_rule
parameter_names AntennaId = refl
parameter_names _ = refl

names_differ : (kind : Kind) → pairs_all differ (member_names kind) ≡ true
names_differ (Message kind) = message_names kind
names_differ (Parameter kind) = parameter_names kind

itself : (a : List ℕ) → pointwise nat_eq a a ≡ true
itself [] = refl
itself (x ∷ xs) = rw (eq-eqb x x refl) (itself xs)

apart : (a b : List ℕ) → differ a b ≡ true → a ≡ b → ⊥
apart a b e same = let equal : pointwise nat_eq a b ≡ true = ap (λ x. pointwise nat_eq a x) (sym same) ∙ itself a in cc

pub names_are_apart : NamesAreApart
names_are_apart kind = AllPairs-from_pairs_all differ (λ a b. a ≡ b → ⊥) apart (member_names kind) (names_differ kind)
