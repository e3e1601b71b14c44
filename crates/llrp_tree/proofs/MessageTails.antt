-- The tail of a message is not counted: it is data, or there is none.
use Rattle.std.proofs.Common.{◌≡◌, ℕ, ◌⊎◌, inl, inr, List, [], ap}
use Rattle.llrp_schema.specs.declared.kinds.MsgKind.{MsgKind}
use Rattle.llrp_schema.specs.declared.kinds.Kind.TheVariants.{Message}
use Rattle.llrp_schema.specs.declared.kinds.Tail.{Tail}
use Rattle.llrp_schema.specs.declared.kinds.Tail.TheVariants.{Absent, Data}
use Rattle.llrp_schema.specs.Schema.{tail_of}
use Rattle.llrp_schema.proofs.TableLaws.{message_form}
use Rattle.llrp_tree.specs.Lawful.{count_octets}
use Rattle.llrp_tree.specs.Spelling.{count_digits}

no_octets : (form : Tail) → (form ≡ Absent) ⊎ (form ≡ Data) → count_octets form ≡ 0
no_octets form (inl e) = ap count_octets e
no_octets form (inr e) = ap count_octets e

pub uncounted : (kind : MsgKind) → count_octets (tail_of (Message kind)) ≡ 0
uncounted kind = no_octets (tail_of (Message kind)) (message_form kind)

no_digits : (form : Tail) (tail : List ℕ) → (form ≡ Absent) ⊎ (form ≡ Data) → count_digits form tail ≡ []
no_digits form tail (inl e) = ap (λ (f : Tail). count_digits f tail) e
no_digits form tail (inr e) = ap (λ (f : Tail). count_digits f tail) e

pub no_count : (kind : MsgKind) (tail : List ℕ) → count_digits (tail_of (Message kind)) tail ≡ []
no_count kind tail = no_digits (tail_of (Message kind)) tail (message_form kind)
