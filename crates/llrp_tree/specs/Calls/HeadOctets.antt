-- The octets that messages and parameters spell, and those that are still to be written of a message.
use Rattle.std.specs.Prelude.{◌≡◌, ℕ, ◌-◌, ◌^◌, List, [], ◌∷◌, ◌++◌, take, drop, Bool, true, false}
use Rattle.std.specs.Int.{w64, to_be_bytes}
use Rattle.llrp_schema.specs.declared.kinds.Kind.{Kind}
use Rattle.llrp_schema.specs.declared.kinds.MsgKind.{MsgKind}
use Rattle.llrp_schema.specs.declared.kinds.ParamKind.{ParamKind}
use Rattle.llrp_schema.specs.declared.kinds.Kind.TheVariants.{Message, Parameter}
use Rattle.llrp_schema.specs.Schema.{FieldRule, fields_of, is_tv, tail_of}
use Rattle.llrp_tree.specs.declared.heads.HeadOctets.{HeadOctets}
use Rattle.llrp_tree.specs.declared.heads.Front.{Front}
use Rattle.llrp_tree.specs.Spelling.{message, head_of, head_digits, spread, field_digits, count_digits}
use Rattle.llrp_tree.specs.Calls.Writing.{Appends}

-- the digits of the plain fields, with those that are reserved between them
abbrev pub all_fields : List FieldRule → List ℕ → List Bool
all_fields rules values = field_digits rules (spread rules values)

-- the digits of the fields of a node, and of the count of its tail
abbrev pub leading_digits : Kind → List ℕ → List ℕ → List Bool
leading_digits kind fields tail = all_fields (fields_of kind) fields ++ count_digits (tail_of kind) tail

-- what comes before the tail of a parameter of this many octets
abbrev pub parameter_start : ParamKind → ℕ → List ℕ → List ℕ → List Bool
parameter_start kind count fields tail = head_digits (head_of kind count) ++ leading_digits (Parameter kind) fields tail

-- what comes before the tail and the parameters of a message of this many octets
abbrev pub message_start : ℕ → MsgKind → ℕ → ℕ → List ℕ → List Bool
message_start version kind count id fields = head_digits (message version kind count id) ++ leading_digits (Message kind) fields []

-- The parameter has type and value alone, and this is the rule of its one field.
pub record IsOnlyField (kind : ParamKind) (rule : FieldRule) : Type 0 where
  pub tv : is_tv kind ≡ true
  pub fields : fields_of (Parameter kind) ≡ rule ∷ []
  pub plain : rule.reserved ≡ false
  pub greatest : rule.greatest ≡ 2 ^ rule.width - 1

-- These octets have the digits.
abbrev pub Holds : HeadOctets → List Bool → Type 0
Holds start ds = Appends [] (drop start.from start.octets) ds

-- eight octets of a number, and then eight of another
abbrev pub both_halves : ℕ → ℕ → List ℕ
both_halves upper lower = to_be_bytes w64 upper ++ to_be_bytes w64 lower

-- The first of these octets have the digits.
abbrev pub IsInFront : Front → List Bool → Type 0
IsInFront front ds = Appends [] (take front.count (both_halves front.upper front.lower)) ds
