-- Beside OpenJson: words of private functions.
use Rattle.std.specs.Prelude.{◌≡◌, ℕ, length, Bool, true, false, List, [], ◌∷◌, ◌++◌, decimal, map}
use Rattle.std.specs.List.{flat_map, join_with_byte}
use Rattle.hex.specs.Hex.{encode_lower}
use Rattle.llrp_schema.specs.declared.kinds.ParamKind.{ParamKind}
use Rattle.llrp_schema.specs.declared.kinds.Tail.{Tail}
use Rattle.llrp_schema.specs.declared.kinds.Tail.TheVariants.{Absent, Words, Text, Bits, Data}
use Rattle.llrp_tree.specs.Tree.{Forest, none, and, MessageTree, words_of}
use Rattle.llrp_schema.specs.declared.kinds.Kind.TheVariants.{Parameter}
use Rattle.llrp_schema.specs.Schema.{plain_fields_of}
use Rattle.llrp_tree.specs.OpenTree.{Begun, due, kind_of_head, plain_values, rules, Rest}
use Rattle.llrp_json.specs.JsonValues.{inside}
use Rattle.llrp_json.specs.JsonLines.{IsMessageJson}

-- the words of some octets, with a comma before each but the first where none came before
abbrev pub words_after : Bool → List ℕ → List ℕ
words_after false octets = join_with_byte 44 (map decimal (words_of octets))
words_after true octets = flat_map (λ word. 44 ∷ word) (map decimal (words_of octets))

-- octets of a tail, after words or as the first
abbrev pub more_of : Tail → Bool → List ℕ → List ℕ
more_of Absent some octets = []
more_of Words some octets = words_after some octets
more_of Text some octets = inside octets
more_of Bits some octets = encode_lower octets
more_of Data some octets = encode_lower octets

-- what the object of a node ends with, after parameters or without any
abbrev pub at_end : Bool → List ℕ
at_end false = 125 ∷ []
at_end true = 93 ∷ 125 ∷ []

-- one parameter of a type and a value
abbrev pub one_parameter : ParamKind → ℕ → Forest
one_parameter kind value = and none kind (value ∷ []) [] none

-- A node that has its fields and its tail.
pub record IsFull (b : Begun) : Type 0 where
  pub ready : due b ≡ Rest
  pub fields : length (plain_values (rules b) b.fields) ≡ length (plain_fields_of (kind_of_head b.head))

-- the innermost node is a parameter, and it is full
abbrev pub CanBeClosed : List Begun → Type 0
CanBeClosed [] = ⊥
CanBeClosed (b ∷ outer) = IsFull b × ((kind : ParamKind) × (kind_of_head b.head ≡ Parameter kind))

-- the object of a message and LF are appended
abbrev pub AppendsMessage : MessageTree → List ℕ → List ℕ → Type 0
AppendsMessage m old new = (text : List ℕ) × IsMessageJson m text × (new ≡ old ++ (text ++ 10 ∷ []))
