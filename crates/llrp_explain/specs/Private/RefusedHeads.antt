-- The heads and counts of which the first fields may be refused.
use Rattle.std.specs.Prelude.{List, [], ◌∷◌, Bool, true, false, codes}
use Rattle.llrp_schema.specs.declared.kinds.Tail.{Tail}
use Rattle.llrp_schema.specs.declared.kinds.Tail.TheVariants.{Absent, Words, Text, Bits, Data}
use Rattle.llrp_explain.specs.Calls.FaultLines.{NamedBits, named}

-- the fields of a header before its id, and of the head of a child with type, length and value
abbrev pub header_head : List NamedBits
header_head = named (codes "reserved") 3 ∷ named (codes "Version") 3 ∷ named (codes "MessageType") 10 ∷ named (codes "MessageLength") 32 ∷ []

abbrev pub tlv_head : List NamedBits
tlv_head = named (codes "reserved") 6 ∷ named (codes "ParameterType") 10 ∷ named (codes "ParameterLength") 16 ∷ []

-- a tail of words or text begins with its count
abbrev pub is_counted : Tail → Bool
is_counted Absent = false
is_counted Words = true
is_counted Text = true
is_counted Bits = false
is_counted Data = false
