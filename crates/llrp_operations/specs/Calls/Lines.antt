-- The lines of results.
use Rattle.std.specs.Prelude.{ℕ, List, [], ◌∷◌, ◌++◌, Option, Some, None, codes, decimal, option_map, if◌then◌else◌}
use Rattle.std.specs.Borrow.{Bor}
use Rattle.hex.specs.Hex.{encode_lower}
use Rattle.tag_memory.specs.declared.bank.Bank.{Bank}
use Rattle.llrp_tree.specs.Tree.{Tree}
use Rattle.llrp_tree.specs.declared.node.Node.{Node}
use Rattle.llrp_operations.specs.declared.operation.Operation.{Operation}
use Rattle.llrp_operations.specs.declared.operation.Operation.TheVariants.{Read, Write, Lock}
use Rattle.llrp_operations.specs.Calls.ResultNames.{has_name, result_name}
use Rattle.llrp_operations.specs.Calls.Results.{field_at}
use Rattle.llrp_operations.specs.Calls.Words.{bank_name, field_name, manner_name}

-- the result that a reference is to
abbrev pub referred : Option (Bor Node) → Option Tree
referred said = option_map (λ t. t.now) said

-- what an operation does: BANK:WORD:COUNT, BANK:WORD or FIELD=HOW
abbrev pub place : Bank → ℕ → List ℕ
place bank pointer = bank_name bank ++ (codes ":" ++ decimal pointer)

abbrev pub operation_text : Operation → List ℕ
operation_text (Read bank pointer count) = codes "read " ++ (place bank pointer ++ (codes ":" ++ decimal count))
operation_text (Write bank pointer words) = codes "write " ++ place bank pointer
operation_text (Lock field manner) = codes "lock " ++ (field_name field ++ (codes "=" ++ manner_name manner))

-- the name of its result, the first field; a number that has none stands after it
abbrev pub number_after : Operation → ℕ → List ℕ
number_after o n = if has_name o n then [] else (codes " " ++ decimal n)

abbrev pub name_of : Operation → Option Tree → List ℕ
name_of o None = codes "NoResult"
name_of o (Some t) = result_name o (field_at 0 t) ++ number_after o (field_at 0 t)

-- the octets of the words that were read, the tail of the result
abbrev pub words_of : Option Tree → List ℕ
words_of None = []
words_of (Some t) = t.tail

abbrev pub words_text : (before words after : List ℕ) → List ℕ
words_text before [] after = []
words_text before (w ∷ ws) after = before ++ (encode_lower (w ∷ ws) ++ after)

-- of the tag with this name
abbrev pub result_line : (tag : List ℕ) → Operation → Option Tree → List ℕ
result_line tag o said = tag ++ (codes " " ++ operation_text o) ++ (codes " " ++ (name_of o said ++ (words_text (codes " ") (words_of said) [] ++ codes "\n")))

abbrev pub whose : (tag : List ℕ) → List ℕ
whose tag = codes "{\"epc\":\"" ++ (tag ++ codes "\"")

abbrev pub what : Operation → List ℕ
what o = codes ",\"operation\":\"" ++ (operation_text o ++ codes "\"")

abbrev pub head : (tag : List ℕ) → Operation → List ℕ
head tag o = whose tag ++ what o

abbrev pub called : Operation → Option Tree → List ℕ
called o said = codes ",\"result\":\"" ++ (name_of o said ++ codes "\"")

abbrev pub result_object : (tag : List ℕ) → Operation → Option Tree → List ℕ
result_object tag o said = head tag o ++ (called o said ++ (words_text (codes ",\"words\":\"") (words_of said) (codes "\"") ++ codes "}\n"))
