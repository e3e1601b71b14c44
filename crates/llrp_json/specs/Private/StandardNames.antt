-- An open tree under the names of the whole standard.
use Rattle.std.specs.Prelude.{◌≡◌, List, [], ◌∷◌, length, drop}
use Rattle.llrp_schema.specs.Schema.{FieldRule, fields_of}
use Rattle.llrp_tree.specs.Spelling.{Head, message, tlv, tv}
use Rattle.llrp_tree.specs.OpenTree.{Begun, kind_of_head}
use Rattle.llrp_tree.specs.Calls.Standing.{begin_node}
use Rattle.llrp_json.specs.JsonNames.{standard_forest, standard_message, standard_parameter}

-- the head of a node with the number of this one
abbrev pub standard_head : Head → Head
standard_head (message version kind octets id) = message version (standard_message kind) octets id
standard_head (tlv kind octets) = tlv (standard_parameter kind) octets
standard_head (tv kind) = tv (standard_parameter kind)

-- a begun node with the same values
abbrev pub standard_node : Begun → Begun
standard_node b = begin_node (standard_head b.head) b.stop b.fields b.tail (standard_forest b.children)

-- begun nodes with the same values
abbrev pub standard_chain : List Begun → List Begun
standard_chain [] = []
standard_chain (b ∷ outer) = standard_node b ∷ standard_chain outer

-- these are the standard's rows of the fields that the innermost node awaits
abbrev pub AreAwaited : List Begun → List FieldRule → Type 0
AreAwaited [] rows = ⊥
AreAwaited (b ∷ outer) rows = rows ≡ drop (length b.fields) (fields_of (kind_of_head (standard_head b.head)))
