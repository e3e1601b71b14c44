-- Beside OpenTree: what contracts say that no promise rests on.
use Rattle.std.specs.Prelude.{ℕ, ◌+◌, if◌then◌else◌, List, [], ◌∷◌, length, Option, Some, None}
use Rattle.llrp_schema.specs.declared.kinds.Kind.TheVariants.{Parameter}
use Rattle.llrp_schema.specs.declared.kinds.Tail.{Tail}
use Rattle.llrp_schema.specs.Schema.{fields_of, tail_of}
use Rattle.llrp_tree.specs.Tree.{Forest, none, and}
use Rattle.llrp_tree.specs.OpenTree.{Begun, form, has_tail}

-- ---- the counted parts: heads, fields, tails and closings

abbrev pub tail_parts : Option (List ℕ) → ℕ
tail_parts None = 0
tail_parts (Some octets) = 1

-- a tail that a kind has is read
abbrev pub as_read : Tail → List ℕ → Option (List ℕ)
as_read form octets = if has_tail form then Some octets else None

unfoldable pub whole_parts : Forest → ℕ
whole_parts none = 0
whole_parts (and before kind fields tail children) = whole_parts before + (2 + length (fields_of (Parameter kind)) + tail_parts (as_read (tail_of (Parameter kind)) tail) + whole_parts children)

-- how many parts an open tree has
unfoldable pub parts : List Begun → ℕ
parts [] = 0
parts (b ∷ outer) = parts outer + (1 + length b.fields + tail_parts b.tail + whole_parts b.children)
