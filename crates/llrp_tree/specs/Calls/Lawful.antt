-- Beside Lawful: what contracts say that no promise rests on.
use Rattle.std.specs.Prelude.{ℕ, ◌+◌, List}
use Rattle.llrp_schema.specs.declared.kinds.Kind.{Kind}
use Rattle.llrp_schema.specs.declared.kinds.Kind.TheVariants.{Message, Parameter}
use Rattle.llrp_tree.specs.Lawful.{body_octets, head_octets}

-- ---- levels and octets

-- the octets of a node without its children
abbrev pub own_octets : Kind → List ℕ → ℕ
own_octets (Message kind) tail = 10 + body_octets (Message kind) tail
own_octets (Parameter kind) tail = head_octets kind + body_octets (Parameter kind) tail
