-- Beside Spelling: what contracts say that no promise rests on.
use Rattle.std.specs.Prelude.{◌+◌, List, ◌++◌, Bool}
use Rattle.llrp_schema.specs.declared.kinds.Kind.TheVariants.{Parameter}
use Rattle.llrp_tree.specs.Tree.{Tree}
use Rattle.llrp_tree.specs.Lawful.{head_octets, body_octets, octets}
use Rattle.llrp_tree.specs.Spelling.{head_digits, head_of, body_digits, forest_digits}

abbrev pub tree_digits : Tree → List Bool
tree_digits t = head_digits (head_of t.kind (head_octets t.kind + body_octets (Parameter t.kind) t.tail + octets t.children)) ++ (body_digits (Parameter t.kind) t.fields t.tail ++ forest_digits t.children)
