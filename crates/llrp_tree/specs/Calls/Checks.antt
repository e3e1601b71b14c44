-- Beside Checks: what contracts say that no promise rests on.
use Rattle.std.specs.Prelude.{ℕ, List, [], ◌∷◌, Bool}
use Rattle.llrp_schema.specs.declared.kinds.Kind.{Kind}
use Rattle.llrp_schema.specs.Schema.{fields_of, tail_of}
use Rattle.llrp_tree.specs.declared.node.NodeFault.{NodeFault}
use Rattle.llrp_tree.specs.declared.node.NodeFault.TheVariants.{Value, Tail as BadTail}
use Rattle.llrp_tree.specs.Checks.{values_fit, tail_fits}

-- the tests of a node's own values and tail, the first of which a message's version may fail besides
abbrev pub own_tests : Kind → List ℕ → List ℕ → List (Bool × NodeFault)
own_tests kind values tail = (values_fit (fields_of kind) values, Value) ∷ (tail_fits (tail_of kind) values tail, BadTail) ∷ []
