-- The lines of a parameter.
use Rattle.std.specs.Prelude.{ℕ, suc, List, ◌++◌}
use Rattle.llrp_schema.specs.declared.kinds.Kind.TheVariants.{Parameter}
use Rattle.llrp_schema.specs.Schema.{fields_of, tail_of}
use Rattle.llrp_tree.specs.Tree.{Tree}
use Rattle.llrp_tree.specs.Lawful.{tree_octets}
use Rattle.llrp_tree.specs.Spelling.{head_of, spread}
use Rattle.llrp_explain.specs.Calls.ExplainLines.{ExplainLine, head_lines, field_lines, tail_lines, forest_lines}

-- the lines of a parameter at a level
abbrev pub tree_lines : ℕ → Tree → List ExplainLine
tree_lines level t =
    head_lines level (head_of t.kind (tree_octets t))
    ++ ((field_lines level (fields_of (Parameter t.kind)) (spread (fields_of (Parameter t.kind)) t.fields) ++ tail_lines level (tail_of (Parameter t.kind)) t.tail)
    ++ forest_lines (suc level) t.children)
