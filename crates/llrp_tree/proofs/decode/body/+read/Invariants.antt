use Rattle.std.proofs.Common.{◌≡◌, ◌+◌, ◌*◌, ◌≤◌, List, [], ◌∷◌, length, ◌-◌}
use Rattle.tag_bits.specs.Digits.{digits_of_bytes}
use Rattle.llrp_schema.specs.Schema.{fields_of, tail_of}
use Rattle.llrp_tree.specs.Tree.{forest}
use Rattle.llrp_tree.specs.Spelling.{Head, spread}
use Rattle.llrp_tree.specs.OpenTree.{Begun, kind_of_head}
use Rattle.llrp_tree.specs.Calls.OpenTree.{as_read}
use Rattle.llrp_tree.specs.declared.TheConstants.{MAX_DEPTH}
use Rattle.llrp_tree.specs.Calls.Standing.{IsAt, begin_node, leading}
use Rattle.llrp_tree.proofs.decode.body.+read.Given as goal

abbrev pub decreases-read_body : goal.decreases-read_body
decreases-read_body l = 2 * (MAX_DEPTH - l.level)

abbrev pub decreases-read_tlv : goal.decreases-read_tlv
decreases-read_tlv l = 2 * (MAX_DEPTH - l.level) + 1

abbrev pub invariant-read_body-children : goal.invariant-read_body-children
invariant-read_body-children l = record {
  after : l.from ≤ l.at;
  before : l.at ≤ l.stop;
  read : (h : Head) (outer : List Begun) → kind_of_head h ≡ l.kind → length outer ≡ l.level → IsAt (digits_of_bytes l.frame) (leading h (8 * l.stop) [] ∷ outer) (8 * l.from)
      → IsAt (digits_of_bytes l.frame) (begin_node h (8 * l.stop) (spread (fields_of l.kind) l.fields.items) (as_read (tail_of l.kind) l.tail.octets) (forest l.children.items) ∷ outer) (8 * l.at);
}

abbrev pub decreases-read_body-children : goal.decreases-read_body-children
decreases-read_body-children l = l.stop - l.at
