use Rattle.std.proofs.Common.{◌≡◌, ◌+◌, ◌*◌, ◌≤◌, List, [], ◌∷◌, length, take, map}
use Rattle.tag_bits.specs.Digits.{digits_of_bytes}
use Rattle.llrp_schema.specs.Calls.Schema.{field_rule}
use Rattle.llrp_schema.specs.Schema.{bits_of}
use Rattle.llrp_tree.specs.Spelling.{Head, spread}
use Rattle.llrp_tree.specs.OpenTree.{Begun, kind_of_head}
use Rattle.llrp_tree.specs.Calls.Standing.{IsAt, leading}
use Rattle.llrp_tree.proofs.Leading.{plain}
use Rattle.llrp_tree.proofs.decode.fields.read_fields.Given as goal

abbrev pub invariant-loop-rule : goal.invariant-loop-rule
invariant-loop-rule l = record {
  after : 8 * l.from ≤ l.at;
  before : l.at ≤ 8 * l.stop;
  width : l.at ≡ 8 * l.from + bits_of (take l.rule-index (map field_rule l.rules));
  count : length l.values.items ≡ length (plain (take l.rule-index (map field_rule l.rules)));
  read : (h : Head) (outer : List Begun) → kind_of_head h ≡ l.fn.kind → IsAt (digits_of_bytes l.frame) (leading h (8 * l.stop) [] ∷ outer) (8 * l.from)
      → IsAt (digits_of_bytes l.frame) (leading h (8 * l.stop) (spread (take l.rule-index (map field_rule l.rules)) l.values.items) ∷ outer) l.at;
}
