-- What the printer of a frame holds.
use Rattle.std.specs.Prelude.{◌≡◌, ◌⊎◌, ℕ, suc, ◌+◌, ◌*◌, ◌%◌, ◌≤◌, List, [], ◌∷◌, ◌++◌, length, drop, Bool, true, false, Option, Some, None}
use Rattle.tag_bits.specs.Digits.{digits_of_bytes}
use Rattle.llrp_schema.specs.declared.kinds.Tail.{Tail}
use Rattle.llrp_tree.specs.declared.fault.Fault.{Fault}
use Rattle.llrp_tree.specs.declared.fault.Reason.TheVariants.{Utf8}
use Rattle.llrp_tree.specs.Tree.{none}
use Rattle.llrp_tree.specs.OpenTree.{Begun, form, covers, IsOpenTree}
use Rattle.llrp_tree.specs.FirstFault.{next_fault}
use Rattle.llrp_tree.specs.Calls.Deciding.{deciding}
use Rattle.llrp_tree.specs.Calls.Standing.{leading}
use Rattle.llrp_stream.specs.Calls.Received.{without_tail}
use Rattle.llrp_explain.specs.declared.printer.FramePrinter.{FramePrinter}
use Rattle.llrp_explain.specs.Calls.ExplainLines.{open_lines}
use Rattle.llrp_explain.specs.Calls.FaultSentences.{refusal_text}
use Rattle.llrp_explain.specs.Calls.Printed.{Holds}

-- the form of the tail of a node, and its octets so far, if it is begun
abbrev pub IsPending : Option Tail → List ℕ → Begun → Type 0
IsPending None octets b = b.tail ≡ None
IsPending (Some f) octets b = (form b ≡ f) × (b.tail ≡ Some octets)

-- It holds the lines of an open tree whose innermost node awaits more; those of its tail come when that is whole.
abbrev pub Begins : FramePrinter → List Begun → Type 0
Begins printer [] = ⊥
Begins printer (b ∷ outer) = Holds [] (open_lines (leading b.head b.stop b.fields ∷ outer)) printer.lines × (printer.depth ≡ suc (length outer)) × (b.children ≡ none) × IsPending printer.form printer.tail.items b

-- the same, where the innermost node has all its fields and its tail
abbrev pub Stands : FramePrinter → List Begun → Type 0
Stands printer [] = Unit {0}
Stands printer (b ∷ outer) = Holds [] (open_lines (b ∷ outer)) printer.lines × (printer.depth ≡ suc (length outer))

-- the open tree of which a fault is one: that which was received, or where text is no UTF-8 that before the tail
abbrev pub IsTreeOf : List Begun → Fault → (tree : List Begun) → Type 0
IsTreeOf t fault tree = (t ≡ tree) ⊎ ((fault.reason ≡ Utf8) × (without_tail t ≡ tree))

-- These are the digits after an open tree: the first of them stands in the first of the octets that were handed on, and those decide the tree's next checks.
pub record AreHanded (tree : List Begun) (handed : List ℕ) (rest : List Bool) : Type 0 where
  pub later : List Bool
  pub are : rest ≡ drop (length (covers tree) % 8) (digits_of_bytes handed ++ later)
  pub decide : deciding tree rest + length (covers tree) % 8 ≤ length (covers tree) + 8 * length handed

-- It has the text of what is refused after the open tree, and of the fault.
abbrev pub RefusesPart : List Begun → (handed : List ℕ) → Fault → (text : List ℕ) → Type 0
RefusesPart t handed fault text =
    (tree : List Begun) (rest : List Bool) → IsTreeOf t fault tree → IsOpenTree tree → length (covers tree) ≤ 4294967000 → (fault.reason ≡ Utf8) ⊎ AreHanded tree handed rest → next_fault tree rest ≡ Some (fault.bit, fault.reason)
    → text ≡ refusal_text tree fault.bit fault.reason rest

-- Of a faulty frame it holds the lines of the open tree of which the fault is one and the text of what is refused, or the octets of the header, unless memory ran out.
abbrev pub IsRefusal : FramePrinter → List Begun → List ℕ → Fault → Type 0
IsRefusal printer [] handed fault = (printer.of_header ≡ true) × (printer.failed ≡ false → printer.tail.items ≡ handed)
IsRefusal printer (b ∷ outer) handed fault =
    (printer.of_header ≡ false)
    × ((tree : List Begun) → IsTreeOf (b ∷ outer) fault tree → (fault.reason ≡ Utf8 → tree ≡ without_tail tree) → Holds [] (open_lines tree) printer.lines)
    × (printer.failed ≡ false → RefusesPart (b ∷ outer) handed fault printer.refused.items)
