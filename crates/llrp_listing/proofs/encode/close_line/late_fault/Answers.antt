use Rattle.std.proofs.Common.{lit<, ◌≡◌, ℕ, ◌+◌, [], ◌∷◌, Bool, false, true, sym, ap, subst, ◌∙◌}
use Rattle.std.specs.Prelude.{nat_le}
use Rattle.llrp_schema.specs.declared.kinds.Kind.{Kind}
use Rattle.llrp_schema.specs.declared.kinds.Kind.TheVariants.{Message, Parameter}
use Rattle.llrp_schema.specs.Schema.{groups_of}
use Rattle.llrp_tree.specs.declared.TheConstants.{MAX_DEPTH, MAX_LIMIT, MAX_OCTETS}
use Rattle.llrp_tree.specs.declared.node.NodeFault.TheVariants.{TooDeep, TooLong}
use Rattle.llrp_tree.specs.Checks.{first_failed, none_missing}
use Rattle.llrp_tree.specs.Tree.{trees}
use Rattle.llrp_tree.specs.Lawful.{levels}
use Rattle.llrp_listing.specs.declared.encode.open_lines.LineRecord.{LineRecord}
use Rattle.llrp_listing.specs.Private.OpenNodes.{IsHeld, OpenNode, node_octets, size_tests}
use Rattle.llrp_stream.specs.Calls.Reading.{AreSeen}
use Rattle.llrp_listing.proofs.NodeFaults.{missing_told, size_told, size_test}
use Rattle.llrp_listing.proofs.encode.close_line.late_fault.Goals as goal

-- whether there are enough children, as the record has it
enough : (held : LineRecord) (n : OpenNode) (b : Bool) → IsHeld held n → b ≡ none_missing (groups_of held.kind) (trees n.children) → none_missing (groups_of n.line.kind) (trees n.children) ≡ b
enough held n b h e = ap (λ (k : Kind). none_missing (groups_of k) (trees n.children)) (sym h.kind) ∙ sym e

seen_of : (held : LineRecord) (n : OpenNode) → IsHeld held n → AreSeen (groups_of held.kind) n.children held.seen
seen_of held n h = subst (λ (k : Kind). AreSeen (groups_of k) n.children held.seen) (sym h.kind) h.seen

-- the tests of the size, as the record has it
size_of : (held : LineRecord) (n : OpenNode) (kind : Kind) → IsHeld held n → held.kind ≡ kind → first_failed (size_tests n.line.kind n.line.tail n.children) ≡ first_failed (size_tests kind n.line.tail n.children)
size_of held n kind h e = ap (λ (k : Kind). first_failed (size_tests k n.line.tail n.children)) (sym h.kind ∙ e)

message_size : (held : LineRecord) (n : OpenNode) (kind : _) → IsHeld held n → held.kind ≡ Message kind → first_failed ((nat_le held.octets MAX_LIMIT, TooLong) ∷ []) ≡ first_failed (size_tests n.line.kind n.line.tail n.children)
message_size held n kind h e =
    ap (λ (b : Bool). first_failed ((b, TooLong) ∷ [])) (ap (λ (o : ℕ). nat_le o MAX_LIMIT) h.octets ∙ size_test (node_octets n) MAX_LIMIT (lit< tt))
    ∙ ap (λ (k : Kind). first_failed ((nat_le (node_octets (record n { line = record n.line { kind = k } })) MAX_LIMIT, TooLong) ∷ [])) (sym h.kind ∙ e)
    ∙ sym (size_of held n (Message kind) h e)

parameter_size : (held : LineRecord) (n : OpenNode) (kind : _) → IsHeld held n → held.kind ≡ Parameter kind → first_failed ((nat_le (held.levels + 1) MAX_DEPTH, TooDeep) ∷ (nat_le held.octets MAX_OCTETS, TooLong) ∷ []) ≡ first_failed (size_tests n.line.kind n.line.tail n.children)
parameter_size held n kind h e =
    ap (λ (l : ℕ). first_failed ((nat_le (l + 1) MAX_DEPTH, TooDeep) ∷ (nat_le held.octets MAX_OCTETS, TooLong) ∷ [])) h.levels
    ∙ ap (λ (b : Bool). first_failed ((nat_le (levels n.children + 1) MAX_DEPTH, TooDeep) ∷ (b, TooLong) ∷ [])) (ap (λ (o : ℕ). nat_le o MAX_OCTETS) h.octets ∙ size_test (node_octets n) MAX_OCTETS (lit< tt))
    ∙ ap (λ (k : Kind). first_failed ((nat_le (levels n.children + 1) MAX_DEPTH, TooDeep) ∷ (nat_le (node_octets (record n { line = record n.line { kind = k } })) MAX_OCTETS, TooLong) ∷ [])) (sym h.kind ∙ e)
    ∙ sym (size_of held n (Parameter kind) h e)

pub returns-then-not-is_enough : goal.returns-then-not-is_enough
returns-then-not-is_enough c = λ n h none.
    let held = c.args.held.now in
    sym (missing_told n.line n.children (sym h.fault ∙ none) (enough held n false h (sym (c.if-not-is_enough.true) ∙ c.is_enough.ensures n.children (seen_of held n h))))

pub returns-in-Message : goal.returns-in-Message
returns-in-Message c = λ n h none.
    let held = c.args.held.now in
    c.message_size_fault.ensures ∙ message_size held n c.in-Message.field-0 h c.in-Message.is ∙ sym (size_told n.line n.children (sym h.fault ∙ none) (enough held n true h (sym (c.if-not-is_enough.false) ∙ c.is_enough.ensures n.children (seen_of held n h))))

pub returns-in-Parameter : goal.returns-in-Parameter
returns-in-Parameter c = λ n h none.
    let held = c.args.held.now in
    c.size_fault.ensures ∙ parameter_size held n c.in-Parameter.field-0 h c.in-Parameter.is ∙ sym (size_told n.line n.children (sym h.fault ∙ none) (enough held n true h (sym (c.if-not-is_enough.false) ∙ c.is_enough.ensures n.children (seen_of held n h))))
