-- Lines that are closed, as the laws of listings have them.
use Rattle.std.proofs.Common.{◌≡◌, ℕ, suc, ◌<◌, ◌≤◌, List, [], ◌∷◌, length, None, refl, sym, ap, ◌∙◌, subst, arith}
use Rattle.llrp_schema.specs.declared.kinds.ParamKind.{ParamKind}
use Rattle.llrp_schema.specs.declared.kinds.Kind.{Kind}
use Rattle.llrp_schema.specs.declared.kinds.Kind.TheVariants.{Parameter}
use Rattle.llrp_schema.specs.Schema.{tail_of}
use Rattle.llrp_tree.specs.Checks.{first_fault}
use Rattle.llrp_tree.specs.Lawful.{AreLawful}
use Rattle.llrp_tree.proofs.LawLemmas.{lawful_from}
use Rattle.llrp_listing.specs.ListingRules.{closing, kind_closing, lines_onto, node_refusal}
use Rattle.llrp_listing.specs.NodeLine.{NodeLine, parameter_line}
use Rattle.llrp_listing.specs.Private.OpenLines.{Closed, Entry, entry, open_over}
use Rattle.llrp_listing.specs.OpenText.{Outline, end, node}
use Rattle.llrp_listing.specs.Private.OpenTextSteps.{join}
use Rattle.llrp_listing.proofs.Closings.{close_sound, closed_none, closed_trans, length_chain}
use Rattle.llrp_listing.proofs.Zips.{zip_length}
use Rattle.llrp_listing.proofs.Growing.{cut_one}
use Rattle.llrp_listing.proofs.TreeLines.{lines_join, parameters_back}
use Rattle.llrp_listing.specs.declared.encode.open_lines.LineRecord.{LineRecord}
use Rattle.llrp_listing.specs.Private.OpenNodes.{IsHeld, OpenNode, entries, entry_of, kind_fault, node_fault, with_child}
use Rattle.llrp_listing.specs.declared.encode.buffer.Refused.{Refused}
use Rattle.llrp_listing.specs.declared.encode.buffer.EncodeBuffer.{EncodeBuffer}
use Rattle.llrp_listing.specs.Private.EncodeBuffer.{ClosedSoFar, ClosesOne, Fails, FailsOne, Holds, inner}
use Rattle.llrp_listing.proofs.NodeFaults.{tail_octets}

-- ---- whether a line can be closed

pub parameter_closes : (kind : ParamKind) (n : OpenNode) (limit : ℕ) → n.line.kind ≡ Parameter kind → closing limit n.line (lines_onto n.children end) ≡ node_refusal (node_fault n.line n.children)
parameter_closes kind n limit is =
    ap (λ (k : Kind). kind_closing limit k n.line.numbers n.line.tail (lines_onto n.children end)) is
    ∙ ap node_refusal (ap (first_fault kind n.line.numbers n.line.tail) (parameters_back n.children))
    ∙ sym (ap (λ (k : Kind). node_refusal (kind_fault k n.line.numbers n.line.tail n.children)) is)

pub parameter_lawful : (held : LineRecord) (n : OpenNode) (kind : ParamKind) → IsHeld held n → n.line.kind ≡ Parameter kind → node_fault n.line n.children ≡ None → AreLawful kind n.line.numbers n.line.tail n.children
parameter_lawful held n kind h is fine =
    lawful_from kind n.line.numbers n.line.tail n.children (tail_octets (tail_of n.line.kind) n.line.tail h.said.tail)
    (sym (ap (λ (k : Kind). kind_fault k n.line.numbers n.line.tail n.children) is) ∙ fine)

-- ---- one closing

closed_top : (e parent : Entry) (rest : List Entry) → ((limit : ℕ) → closing limit e.begun.head e.begun.below ≡ None) → Closed (e ∷ parent ∷ rest) (entry parent.begun.head (join parent.begun.below (node e.begun.head e.begun.below end)) parent.number ∷ rest)
closed_top e parent rest can = record {
  fewer = omega arith;
  is = λ whole. cut_one (length (parent ∷ rest)) (open_over whole (e ∷ parent ∷ rest)) (length_chain (e ∷ parent ∷ rest));
  sound = λ limit whole s. close_sound limit whole e.begun (open_over whole (parent ∷ rest)).chain (can limit) s;
  numbered = λ whole n. n.1;
}

line_is : (kind : ParamKind) (line : NodeLine) → line.kind ≡ Parameter kind → line ≡ parameter_line kind line.numbers line.tail
line_is kind line is = ap (λ (k : Kind). record line { kind = k }) is

pub closed_line : (kind : ParamKind) (n p : OpenNode) (outer : List OpenNode) → n.line.kind ≡ Parameter kind → node_fault n.line n.children ≡ None → Closed (entries (n ∷ p ∷ outer)) (entries (with_child kind n p ∷ outer))
closed_line kind n p outer is fine =
    subst (λ (f : Outline NodeLine). Closed (entries (n ∷ p ∷ outer)) (entry p.line f p.number ∷ entries outer))
    (sym (lines_join p.children end (node n.line (lines_onto n.children end) end)) ∙ ap (λ (l : NodeLine). lines_onto p.children (node l (lines_onto n.children end) end)) (line_is kind n.line is))
    (closed_top (entry_of n) (entry_of p) (entries outer) (λ limit. parameter_closes kind n limit is ∙ ap node_refusal fine))

-- ---- lines that are closed one after the other

pub length_entries : (ns : List OpenNode) → length (entries ns) ≡ length ns
length_entries [] = refl
length_entries (n ∷ ns) = ap suc (length_entries ns)

pub so_far_none : (writer : EncodeBuffer) (at depth : ℕ) (out more : List ℕ) (ns : List OpenNode) → Holds writer at out more ns → ClosedSoFar writer at depth out more ns
so_far_none writer at depth out more ns h = record { left = ns; holds = h; closed = closed_none (entries ns); are = λ le. le }

pub so_far_more : (old new : EncodeBuffer) (at depth : ℕ) (out more : List ℕ) (ns : List OpenNode) → ClosesOne old new at → 1 ≤ depth → (s : ClosedSoFar old at depth out more ns) → depth < length s.left → ClosedSoFar new at depth out more ns
so_far_more old new at depth out more ns one least s lt = on s.left s.holds s.closed lt
  where
    on : (left : List OpenNode) → Holds old at out more left → Closed (entries ns) (entries left) → depth < length left → ClosedSoFar new at depth out more ns
    on [] h c lt = absurd (omega (arith, lt))
    on (n ∷ []) h c lt = absurd (omega (arith, lt, least))
    on (n ∷ p ∷ outer) h c lt =
        let kind = h.chain.0.0 in
        let is = h.chain.0.1 in
        let r = one out more n p outer kind h is in
        record {
          left = with_child kind n p ∷ outer;
          holds = r.1;
          closed = closed_trans (entries ns) (entries (n ∷ p ∷ outer)) (entries (with_child kind n p ∷ outer)) c (closed_line kind n p outer is r.0);
          are = λ le. omega (arith, lt);
        }

pub left_shorter : (old new : EncodeBuffer) (at depth : ℕ) (out more : List ℕ) (left : List OpenNode) → ClosesOne old new at → 1 ≤ depth → Holds old at out more left → depth < length left → length (inner new.rows) < length (inner old.rows)
left_shorter old new at depth out more [] one least h lt = absurd (omega (arith, lt))
left_shorter old new at depth out more (n ∷ []) one least h lt = absurd (omega (arith, lt, least))
left_shorter old new at depth out more (n ∷ p ∷ outer) one least h lt =
    let kind = h.chain.0.0 in
    let r = one out more n p outer kind h h.chain.0.1 in
    omega (arith, zip_length IsHeld (inner old.rows) (n ∷ p ∷ outer) h.rows, zip_length IsHeld (inner new.rows) (with_child kind n p ∷ outer) r.1.rows)

pub stops_at : (old : EncodeBuffer) (at depth : ℕ) (out more : List ℕ) (ns : List OpenNode) (e : Refused) (limit : ℕ) → FailsOne old at e → 1 ≤ depth → (s : ClosedSoFar old at depth out more ns) → depth < length s.left → Fails limit depth ns e
stops_at old at depth out more ns e limit bad least s lt = on s.left s.holds s.closed lt
  where
    on : (left : List OpenNode) → Holds old at out more left → Closed (entries ns) (entries left) → depth < length left → Fails limit depth ns e
    on [] h c lt = absurd (omega (arith, lt))
    on (n ∷ []) h c lt = absurd (omega (arith, lt, least))
    on (n ∷ p ∷ outer) h c lt =
        let kind = h.chain.0.0 in
        let r = bad out more n (p ∷ outer) kind h h.chain.0.1 in
        record { top = entry_of n; outer = entries (p ∷ outer); closed = c; reached = omega (arith, lt, length_entries outer); number_is = r.0; refused = r.1 limit }
