-- A line that begins.
use Rattle.std.proofs.Common.{◌≡◌, ℕ, suc, ◌+◌, ◌*◌, ◌-◌, ◌≤◌, Bool, true, false, List, [], ◌∷◌, ◌++◌, length, take, drop, get_or, refl, sym, ap, ◌∙◌, subst, arith, inl, inr, append_assoc, length-append}
use Rattle.std.specs.Prelude.{if◌then◌else◌}
use Rattle.std.proofs.lemmas.Bool.{cases_lt, le-leb, lt-leb}
use Rattle.std.proofs.lemmas.List.{append-nil}
use Rattle.std.proofs.Math.Seq.{take-append_seam}
use Rattle.tag_bits.specs.Digits.{digits_of_bytes}
use Rattle.tag_bits.proofs.ByteLemmas.{bytes-append, length-bytes}
use Rattle.llrp_tree.specs.declared.TheConstants.{MAX_DEPTH}
use Rattle.llrp_schema.specs.declared.kinds.Kind.{Kind}
use Rattle.llrp_schema.specs.declared.kinds.Kind.TheVariants.{Message, Parameter}
use Rattle.llrp_tree.specs.Lawful.{AreOctets, octets}
use Rattle.llrp_tree.specs.Calls.Lawful.{own_octets}
use Rattle.llrp_tree.specs.Spelling.{body_digits, head_digits, message, forest_digits}
use Rattle.llrp_tree.specs.Tree.{MessageTree}
use Rattle.llrp_tree.proofs.LengthLemmas.{length-body_digits, length-message_head, length-spell}
use Rattle.llrp_listing.specs.Private.Encoder.{Appended}
use Rattle.llrp_listing.specs.LineChecks.{IsOpenLevel}
use Rattle.llrp_listing.specs.NodeLine.{NodeLine}
use Rattle.llrp_listing.specs.Private.OpenLines.{AllClosed, Begins, Closed, Entry, IsSound, entry, lines_below, open_of}
use Rattle.llrp_listing.specs.OpenText.{lines_covered}
use Rattle.llrp_listing.specs.Private.OpenTextSteps.{depth, push}
use Rattle.llrp_listing.proofs.Closings.{all_closed_more, begins_parameter, closed_trans}
use Rattle.llrp_listing.proofs.Growing.{covers_pop}
use Rattle.llrp_listing.proofs.Rows.{frames_nothing}
use Rattle.llrp_listing.specs.declared.encode.line_octets.PutLine.{PutLine}
use Rattle.llrp_listing.specs.declared.encode.open_lines.LineRecord.{LineRecord}
use Rattle.llrp_listing.specs.declared.encode.buffer.Refused.{Refused}
use Rattle.llrp_listing.specs.declared.encode.buffer.EncodeBuffer.{EncodeBuffer}
use Rattle.llrp_listing.specs.Private.EncodeBuffer.{CanBegin, CanStandAt, ClosedAll, ClosedTo, Fails, Front, Holds, KeepsFront, BeginsLine, OpensLine, all_kept, cut_to, inner}
use Rattle.llrp_listing.specs.Private.OpenNodes.{AreHeld, AreKept, IsChain, IsDoomed, IsPut, OpenNode, chain_digits, chain_octets, entries, line_digits, new_node, node_digits}
use Rattle.llrp_schema.specs.declared.kinds.ParamKind.{ParamKind}
use Rattle.llrp_listing.proofs.Chains.{length-line}
use Rattle.llrp_tree.proofs.OctetLemmas.{octets-append as octets_append}
use Rattle.llrp_listing.proofs.LineSteps.{length_entries}

-- ---- how many octets there are

length-line_of : (kind : Kind) (numbers tail : List ℕ) → length (line_digits kind numbers tail) ≡ 8 * own_octets kind tail
unfolding line_digits
length-line_of (Message kind) numbers tail = length-append (head_digits (message (get_or numbers 0 0) kind 0 (get_or numbers 1 0))) (body_digits (Message kind) (drop 2 numbers) tail) ∙ omega (arith, length-message_head (get_or numbers 0 0) kind 0 (get_or numbers 1 0), length-body_digits (Message kind) (drop 2 numbers) tail)
length-line_of (Parameter kind) numbers tail = length-line kind numbers tail

length-chain : (ns : List OpenNode) → length (chain_digits ns) ≡ 8 * chain_octets ns
unfolding chain_digits chain_octets
length-chain [] = refl
length-chain (n ∷ ns) =
    length-append (chain_digits ns) (node_digits n)
    ∙ omega (arith, length-chain ns, length-append (line_digits n.line.kind n.line.numbers n.line.tail) (forest_digits n.children), length-line_of n.line.kind n.line.numbers n.line.tail, length-spell n.children)

-- ---- what is kept

chain_more : (ns : List OpenNode) (line : NodeLine) (number : ℕ) → chain_digits (new_node line number ∷ ns) ≡ chain_digits ns ++ line_digits line.kind line.numbers line.tail
unfolding chain_digits forest_digits
chain_more ns line number = ap (λ (z : List Bool). chain_digits ns ++ z) (append-nil (line_digits line.kind line.numbers line.tail))

doomed_more : (limit : ℕ) (ns : List OpenNode) (line : NodeLine) (number : ℕ) → IsDoomed limit ns → IsDoomed limit (new_node line number ∷ ns)
unfolding chain_octets
doomed_more limit ns line number (inl bad) = inl (inr bad)
doomed_more limit ns line number (inr lt) = inr (omega (arith, lt))

pub kept_begun : (limit : ℕ) (kept put : Bool) (bytes more : List ℕ) (ns : List OpenNode) (line : NodeLine) (number : ℕ) → AreKept limit kept bytes ns → IsPut put line more → AreKept limit (all_kept kept put (length bytes + length more) limit) (bytes ++ more) (new_node line number ∷ ns)
kept_begun limit false put bytes more ns line number k p = doomed_more limit ns line number k
kept_begun limit true false bytes more ns line number k p = inl (inl p)
kept_begun limit true true bytes more ns line number k p =
    let whole : digits_of_bytes (bytes ++ more) ≡ chain_digits (new_node line number ∷ ns) = bytes-append bytes more ∙ ap (λ (z : List Bool). z ++ digits_of_bytes more) k ∙ ap (λ (z : List Bool). chain_digits ns ++ z) p ∙ sym (chain_more ns line number) in
    elim (cases_lt limit (length bytes + length more)) [
      | inl lt ↦
          let over : chain_octets (new_node line number ∷ ns) ≡ length bytes + length more = omega (arith, length-bytes (bytes ++ more), ap (λ (x : List Bool). length x) whole, length-chain (new_node line number ∷ ns), length-append bytes more) in
          subst (λ (b : Bool). AreKept limit b (bytes ++ more) (new_node line number ∷ ns)) (sym (lt-leb (length bytes + length more) limit lt)) (inr (omega (arith, over, lt)))
      | inr le ↦ subst (λ (b : Bool). AreKept limit b (bytes ++ more) (new_node line number ∷ ns)) (sym (le-leb (length bytes + length more) limit le)) whole
    ]

cut_bytes : Bool → List ℕ → List ℕ
cut_bytes kept bytes = if kept then bytes else []

cut_is : (kept : Bool) (out bytes room : List ℕ) (from : ℕ) → room ≡ out ++ bytes → from ≡ length out → cut_to kept from room ≡ out ++ (cut_bytes kept bytes ++ [])
unfolding cut_bytes
cut_is true out bytes room from e f = e ∙ ap (λ (z : List ℕ). out ++ z) (sym (append-nil bytes))
cut_is false out bytes room from e f = ap (λ (n : ℕ). take n room) f ∙ ap (take (length out)) e ∙ take-append_seam out bytes ∙ sym (append-nil out)

cut_kept : (limit : ℕ) (kept : Bool) (bytes : List ℕ) (ns : List OpenNode) → AreKept limit kept bytes ns → AreKept limit kept (cut_bytes kept bytes) ns
unfolding cut_bytes
cut_kept limit true bytes ns k = k
cut_kept limit false bytes ns k = k

cut_octets : (kept : Bool) (bytes : List ℕ) → AreOctets bytes → AreOctets (cut_bytes kept bytes)
unfolding cut_bytes
cut_octets true bytes o = o
cut_octets false bytes o = tt

-- the line is open
pub line_begun : (old new : EncodeBuffer) (at : ℕ) (held : LineRecord) (put kept : Bool) (out more : List ℕ) (ns : List OpenNode) (line : NodeLine) (number octets : ℕ) → Holds old at out more ns → CanBegin held put more line number → IsChain (new_node line number ∷ ns) → length ns ≤ MAX_DEPTH
    → octets ≡ length old.room.items - old.from → kept ≡ all_kept old.kept put octets old.limit → new.room.items ≡ cut_to kept old.from old.room.items → new.from ≡ old.from → new.kept ≡ kept → new.limit ≡ old.limit → inner new.rows ≡ held ∷ inner old.rows
    → Holds new (length new.room.items) out [] (new_node line number ∷ ns)
line_begun old new at held put kept out more ns line number octets h c chain few count k room from same limit rows =
    let all = h.bytes ++ more in
    let bytes = cut_bytes kept all in
    let is : new.room.items ≡ out ++ (bytes ++ []) = room ∙ cut_is kept out all old.room.items old.from h.room h.from in
    let long : octets ≡ length h.bytes + length more = omega (arith, count, h.from, ap (λ (x : List ℕ). length x) h.room, length-append out all, length-append h.bytes more) in
    let stays : AreKept old.limit kept all (new_node line number ∷ ns) =
    subst (λ (b : Bool). AreKept old.limit b all (new_node line number ∷ ns)) (sym (k ∙ ap (λ (o : ℕ). all_kept old.kept put o old.limit) long)) (kept_begun old.limit old.kept put h.bytes more ns line number h.kept c.put_is) in
    record {
      bytes = bytes;
      room = is;
      from = from ∙ h.from;
      ends = ap (λ (x : List ℕ). length x) (is ∙ ap (λ (z : List ℕ). out ++ z) (append-nil bytes)) ∙ length-append out bytes;
      octets = cut_octets kept all (octets_append h.bytes more h.octets c.octets);
      rows = subst (λ (r : List LineRecord). AreHeld r (new_node line number ∷ ns)) (sym rows) (c.is, h.rows);
      chain = chain;
      few = omega (arith, few);
      kept = subst (λ (b : Bool). AreKept new.limit b bytes (new_node line number ∷ ns)) (sym same) (subst (λ (l : ℕ). AreKept l kept bytes (new_node line number ∷ ns)) (sym limit) (cut_kept old.limit kept all (new_node line number ∷ ns) stays));
    }

-- ---- all lines are closed

nothing_appended : (limit : ℕ) (out : List ℕ) → Appended limit [] out out
nothing_appended limit out = record { bytes = []; framed = frames_nothing limit; more = sym (append-nil out) }

pub all_closed_none : (limit : ℕ) (writer : EncodeBuffer) (at : ℕ) (out more : List ℕ) (ns : List OpenNode) → Holds writer at out more ns → length ns ≡ 0 → ClosedAll limit writer at out more ns
all_closed_none limit writer at out more [] h e = record {
  now = out;
  messages = [];
  holds = h;
  closed = record { is = λ done. ap (λ (ms : List MessageTree). open_of ms []) (sym (append-nil done)); sound = λ done s. subst (λ (ms : List MessageTree). IsSound limit (open_of ms [])) (sym (append-nil done)) s };
  appended = nothing_appended limit out;
}
all_closed_none limit writer at out more (n ∷ ns) h e = absurd (omega (arith, e))

pub all_closed_later : (limit : ℕ) (mid new : EncodeBuffer) (at : ℕ) (out more : List ℕ) (ns : List OpenNode) → (c : ClosedTo mid at 1 out more ns) → 1 ≤ length ns → ((n : OpenNode) → Holds mid at out more (n ∷ []) → ClosedAll limit new at out more (n ∷ [])) → ClosedAll limit new at out more ns
all_closed_later limit mid new at out more ns c some close = on c.left c.holds c.closed (c.are some)
  where
    on : (left : List OpenNode) → Holds mid at out more left → Closed (entries ns) (entries left) → length left ≡ 1 → ClosedAll limit new at out more ns
    on [] h cl e = absurd (omega (arith, e))
    on (n ∷ []) h cl e = let a = close n h in record { now = a.now; messages = a.messages; holds = a.holds; closed = all_closed_more limit (entries ns) (entries (n ∷ [])) a.messages cl a.closed; appended = a.appended }
    on (n ∷ p ∷ outer) h cl e = absurd (omega (arith, e))

pub one_left : (mid : EncodeBuffer) (at : ℕ) (out more : List ℕ) (ns : List OpenNode) → (c : ClosedTo mid at 1 out more ns) → 1 ≤ length ns → (out more : List ℕ) × (n : OpenNode) × Holds mid at out more (n ∷ [])
one_left mid at out more ns c some = on c.left c.holds (c.are some)
  where
    on : (left : List OpenNode) → Holds mid at out more left → length left ≡ 1 → (out more : List ℕ) × (n : OpenNode) × Holds mid at out more (n ∷ [])
    on [] h e = absurd (omega (arith, e))
    on (n ∷ []) h e = (out, more, n, h)
    on (n ∷ p ∷ outer) h e = absurd (omega (arith, e))

pub fails_later : (limit : ℕ) (mid : EncodeBuffer) (at : ℕ) (out more : List ℕ) (ns : List OpenNode) (e : Refused) → (c : ClosedTo mid at 1 out more ns) → 1 ≤ length ns → ((n : OpenNode) → Holds mid at out more (n ∷ []) → Fails limit 0 (n ∷ []) e) → Fails limit 0 ns e
fails_later limit mid at out more ns e c some bad = on c.left c.holds c.closed (c.are some)
  where
    on : (left : List OpenNode) → Holds mid at out more left → Closed (entries ns) (entries left) → length left ≡ 1 → Fails limit 0 ns e
    on [] h cl l = absurd (omega (arith, l))
    on (n ∷ []) h cl l = let f = bad n h in record { top = f.top; outer = f.outer; closed = closed_trans (entries ns) (entries (n ∷ [])) (f.top ∷ f.outer) cl f.closed; reached = omega arith; number_is = f.number_is; refused = f.refused }
    on (n ∷ p ∷ outer) h cl l = absurd (omega (arith, l))

pub fails_lower : (limit depth : ℕ) (ns : List OpenNode) (e : Refused) → Fails limit depth ns e → Fails limit 0 ns e
fails_lower limit depth ns e f = record { top = f.top; outer = f.outer; closed = f.closed; reached = omega arith; number_is = f.number_is; refused = f.refused }

-- ---- a line is open

begins_message : (limit number : ℕ) (line : NodeLine) (old : List Entry) (messages : List MessageTree) → AllClosed limit old messages → Begins limit old (entry line (lines_below []) number ∷ []) 0 line number messages
begins_message limit number line old messages c = record {
  is = λ done. ap (push line) (sym (c.is done));
  sound = λ done s. (let t = c.sound done s in (t.0, (tt, tt)));
  numbered = λ done n is. (is ∙ ap (λ (z : List (ℕ × NodeLine)). suc (length z)) (sym (covers_pop (depth (open_of done old) - 0) (open_of done old)) ∙ ap lines_covered (c.is done)), tt);
}

is_message : (line : NodeLine) (number : ℕ) → IsOpenLevel 0 line.kind → IsChain (new_node line number ∷ [])
is_message line number p = on line.kind refl p
  where
    on : (kind : Kind) → line.kind ≡ kind → IsOpenLevel 0 kind → IsChain (new_node line number ∷ [])
    on (Message kind) e q = (kind, e)
    on (Parameter kind) e q = absurd (omega (arith, q))

pub opens_message : (limit : ℕ) (mid new : EncodeBuffer) (at : ℕ) (held : LineRecord) (put : Bool) (out more : List ℕ) (ns : List OpenNode) (line : NodeLine) (number : ℕ) → ClosedAll limit mid at out more ns → BeginsLine mid new held put → CanBegin held put more line number → CanStandAt 0 (length ns) line → OpensLine limit new out ns 0 line number
opens_message limit mid new at held put out more ns line number a b c s = record {
  now = a.now;
  outer = [];
  messages = a.messages;
  holds = b at a.now more [] line number a.holds c (is_message line number s.placed) (omega arith);
  begins = begins_message limit number line (entries ns) a.messages a.closed;
  appended = a.appended;
}

is_parameter : (line : NodeLine) (number level : ℕ) (left : List OpenNode) → IsOpenLevel level line.kind → length left ≡ level → 1 ≤ level → IsChain left → IsChain (new_node line number ∷ left)
is_parameter line number level [] p e least c = absurd (omega (arith, e, least))
is_parameter line number level (n ∷ left) p e least c = (on line.kind refl p, c)
  where
    on : (kind : Kind) → line.kind ≡ kind → IsOpenLevel level kind → (k : ParamKind) × (line.kind ≡ Parameter k)
    on (Message kind) i q = absurd (omega (arith, q, least))
    on (Parameter kind) i q = (kind, i)

pub opens_parameter : (limit level : ℕ) (mid new : EncodeBuffer) (at : ℕ) (held : LineRecord) (put : Bool) (out more : List ℕ) (ns : List OpenNode) (line : NodeLine) (number : ℕ) → 1 ≤ level → (t : ClosedTo mid at level out more ns) → BeginsLine mid new held put → CanBegin held put more line number → CanStandAt level (length ns) line → OpensLine limit new out ns level line number
opens_parameter limit level mid new at held put out more ns line number least t b c s =
    let long : length t.left ≡ level = t.are s.within in
    record {
      now = out;
      outer = t.left;
      messages = [];
      holds = b at out more t.left line number t.holds c (is_parameter line number level t.left s.placed long least t.holds.chain) (omega (arith, long, s.deep));
      begins = begins_parameter limit level number line (entries ns) (entries t.left) t.closed (length_entries t.left ∙ long);
      appended = nothing_appended limit out;
    }

-- ---- octets that are put after others

-- a line that can begin, by what is kept of it
pub begun_can : (begun is : PutLine) (more : List ℕ) (line : NodeLine) (number : ℕ) → begun ≡ is → CanBegin is.held is.put more line number → CanBegin begun.held begun.put more line number
begun_can begun is more line number e can = subst (λ (b : PutLine). CanBegin b.held b.put more line number) (sym e) can

pub put_after : (old mid : EncodeBuffer) (at : ℕ) (out more : List ℕ) (ns : List OpenNode) → Holds old (length old.room.items) out [] ns → at ≡ length old.room.items → mid.room.items ≡ old.room.items ++ more → mid.from ≡ old.from → mid.kept ≡ old.kept → mid.limit ≡ old.limit → inner mid.rows ≡ inner old.rows → Holds mid at out more ns
put_after old mid at out more ns h e room from kept limit rows = record {
  bytes = h.bytes;
  room = room ∙ ap (λ (z : List ℕ). z ++ more) (h.room ∙ ap (λ (z : List ℕ). out ++ z) (append-nil h.bytes)) ∙ append_assoc out h.bytes more;
  from = from ∙ h.from;
  ends = e ∙ h.ends;
  octets = h.octets;
  rows = subst (λ (r : List LineRecord). AreHeld r ns) (sym rows) h.rows;
  chain = h.chain;
  few = h.few;
  kept = subst (λ (b : Bool). AreKept mid.limit b h.bytes ns) (sym kept) (subst (λ (l : ℕ). AreKept l old.kept h.bytes ns) (sym limit) h.kept);
}

-- ---- the octets of closed messages

pub front_of : (writer : EncodeBuffer) (at : ℕ) (out more : List ℕ) (ns : List OpenNode) → Holds writer at out more ns → Front writer out
front_of writer at out more ns h = record { back = h.bytes ++ more; room = h.room; from = h.from }

pub front_later : (mid new : EncodeBuffer) (at : ℕ) (out more : List ℕ) (ns : List OpenNode) → (c : ClosedTo mid at 1 out more ns) → KeepsFront mid new at → Front new out
front_later mid new at out more ns c k = k out more c.left c.holds
