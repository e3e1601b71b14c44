-- A message that is closed.
use Rattle.std.proofs.Common.{◌≡◌, ℕ, ◌+◌, ◌/◌, ◌%◌, ◌^◌, ◌<◌, ◌≤◌, Bool, true, false, List, [], ◌∷◌, ◌++◌, length, take, drop, get_or, Some, None, refl, sym, ap, ◌∙◌, subst, arith, inl, inr, append_assoc, length-append, lit<}
use Rattle.std.specs.Prelude.{nat_lt, if◌then◌else◌}
use Rattle.tag_bits.specs.Digits.{digits, digits_of_bytes}
use Rattle.tag_bits.proofs.DigitLemmas.{digits-split, length-digits}
use Rattle.tag_bits.proofs.ByteLemmas.{bytes-nil, length-bytes}
use Rattle.llrp_schema.specs.declared.kinds.MsgKind.{MsgKind}
use Rattle.llrp_schema.specs.declared.kinds.Kind.{Kind}
use Rattle.llrp_schema.specs.declared.kinds.Kind.TheVariants.{Message}
use Rattle.llrp_schema.specs.Schema.{number_of, tail_of}
use Rattle.llrp_tree.specs.declared.TheConstants.{MAX_LIMIT}
use Rattle.llrp_tree.specs.Checks.{first_message_fault}
use Rattle.llrp_tree.specs.Frame.{Frame}
use Rattle.llrp_tree.specs.Lawful.{AreOctets, IsLawfulMessage, message_octets, octets}
use Rattle.llrp_tree.specs.Calls.Lawful.{own_octets}
use Rattle.llrp_tree.specs.Spelling.{body_digits, head_digits, message_digits, forest_digits}
use Rattle.llrp_tree.specs.Tree as tree
use Rattle.llrp_tree.specs.Tree.{MessageTree, trees}
use Rattle.llrp_tree.proofs.LawLemmas.{message_from}
use Rattle.llrp_tree.proofs.LengthLemmas.{spelled_length}
use Rattle.llrp_tree.proofs.TreeLemmas.{forest-trees}
use Rattle.llrp_listing.specs.declared.outcome.Refusal.TheVariants.{OverLimit}
use Rattle.llrp_listing.specs.LineChecks.{AreInForm}
use Rattle.llrp_listing.specs.ListingRules.{closing, kind_closing, lines_onto, message_refusal}
use Rattle.llrp_listing.specs.NodeLine.{NodeLine, number_forms, message_line}
use Rattle.llrp_listing.specs.Private.OpenLines.{AllClosed, CanClose, entry, lines_below}
use Rattle.llrp_listing.specs.OpenText.{end}
use Rattle.llrp_listing.proofs.Closings.{all_closed_one, closed_none}
use Rattle.llrp_listing.proofs.Rows.{frames_one}
use Rattle.llrp_listing.proofs.TreeLines.{parameters_back}
use Rattle.llrp_listing.specs.declared.encode.open_lines.LineRecord.{LineRecord}
use Rattle.llrp_listing.specs.declared.encode.buffer.Refused.{Refused}
use Rattle.llrp_listing.specs.declared.encode.buffer.EncodeBuffer.{EncodeBuffer}
use Rattle.llrp_listing.specs.Private.EncodeBuffer.{ClosedAll, Fails, Holds, inner, with_four, with_two}
use Rattle.llrp_listing.specs.Private.OpenNodes.{AreHeld, AreKept, IsDoomed, IsHeld, IsSaid, OpenNode, chain_digits, chain_octets, entries, entry_of, kind_fault, line_digits, node_fault, node_octets}
use Rattle.llrp_listing.proofs.Chains.{digits_two, length-two, octets_two, splice, two_inside}
use Rattle.llrp_listing.proofs.NodeFaults.{own_told, tail_octets}

-- ---- a length over four octets

pub length-four : (at number : ℕ) (room : List ℕ) → at + 4 ≤ length room → length (with_four at number room) ≡ length room
length-four at number room le =
    let first = with_two at (number / 65536) room in
    let a : length first ≡ length room = length-two at (number / 65536) room (omega arith) in
    length-two (at + 2) (number % 65536) first (omega (arith, a)) ∙ a

pub octets_four : (at number : ℕ) (room : List ℕ) → number < 2 ^ 32 → AreOctets room → AreOctets (with_four at number room)
octets_four at number room lt o = octets_two (at + 2) (number % 65536) (with_two at (number / 65536) room) (omega arith) (octets_two at (number / 65536) room (omega arith) o)

pub four_inside : (a b c : List ℕ) (at number : ℕ) → at + 4 ≤ length b → with_four (length a + at) number (a ++ (b ++ c)) ≡ a ++ (with_four at number b ++ c)
four_inside a b c at number le =
    let first = with_two at (number / 65536) b in
    let long : length first ≡ length b = length-two at (number / 65536) b (omega arith) in
    let place : (length a + at) + 2 ≡ length a + (at + 2) = omega arith in
    ap (λ (x : List ℕ). with_two ((length a + at) + 2) (number % 65536) x) (two_inside a b c at (number / 65536) (omega arith))
    ∙ ap (λ (i : ℕ). with_two i (number % 65536) (a ++ (first ++ c))) place
    ∙ two_inside a first c (at + 2) (number % 65536) (omega (arith, long))

-- the digits of a header, once its length is written
pub digits_four : (head back : List Bool) (number : ℕ) (bytes : List ℕ) → digits_of_bytes bytes ≡ (head ++ digits 32 0) ++ back → length head ≡ 16 → number < 2 ^ 32 → 6 ≤ length bytes
    → digits_of_bytes (with_four 2 number bytes) ≡ (head ++ digits 32 number) ++ back
digits_four head back number bytes e h lt room =
    let high = digits 16 (number / 65536) in
    let low = digits 16 (number % 65536) in
    let zeros = digits 16 0 in
    let split0 : digits 32 0 ≡ zeros ++ zeros = digits-split 16 16 0 (lit< tt) in
    let split : digits 32 number ≡ high ++ low = digits-split 16 16 number lt in
    let first = with_two 2 (number / 65536) bytes in
    let long : length first ≡ length bytes = length-two 2 (number / 65536) bytes (omega arith) in
    let d0 : digits_of_bytes bytes ≡ [] ++ ((head ++ zeros) ++ (zeros ++ back)) = e ∙ ap (λ (z : List Bool). (head ++ z) ++ back) split0 ∙ ap (λ (z : List Bool). z ++ back) (sym (append_assoc head zeros zeros)) ∙ append_assoc (head ++ zeros) zeros back in
    let d1 : digits_of_bytes first ≡ (head ++ high) ++ (zeros ++ back) =
    digits_two 2 (number / 65536) bytes (omega arith) (omega arith)
    ∙ ap (λ (z : List Bool). take 16 z ++ (high ++ drop 32 z)) d0
    ∙ splice [] head zeros high (zeros ++ back) 16 refl h (length-digits 16 0) in
    let d2 : digits_of_bytes first ≡ head ++ ((high ++ zeros) ++ back) = d1 ∙ append_assoc head high (zeros ++ back) ∙ ap (λ (z : List Bool). head ++ z) (sym (append_assoc high zeros back)) in
    digits_two 4 (number % 65536) first (omega (arith, long)) (omega arith)
    ∙ ap (λ (z : List Bool). take 32 z ++ (low ++ drop 48 z)) d2
    ∙ splice head high zeros low back 32 (omega (arith, h)) (length-digits 16 (number / 65536)) (length-digits 16 0)
    ∙ ap (λ (z : List Bool). head ++ (z ++ back)) (sym split)
    ∙ sym (append_assoc head (digits 32 number) back)

-- ---- the message of a line

module _ (kind : MsgKind) (n : OpenNode) (is : n.line.kind ≡ Message kind) where
  abbrev pub of_line : MessageTree
  of_line = record { version = get_or n.line.numbers 0 0; id = get_or n.line.numbers 1 0; kind = kind; fields = drop 2 n.line.numbers; tail = n.line.tail; children = n.children }

  pub message_size : node_octets n ≡ message_octets of_line
  message_size = ap (λ (k : Kind). own_octets k n.line.tail + octets n.children) is

  two_numbers : (ns : List ℕ) → AreInForm (number_forms (Message kind)) ns → (ns ≡ get_or ns 0 0 ∷ get_or ns 1 0 ∷ drop 2 ns) × (get_or ns 1 0 < 2 ^ 32)
  unfolding number_forms
  two_numbers [] f = absurd f
  two_numbers (v ∷ []) f = absurd f.1
  two_numbers (v ∷ i ∷ ns) f = (refl, f.1.0)

  in_form : IsSaid n.line → AreInForm (number_forms (Message kind)) n.line.numbers
  in_form s = subst (λ (k : Kind). AreInForm (number_forms k) n.line.numbers) is s.numbers

  line_is : IsSaid n.line → n.line ≡ message_line of_line
  line_is s =
      ap (λ (k : Kind). record n.line { kind = k }) is
      ∙ ap (λ (ns : List ℕ). record n.line { kind = Message kind; numbers = ns }) (two_numbers n.line.numbers (in_form s)).0

  fault_is : node_fault n.line n.children ≡ first_message_fault of_line.version kind of_line.fields n.line.tail n.children
  fault_is = ap (λ (k : Kind). kind_fault k n.line.numbers n.line.tail n.children) is

  pub message_closes : (limit : ℕ) → closing limit n.line (lines_onto n.children end) ≡ message_refusal limit of_line (node_fault n.line n.children)
  message_closes limit =
      ap (λ (k : Kind). kind_closing limit k n.line.numbers n.line.tail (lines_onto n.children end)) is
      ∙ ap (λ (f : tree.Forest). message_refusal limit (record of_line { children = f }) (first_message_fault of_line.version kind of_line.fields n.line.tail f)) (parameters_back n.children)
      ∙ ap (message_refusal limit of_line) (sym fault_is)

  pub closes_within : (limit : ℕ) → node_fault n.line n.children ≡ None → node_octets n ≤ limit → closing limit n.line (lines_onto n.children end) ≡ None
  closes_within limit fine le =
      let f : nat_lt limit (message_octets of_line) ≡ false = not_over limit (message_octets of_line) (omega (arith, le, message_size)) in
      message_closes limit ∙ ap (message_refusal limit of_line) fine ∙ ap (λ (b : Bool). if b then Some OverLimit else None) f
    where
      not_over : (l m : ℕ) → m ≤ l → nat_lt l m ≡ false
      not_over l m le = grind arith

  pub closes_over : (limit : ℕ) → node_fault n.line n.children ≡ None → limit < node_octets n → closing limit n.line (lines_onto n.children end) ≡ Some OverLimit
  closes_over limit fine lt =
      let f : nat_lt limit (message_octets of_line) ≡ true = over limit (message_octets of_line) (omega (arith, lt, message_size)) in
      message_closes limit ∙ ap (message_refusal limit of_line) fine ∙ ap (λ (b : Bool). if b then Some OverLimit else None) f
    where
      over : (l m : ℕ) → l < m → nat_lt l m ≡ true
      over l m lt = grind arith

  -- the message is lawful
  message_lawful : (held : LineRecord) → IsHeld held n → node_fault n.line n.children ≡ None → IsLawfulMessage of_line
  message_lawful held h fine = message_from of_line.version of_line.id kind of_line.fields n.line.tail n.children (two_numbers n.line.numbers (in_form h.said)).1 (tail_octets (tail_of n.line.kind) n.line.tail h.said.tail) h.lawful (sym fault_is ∙ fine)

  -- the octets are the message's, once its length is written
  chain_is : chain_digits (n ∷ []) ≡ (((digits 3 0 ++ digits 3 of_line.version) ++ digits 10 (number_of (Message kind))) ++ digits 32 0) ++ (digits 32 of_line.id ++ (body_digits (Message kind) of_line.fields n.line.tail ++ forest_digits n.children))
  unfolding chain_digits line_digits head_digits
  chain_is =
      let front = ((digits 3 0 ++ digits 3 of_line.version) ++ digits 10 (number_of (Message kind))) ++ digits 32 0 in
      ap (λ (k : Kind). line_digits k n.line.numbers n.line.tail ++ forest_digits n.children) is
      ∙ append_assoc (front ++ digits 32 of_line.id) (body_digits (Message kind) of_line.fields n.line.tail) (forest_digits n.children)
      ∙ append_assoc front (digits 32 of_line.id) (body_digits (Message kind) of_line.fields n.line.tail ++ forest_digits n.children)

  message_is : message_digits of_line ≡ (((digits 3 0 ++ digits 3 of_line.version) ++ digits 10 (number_of (Message kind))) ++ digits 32 (message_octets of_line)) ++ (digits 32 of_line.id ++ (body_digits (Message kind) of_line.fields n.line.tail ++ forest_digits n.children))
  unfolding head_digits
  message_is =
      let front = ((digits 3 0 ++ digits 3 of_line.version) ++ digits 10 (number_of (Message kind))) ++ digits 32 (message_octets of_line) in
      append_assoc front (digits 32 of_line.id) (body_digits (Message kind) of_line.fields n.line.tail ++ forest_digits n.children)

  pub frame_of : (held : LineRecord) (limit : ℕ) (bytes : List ℕ) → IsHeld held n → node_fault n.line n.children ≡ None → node_octets n ≤ limit → node_octets n < 2 ^ 32 → AreOctets bytes → digits_of_bytes bytes ≡ chain_digits (n ∷ []) → 6 ≤ length bytes
      → Frame of_line (with_four 2 (node_octets n) bytes) limit
  frame_of held limit bytes h fine le lt o e room =
      let head = (digits 3 0 ++ digits 3 of_line.version) ++ digits 10 (number_of (Message kind)) in
      let long : length head ≡ 16 = length-append (digits 3 0 ++ digits 3 of_line.version) (digits 10 (number_of (Message kind))) ∙ omega (arith, length-append (digits 3 0) (digits 3 of_line.version), length-digits 3 0, length-digits 3 of_line.version, length-digits 10 (number_of (Message kind))) in
      let spelled : digits_of_bytes (with_four 2 (node_octets n) bytes) ≡ message_digits of_line =
      digits_four head (digits 32 of_line.id ++ (body_digits (Message kind) of_line.fields n.line.tail ++ forest_digits n.children)) (node_octets n) bytes (e ∙ chain_is) long lt room
      ∙ ap (λ (m : ℕ). (head ++ digits 32 m) ++ (digits 32 of_line.id ++ (body_digits (Message kind) of_line.fields n.line.tail ++ forest_digits n.children))) message_size
      ∙ sym message_is in
      record {
        lawful = message_lawful held h fine;
        octets = octets_four 2 (node_octets n) bytes lt o;
        spelled = spelled;
        short = omega (arith, spelled_length of_line (with_four 2 (node_octets n) bytes) spelled, message_size, le);
      }

  pub all_closed : (limit : ℕ) → IsSaid n.line → node_fault n.line n.children ≡ None → node_octets n ≤ limit → AllClosed limit (entries (n ∷ [])) (of_line ∷ [])
  all_closed limit s fine le =
      let ts = trees n.children in
      let same : lines_below ts ≡ lines_onto n.children end = ap (λ (f : tree.Forest). lines_onto f end) (forest-trees n.children) in
      let can : CanClose limit (entry (message_line of_line) (lines_below ts) n.number) =
      ap (closing limit (message_line of_line)) same ∙ ap (λ (l : NodeLine). closing limit l (lines_onto n.children end)) (sym (line_is s)) ∙ closes_within limit fine le in
      subst (λ (l : NodeLine). AllClosed limit (entry l (lines_onto n.children end) n.number ∷ []) (of_line ∷ [])) (sym (line_is s))
      (subst (λ f. AllClosed limit (entry (message_line of_line) f n.number ∷ []) (of_line ∷ [])) same (all_closed_one limit n.number of_line ts can (sym (forest-trees n.children))))

  -- a header is in the octets
  pub header_room : (bytes : List ℕ) → digits_of_bytes bytes ≡ chain_digits (n ∷ []) → 6 ≤ length bytes
  header_room bytes e =
      let head = (digits 3 0 ++ digits 3 of_line.version) ++ digits 10 (number_of (Message kind)) in
      let back = body_digits (Message kind) of_line.fields n.line.tail ++ forest_digits n.children in
      let all = ap (λ (x : List Bool). length x) (e ∙ chain_is) in
      omega (
        arith,
        length-bytes bytes,
        all,
        length-append (head ++ digits 32 0) (digits 32 of_line.id ++ back),
        length-append head (digits 32 0),
        length-append (digits 3 0 ++ digits 3 of_line.version) (digits 10 (number_of (Message kind))),
        length-append (digits 3 0) (digits 3 of_line.version),
        length-append (digits 32 of_line.id) back,
        length-digits 3 0,
        length-digits 3 of_line.version,
        length-digits 10 (number_of (Message kind)),
        length-digits 32 0,
        length-digits 32 of_line.id,
      )

  pub message_small : (held : LineRecord) → IsHeld held n → node_fault n.line n.children ≡ None → held.octets ≡ node_octets n
  message_small held h fine = let l = message_lawful held h fine in omega (arith, h.octets, l.long, message_size)

  pub message_bound : (held : LineRecord) → IsHeld held n → node_fault n.line n.children ≡ None → node_octets n ≤ MAX_LIMIT
  message_bound held h fine = let l = message_lawful held h fine in omega (arith, l.long, message_size)

  no_bad : node_fault n.line n.children ≡ None → (limit : ℕ) → node_octets n ≤ limit → IsDoomed limit (n ∷ []) → ⊥
  unfolding chain_octets
  no_bad fine limit le (inl (inl own)) = absurd (let x : None ≡ Some own.0 = sym fine ∙ own_told n.line n.children own.0 own.1 in cc)
  no_bad fine limit le (inl (inr none)) = none
  no_bad fine limit le (inr lt) = absurd (omega (arith, le, lt))

  -- the octets of a message that can be closed are all there
  pub all_kept : (limit : ℕ) (kept : Bool) (bytes : List ℕ) → node_fault n.line n.children ≡ None → node_octets n ≤ limit → AreKept limit kept bytes (n ∷ []) → (kept ≡ true) × (digits_of_bytes bytes ≡ chain_digits (n ∷ []))
  all_kept limit true bytes fine le k = (refl, k)
  all_kept limit false bytes fine le k = absurd (no_bad fine limit le k)

-- ---- the message is closed

pub message_fails : (writer : EncodeBuffer) (at : ℕ) (out more : List ℕ) (n : OpenNode) (e : Refused) → e.number ≡ n.number → closing writer.limit n.line (lines_onto n.children end) ≡ Some e.reason → Fails writer.limit 0 (n ∷ []) e
message_fails writer at out more n e number refused = record { top = entry_of n; outer = []; closed = closed_none (entries (n ∷ [])); reached = omega arith; number_is = number; refused = refused }

none_held : (rest : List LineRecord) → AreHeld rest [] → rest ≡ []
none_held [] h = refl
none_held (x ∷ rest) h = absurd h

module _ (writer : EncodeBuffer) (at : ℕ) (out more : List ℕ) (n : OpenNode) (h : Holds writer at out more (n ∷ [])) (top : LineRecord) (rest : List LineRecord) (e : inner writer.rows ≡ top ∷ rest) where
  pub alone : IsHeld top n × AreHeld rest []
  alone = subst (λ (r : List LineRecord). AreHeld r (n ∷ [])) e h.rows

  module _ (fine : node_fault n.line n.children ≡ None) (le : top.octets ≤ writer.limit) where
    abbrev kind : MsgKind
    kind = h.chain.0

    abbrev is : n.line.kind ≡ Message kind
    is = h.chain.1

    octets_are : top.octets ≡ node_octets n
    octets_are = message_small kind n is top alone.0 fine

    fits : node_octets n ≤ writer.limit
    fits = omega (arith, le, octets_are)

    abbrev there : (writer.kept ≡ true) × (digits_of_bytes h.bytes ≡ chain_digits (n ∷ []))
    there = all_kept kind n is writer.limit writer.kept h.bytes fine fits h.kept

    abbrev frame : List ℕ
    frame = with_four 2 (node_octets n) h.bytes

    long : 6 ≤ length h.bytes
    long = header_room kind n is h.bytes there.1

    pub room_for_four : (writer.from + 2) + 4 ≤ length writer.room.items
    room_for_four = omega (arith, long, h.from, ap (λ (x : List ℕ). length x) h.room, length-append out (h.bytes ++ more), length-append h.bytes more)

    pub message_closed : (new : EncodeBuffer) → new.room.items ≡ with_four (writer.from + 2) top.octets writer.room.items → new.from ≡ at → new.kept ≡ writer.kept → new.limit ≡ writer.limit → inner new.rows ≡ rest → ClosedAll writer.limit new at out more (n ∷ [])
    unfolding chain_digits
    message_closed new room from kept limit rows =
        let same : length frame ≡ length h.bytes = length-four 2 (node_octets n) h.bytes long in
        let f : Frame (of_line kind n is) frame writer.limit = frame_of kind n is top writer.limit h.bytes alone.0 fine fits (omega (arith, message_bound kind n is top alone.0 fine)) h.octets there.1 long in
        record {
          now = out ++ frame;
          messages = of_line kind n is ∷ [];
          holds = record {
            bytes = [];
            room =
                room ∙ ap (λ (o : ℕ). with_four (writer.from + 2) o writer.room.items) octets_are
                ∙ ap (λ (a : ℕ). with_four (a + 2) (node_octets n) writer.room.items) h.from
                ∙ ap (λ (r : List ℕ). with_four (length out + 2) (node_octets n) r) h.room
                ∙ four_inside out h.bytes more 2 (node_octets n) long
                ∙ sym (append_assoc out frame more);
            from = from ∙ h.ends ∙ omega (arith, same, length-append out frame);
            ends = omega (arith, h.ends, same, length-append out frame);
            octets = tt;
            rows = rw (rows, none_held rest alone.1) tt;
            chain = tt;
            few = omega arith;
            kept = rw (kept, there.0) bytes-nil;
          };
          closed = all_closed kind n is writer.limit alone.0.said fine fits;
          appended = record { bytes = frame; framed = frames_one writer.limit (of_line kind n is) frame f; more = refl };
        }
