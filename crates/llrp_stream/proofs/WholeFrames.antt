-- A message of which all is read has its frame.
use Rattle.std.specs.Prelude.{nat_le}
use Rattle.std.proofs.Common.{◌≡◌, ℕ, ◌*◌, ◌≤◌, List, [], ◌∷◌, ◌++◌, Bool, true, length, Option, unwrap_or, refl, sym, ap, subst, ◌∙◌, arith}
use Rattle.std.proofs.lemmas.List.{append-nil}
use Rattle.tag_bits.specs.Digits.{digits_of_bytes}
use Rattle.llrp_schema.specs.declared.kinds.Kind.TheVariants.{Message}
use Rattle.llrp_schema.specs.declared.kinds.Tail.TheVariants.{Absent}
use Rattle.llrp_schema.specs.Schema.{fields_of, groups_of, tail_of}
use Rattle.llrp_tree.specs.declared.TheConstants.{MAX_LIMIT}
use Rattle.llrp_tree.specs.Tree.{Forest, MessageTree, none}
use Rattle.llrp_tree.specs.Lawful.{AreOctets}
use Rattle.llrp_stream.specs.Items.{FrameIn}
use Rattle.llrp_tree.specs.Spelling.{Head, message, tlv, tv}
use Rattle.llrp_tree.specs.OpenTree.{root_of, Begun, plain_values, is_enough, IsHead}
use Rattle.llrp_tree.specs.Calls.Standing.{IsAt, begin_node}
use Rattle.llrp_tree.specs.Private.Standing.{Closes}
use Rattle.std.proofs.lemmas.Bool.{le-leb, leb-true}
use Rattle.llrp_tree.specs.Calls.Header.{HasHeaderIn}
use Rattle.llrp_tree.specs.declared.header.Header.{Header}
use Rattle.llrp_stream.proofs.ReadyPart.{resting}
use Rattle.tag_bits.proofs.ByteLemmas.{length-bytes, bytes-append}
use Rattle.llrp_schema.specs.declared.kinds.MsgKind.{MsgKind}
use Rattle.llrp_tree.specs.FirstFault.{number, has_ended, header_checks_in}
use Rattle.llrp_schema.proofs.TableLaws.{message_found_in}
use Rattle.llrp_schema.specs.declared.kinds.KindSet.{KindSet}
use Rattle.llrp_tree.specs.Calls.Standing.{leading, HeaderSaysIn}
use Rattle.llrp_tree.proofs.Telling.{all_hold}
use Rattle.llrp_stream.specs.Calls.Front.{Reaches}
use Rattle.llrp_stream.proofs.Reached.{reaches_in}
use Rattle.llrp_tree.proofs.HeaderLemmas.{number_ahead}
use Rattle.llrp_tree.proofs.Frames.{closes_frame, header_stands}
use Rattle.llrp_stream.specs.declared.engine.body_reader.BodyReader.{BodyReader}
use Rattle.llrp_stream.specs.Calls.Received.{IsReady, IsMessageOf}
use Rattle.llrp_stream.specs.Private.Reading.{IsComplete}
use Rattle.llrp_stream.proofs.Reached.{stands_in}
use Rattle.llrp_stream.proofs.Bounds.{covered_length}
use Rattle.llrp_stream.proofs.MoreOctets.{whole_ends, head_alone, end_alone}

closed_by : {p : KindSet} (h : Head) (stop : ℕ) (vs : List ℕ) (tail : Option (List ℕ)) (cs : Forest) (front : List ℕ) (limit at : ℕ) → IsHead h stop [] → root_of h [] ≡ p → stop ≡ 8 * length front → Closes (digits_of_bytes front) (begin_node h stop vs tail cs) [] at → AreOctets front → length front ≤ limit → limit ≤ MAX_LIMIT
    → (m : MessageTree) × IsMessageOf h vs tail cs m × FrameIn p m front limit
closed_by (message v k n id) stop vs tail cs front limit at i own e c o le most =
    let size : n ≡ length front = omega (arith, i.stops) in (
      record { version = v; id = id; kind = k; fields = plain_values (fields_of (Message k)) vs; tail = unwrap_or tail []; children = cs },
      refl,
      record { frame = closes_frame limit front v k n id vs tail cs at most o (sym size) (omega (arith, size, le)) (subst (λ (x : ℕ). Closes (digits_of_bytes front) (begin_node (message v k n id) x vs tail cs) [] at) i.stops c); own = own },
    )
closed_by (tlv k n) stop vs tail cs front limit at i own e c o le most = absurd i
closed_by (tv k) stop vs tail cs front limit at i own e c o le most = absurd i

pub frame_of : (stands : List Begun → Type 0) (r : BodyReader) (front : List ℕ) (limit : ℕ) (w : IsComplete stands r front) → AreOctets front → r.octets ≤ limit → limit ≤ MAX_LIMIT
    → (m : MessageTree) × IsMessageOf w.node.head w.node.fields w.node.tail w.node.children m × FrameIn r.set m front limit
frame_of stands r front limit w o le most =
    let e = whole_ends stands r front w in
    let st = stands_in front [] r.octets (w.node ∷ []) (8 * r.at) w.reaches (ap (λ (x : List ℕ). length x) (append-nil front) ∙ e) in
    let st2 = subst (λ (x : List ℕ). IsAt (digits_of_bytes x) (w.node ∷ []) (8 * r.at)) (append-nil front) st in
    closed_by w.node.head w.node.stop w.node.fields w.node.tail w.node.children front limit (8 * r.at) (head_alone w.node w.reaches.is_open) w.reaches.root (sym (end_alone w.node) ∙ w.reaches.ends ∙ ap (λ (n : ℕ). 8 * n) (sym e))
    (record { stands = st2; ready = w.ready; over = w.over; enough = w.enough }) o (omega (arith, e, le)) most

pub ready_of : (stands : List Begun → Type 0) (r : BodyReader) (front : List ℕ) (w : IsComplete stands r front) → IsReady (w.node ∷ [])
ready_of stands r front w = record {
  node = w.node;
  outer = [];
  tree_is = refl;
  ready = w.ready;
  is_open = w.reaches.is_open;
  ended = subst (λ (n : ℕ). has_ended w.node.head (nat_le w.node.stop n) ≡ true) (sym (covered_length front r.octets (w.node ∷ []) (8 * r.at) w.reaches)) w.over;
}

-- ---- a header

within_limit : {p : KindSet} (limit : ℕ) (ds : List Bool) (v : ℕ) (k : MsgKind) (n id : ℕ) → HeaderSaysIn p limit ds v k n id → n ≤ limit
within_limit limit ds v k n id s = (let a = leb-true (number ds 16 32) limit (all_hold (header_checks_in _ limit ds) s.passes).1.1.1.0 in omega (arith, s.octets_is))

pub header_reaches : (p : KindSet) (limit : ℕ) (header : List ℕ) (v : ℕ) (k : MsgKind) (n id : ℕ) → length header ≡ 10 → 10 ≤ n → ((later : List Bool) → HeaderSaysIn p limit (digits_of_bytes header ++ later) v k n id)
    → Reaches p header n (leading (message v k n id) (8 * n) [] ∷ []) 80
header_reaches p limit header v k n id ten least says =
    reaches_in header n (leading (message v k n id) (8 * n) [] ∷ []) 80 (omega (arith, ten)) (omega (arith, ten)) ((message_found_in p (number (digits_of_bytes header ++ []) 6 10) k (says []).kind_is).0) (λ more long.
    let ds : List Bool = digits_of_bytes (header ++ more) in
    let h = subst (λ (x : List Bool). HeaderSaysIn p limit x v k n id) (sym (bytes-append header more)) (says (digits_of_bytes more)) in
    header_stands p limit ds v k n id h (length-bytes (header ++ more) ∙ ap (λ (x : ℕ). 8 * x) long) least)

pub header_length : {p : KindSet} (limit : ℕ) (header : List ℕ) (v : ℕ) (k : MsgKind) (n id : ℕ) → length header ≡ 10 → ((later : List Bool) → HeaderSaysIn p limit (digits_of_bytes header ++ later) v k n id) → (n ≡ number (digits_of_bytes header) 16 32) × (n ≤ limit)
header_length limit header v k n id ten says =
    let s = says [] in
    ((says []).octets_is ∙ sym (number_ahead header [] 16 32 (omega (arith, ten))), within_limit limit (digits_of_bytes header ++ []) v k n id s)

-- ---- a message that ends with its header

pub bare_complete : (stands : List Begun → Type 0) (r : BodyReader) (bytes : List ℕ) (limit : ℕ) (h : Header) → h.octets ≡ 10 → length bytes ≡ 10 → HasHeaderIn r.set limit bytes h → fields_of (Message h.kind) ≡ [] → tail_of (Message h.kind) ≡ Absent → is_enough (groups_of (Message h.kind)) none ≡ true
    → stands (leading (message h.version h.kind h.octets h.id) (8 * h.octets) [] ∷ []) → IsComplete stands (record r { octets = h.octets; at = 10 }) bytes
bare_complete stands r bytes limit h e ten says fields tail enough told = record {
  node = leading (message h.version h.kind h.octets h.id) (8 * h.octets) [];
  ready = resting (leading (message h.version h.kind h.octets h.id) (8 * h.octets) []) (Message h.kind) refl refl fields tail;
  reaches = header_reaches _ limit bytes h.version h.kind h.octets h.id ten (omega (arith, e)) says;
  over = le-leb (8 * h.octets) 80 (omega (arith, e));
  enough = enough;
  told = told;
}
