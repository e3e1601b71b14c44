-- The nodes that are begun weigh no more than the octets that are read.
use Rattle.llrp_schema.specs.declared.kinds.KindSet.{KindSet}
use Rattle.std.proofs.Common.{◌≡◌, ℕ, ◌+◌, ◌*◌, ◌≤◌, ◌<◌, Bool, true, List, [], ◌∷◌, ◌++◌, length, drop, Option, Some, None, refl, ap, ◌∙◌, arith, length-append}
use Rattle.std.specs.Prelude.{unwrap_or}
use Rattle.std.proofs.lemmas.List.{length-take-le}
use Rattle.tag_bits.specs.Digits.{digits_of_bytes}
use Rattle.tag_bits.proofs.ByteLemmas.{length-bytes}
use Rattle.llrp_schema.specs.declared.kinds.ParamKind.{ParamKind}
use Rattle.llrp_schema.specs.declared.kinds.Kind.{Kind}
use Rattle.llrp_schema.specs.declared.kinds.Kind.TheVariants.{Parameter}
use Rattle.llrp_schema.specs.Schema.{fields_of, tail_of, is_tv}
use Rattle.llrp_tree.specs.Tree.{Forest}
use Rattle.llrp_tree.specs.Lawful.{head_octets}
use Rattle.llrp_tree.specs.Spelling.{Head, message, tlv, tv, head_digits, field_digits, tail_digits, forest_digits}
use Rattle.llrp_tree.specs.OpenTree.{Begun, kind_of_head, leading_digits, part, covers, Rest, due, tail_due, plain_values, AreLeading, IsOpenNode, IsOpenTree}
use Rattle.llrp_tree.specs.Calls.Standing.{begin_node, leading}
use Rattle.llrp_tree.specs.Weight.{weight}
use Rattle.llrp_tree.specs.Private.Weight.{open_weight}
use Rattle.llrp_tree.proofs.LengthLemmas.{length-message_head, length-tlv, length-tv, length-tail_digits, length-body_digits, length-spell}
use Rattle.llrp_tree.proofs.WeightLemmas.{own_octets, weight_within}
use Rattle.llrp_tree.proofs.WholeNodes.{closed_digits, no_field_due}
use Rattle.llrp_stream.specs.declared.engine.body_reader.BodyReader.{BodyReader}
use Rattle.llrp_stream.specs.declared.engine.body_reader.Stage.{Stage}
use Rattle.llrp_stream.specs.declared.engine.body_reader.Stage.TheVariants as stage
use Rattle.llrp_stream.specs.Calls.Front.{Reaches}
use Rattle.llrp_stream.specs.Calls.Reading.{HasReadTo, IsAtStage}
use Rattle.llrp_tree.proofs.Totality.{parent_ready}
use Rattle.llrp_tree.proofs.Undecided.{part_of as message_bits}

-- ---- one begun node

tail_bits : (kind : Kind) (fields : List ℕ) (tail : Option (List ℕ)) → 8 * length (unwrap_or tail []) ≤ length (leading_digits kind fields tail)
unfolding leading_digits
tail_bits kind fields None = omega arith
tail_bits kind fields (Some os) = omega (arith, length-append (field_digits (fields_of kind) fields) (tail_digits (tail_of kind) os), length-tail_digits (tail_of kind) os)

-- a begun node covers its head and no less than its tail and its children weigh
own_bits : (b : Begun) → length (head_digits b.head) + 8 * (length (unwrap_or b.tail []) + weight b.children) ≤ length (part b)
unfolding part
own_bits b =
    let lead : List Bool = leading_digits (kind_of_head b.head) b.fields b.tail in
    omega (
      arith,
      length-append (head_digits b.head) (lead ++ forest_digits b.children),
      length-append lead (forest_digits b.children),
      tail_bits (kind_of_head b.head) b.fields b.tail,
      length-spell b.children,
      weight_within b.children,
    )

some_head : (h : Head) → 8 ≤ length (head_digits h)
some_head (message v k n id) = omega (arith, length-message_head v k n id)
some_head (tlv k n) = omega (arith, length-tlv k n)
some_head (tv k) = omega (arith, length-tv k)

-- a parameter with type and value whose field is read covers one octet more than its tail at least
value_bits : (k : ParamKind) (fields : List ℕ) (tail : Option (List ℕ)) → is_tv k ≡ true → AreLeading (fields_of (Parameter k)) fields → drop (length fields) (fields_of (Parameter k)) ≡ [] → tail_due (tail_of (Parameter k)) tail ≡ Rest
    → 8 * (1 + length (unwrap_or tail [])) ≤ length (leading_digits (Parameter k) fields tail)
value_bits k fields tail e l d t =
    let os : List ℕ = unwrap_or tail [] in
    let is = ap (λ (x : List Bool). length x) (closed_digits (Parameter k) fields tail l d t) ∙ length-body_digits (Parameter k) (plain_values (fields_of (Parameter k)) fields) os in
    let one : head_octets k ≡ 1 = rw e refl in
    omega (arith, is, own_octets k os)

-- ---- the nodes around the innermost one

-- a parameter of which all but the children is read covers no less than it weighs
ready_bits : (h : Head) (stop : ℕ) (fields : List ℕ) (tail : Option (List ℕ)) (children : Forest) (q : Begun) (outer : List Begun) → IsOpenNode (begin_node h stop fields tail children) (q ∷ outer) → due (begin_node h stop fields tail children) ≡ Rest
    → 8 * (2 + length (unwrap_or tail []) + weight children) ≤ length (part (begin_node h stop fields tail children))
unfolding part due
ready_bits (message v k n id) stop fields tail children q outer o d = absurd o.head
ready_bits (tlv k n) stop fields tail children q outer o d = omega (arith, own_bits (begin_node (tlv k n) stop fields tail children), length-tlv k n)
ready_bits (tv k) stop fields tail children q outer o d =
    let r = no_field_due (drop (length fields) (fields_of (Parameter k))) (tail_due (tail_of (Parameter k)) tail) d in
    let lead : List Bool = leading_digits (Parameter k) fields tail in
    omega (
      arith,
      length-append (head_digits (tv k)) (lead ++ forest_digits children),
      length-append lead (forest_digits children),
      length-tv k,
      value_bits k fields tail o.head.kind_is_tv o.fields r.0 r.1,
      length-spell children,
      weight_within children,
    )

-- an octet is to spare
spare : (p : Begun) (outer : List Begun) → IsOpenTree (p ∷ outer) → due p ≡ Rest → 8 * open_weight (p ∷ outer) + 8 ≤ length (covers (p ∷ outer))
unfolding IsOpenTree covers
spare p [] o d = omega (arith, own_bits p, message_bits p.head p.stop o.0.head, length-append (covers []) (part p))
spare p (q ∷ outer) o d =
    let rest = spare q outer o.1 (parent_ready p.head p.stop q outer o.0.head) in
    let own = ready_bits p.head p.stop p.fields p.tail p.children q outer o.0 d in
    omega (arith, rest, own, length-append (covers (q ∷ outer)) (part p))

-- ---- an open tree

pub tree_within : (b : Begun) (outer : List Begun) → IsOpenTree (b ∷ outer) → 8 * open_weight (b ∷ outer) ≤ length (covers (b ∷ outer))
unfolding IsOpenTree covers
tree_within b [] o = omega (arith, own_bits b, message_bits b.head b.stop o.0.head, length-append (covers []) (part b))
tree_within b (p ∷ outer) o =
    let rest = spare p outer o.1 (parent_ready b.head b.stop p outer o.0.head) in
    omega (arith, rest, own_bits b, some_head b.head, length-append (covers (p ∷ outer)) (part b))

reached : {p : KindSet} (front : List ℕ) (n : ℕ) (b : Begun) (outer : List Begun) (at : ℕ) → Reaches p front n (b ∷ outer) at → 8 * open_weight (b ∷ outer) ≤ at
reached front n b outer at r =
    let long : length (covers (b ∷ outer)) ≡ at = ap (λ (x : List Bool). length x) r.covered ∙ length-take-le at (digits_of_bytes front) (omega (arith, length-bytes front, r.within)) in
    omega (arith, long, tree_within b outer r.is_open)

at_stage : (s : Stage) (r : BodyReader) (front : List ℕ) (b : Begun) (outer : List Begun) → IsAtStage s r front b outer → r.bit < 8 → open_weight (b ∷ outer) ≤ r.at
at_stage (stage.Leading next) r front b outer st small = omega (arith, reached front r.octets b outer (8 * r.at + r.bit) st.reaches)
at_stage (stage.Tail left) r front b outer st small =
    let tail = ap (λ (x : Begun). length (unwrap_or x.tail [])) st.is in
    let children = ap (λ (x : Begun). weight x.children) st.is in
    omega (arith, reached front r.octets (leading b.head b.stop b.fields) outer (8 * st.from) st.reaches, tail, children, st.place)
at_stage stage.Children r front b outer st small = omega (arith, reached front r.octets b outer (8 * r.at) st.reaches)

-- in every stage, the octets of a begun tail among it
pub held_within : (r : BodyReader) (front : List ℕ) (b : Begun) (outer : List Begun) → HasReadTo r front b outer → open_weight (b ∷ outer) ≤ r.at
held_within r front b outer rd = at_stage r.stage r front b outer rd.stage rd.bit_small
