-- The octets of open lines, and one line that is closed.
use Rattle.std.proofs.Common.{◌≡◌, ℕ, zero, suc, ◌+◌, ◌*◌, ◌/◌, ◌%◌, ◌^◌, ◌-◌, ◌<◌, ◌≤◌, Bool, true, false, List, [], ◌∷◌, ◌++◌, length, take, drop, Some, None, refl, sym, ap, ◌∙◌, arith, inl, inr, append_assoc, length-append}
use Rattle.std.specs.Prelude.{if◌then◌else◌}
use Rattle.std.proofs.lemmas.List.{append-nil, take-append-le, drop-append-le, length-take, length-drop}
use Rattle.std.proofs.Math.Seq.{take-append-add, drop-append-add}
use Rattle.tag_bits.specs.Digits.{digits, digits_of_bytes}
use Rattle.tag_bits.proofs.DigitLemmas.{digits-split, length-digits}
use Rattle.tag_bits.proofs.ByteLemmas.{bytes-append, bytes-cons, length-bytes, take-bytes, drop-bytes}
use Rattle.llrp_schema.specs.declared.kinds.ParamKind.{ParamKind}
use Rattle.llrp_schema.specs.declared.kinds.Kind.{Kind}
use Rattle.llrp_schema.specs.declared.kinds.Kind.TheVariants.{Parameter}
use Rattle.llrp_schema.specs.Schema.{is_tv, number_of}
use Rattle.llrp_tree.specs.Lawful.{AreOctets, body_octets, head_octets, octets}
use Rattle.llrp_tree.specs.Calls.Lawful.{own_octets}
use Rattle.llrp_tree.specs.Spelling.{body_digits, head_digits, head_of, forest_digits, tlv, tv}
use Rattle.llrp_tree.specs.Tree as tree
use Rattle.llrp_tree.proofs.LengthLemmas.{length-body_digits, length-head, length-spell}
use Rattle.llrp_listing.specs.Private.EncodeBuffer.{settled, with_two}
use Rattle.llrp_listing.specs.Private.OpenNodes.{AreKept, IsDoomed, OpenNode, chain_digits, chain_octets, line_digits, node_digits, node_fault, node_octets, with_child}
use Rattle.llrp_listing.proofs.NodeFaults.{own_told}
use Rattle.llrp_tree.proofs.OctetLemmas.{octets-append as octets_append}

-- ---- lists of octets

octets_take : (n : ℕ) (xs : List ℕ) → AreOctets xs → AreOctets (take n xs)
octets_take zero xs p = tt
octets_take (suc n) [] p = tt
octets_take (suc n) (x ∷ xs) p = (p.0, octets_take n xs p.1)

octets_drop : (n : ℕ) (xs : List ℕ) → AreOctets xs → AreOctets (drop n xs)
octets_drop zero xs p = p
octets_drop (suc n) [] p = tt
octets_drop (suc n) (x ∷ xs) p = octets_drop n xs p.1

pub octets_two : (at number : ℕ) (room : List ℕ) → number < 65536 → AreOctets room → AreOctets (with_two at number room)
octets_two at number room lt p = octets_append (take at room) ((number / 256) ∷ (number % 256) ∷ drop (at + 2) room) (octets_take at room p) (omega arith, (omega arith, octets_drop (at + 2) room p))

pub length-two : (at number : ℕ) (room : List ℕ) → at + 2 ≤ length room → length (with_two at number room) ≡ length room
length-two at number room le = length-append (take at room) ((number / 256) ∷ (number % 256) ∷ drop (at + 2) room) ∙ omega (arith, length-take at room, length-drop (at + 2) room)

-- a number over two octets between others
pub two_inside : (a b c : List ℕ) (at number : ℕ) → at + 2 ≤ length b → with_two (length a + at) number (a ++ (b ++ c)) ≡ a ++ (with_two at number b ++ c)
two_inside a b c at number le =
    let two : List ℕ → List ℕ = λ (z : List ℕ). (number / 256) ∷ (number % 256) ∷ z in
    let front : take (length a + at) (a ++ (b ++ c)) ≡ a ++ take at b = take-append-add a (b ++ c) at ∙ ap (λ (z : List ℕ). a ++ z) (take-append-le at b c (omega arith)) in
    let place : (length a + at) + 2 ≡ length a + (at + 2) = omega arith in
    let back : drop ((length a + at) + 2) (a ++ (b ++ c)) ≡ drop (at + 2) b ++ c = ap (λ (n : ℕ). drop n (a ++ (b ++ c))) place ∙ drop-append-add a (b ++ c) (at + 2) ∙ drop-append-le (at + 2) b c le in
    ap (λ (z : List ℕ). z ++ two (drop ((length a + at) + 2) (a ++ (b ++ c)))) front
    ∙ ap (λ (z : List ℕ). (a ++ take at b) ++ two z) back
    ∙ append_assoc a (take at b) (two (drop (at + 2) b ++ c))
    ∙ ap (λ (z : List ℕ). a ++ z) (sym (append_assoc (take at b) (two (drop (at + 2) b)) c))

-- and its digits
pub digits_two : (at number : ℕ) (bytes : List ℕ) → at + 2 ≤ length bytes → number < 65536 → digits_of_bytes (with_two at number bytes) ≡ take (8 * at) (digits_of_bytes bytes) ++ (digits 16 number ++ drop (8 * at + 16) (digits_of_bytes bytes))
digits_two at number bytes le lt =
    let back = drop (at + 2) bytes in
    let place : 8 * (at + 2) ≡ 8 * at + 16 = omega arith in
    let small : number < 2 ^ 16 = omega arith in
    let split : digits 16 number ≡ digits 8 (number / 256) ++ digits 8 (number % 256) = digits-split 8 8 number small in
    bytes-append (take at bytes) ((number / 256) ∷ (number % 256) ∷ back)
    ∙ ap (λ (z : List Bool). z ++ digits_of_bytes ((number / 256) ∷ (number % 256) ∷ back)) (sym (take-bytes at bytes (omega arith)))
    ∙ ap (λ (z : List Bool). take (8 * at) (digits_of_bytes bytes) ++ z)
    (bytes-cons (number / 256) ((number % 256) ∷ back)
    ∙ ap (λ (z : List Bool). digits 8 (number / 256) ++ z) (bytes-cons (number % 256) back)
    ∙ sym (append_assoc (digits 8 (number / 256)) (digits 8 (number % 256)) (digits_of_bytes back))
    ∙ ap (λ (z : List Bool). z ++ digits_of_bytes back) (sym split)
    ∙ ap (λ (z : List Bool). digits 16 number ++ z) (sym (drop-bytes (at + 2) bytes le) ∙ ap (λ (n : ℕ). drop n (digits_of_bytes bytes)) place))

-- ---- digits of a chain

-- sixteen digits in place of others
pub splice : (front head old new back : List Bool) (n : ℕ) → n ≡ length front + 16 → length head ≡ 16 → length old ≡ 16 → take n (front ++ ((head ++ old) ++ back)) ++ (new ++ drop (n + 16) (front ++ ((head ++ old) ++ back))) ≡ front ++ ((head ++ new) ++ back)
splice front head old new back n at h o =
    let whole = front ++ ((head ++ old) ++ back) in
    let apart : whole ≡ (front ++ head) ++ (old ++ back) = ap (λ (z : List Bool). front ++ z) (append_assoc head old back) ∙ sym (append_assoc front head (old ++ back)) in
    let long : length (front ++ head) ≡ n = omega (arith, length-append front head, h, at) in
    let first : take n whole ≡ front ++ head = ap (take n) apart ∙ seam_take n (front ++ head) (old ++ back) long in
    let place : n + 16 ≡ length (front ++ head) + length old = omega (arith, long, o) in
    let last : drop (n + 16) whole ≡ back = ap (λ (k : ℕ). drop k whole) place ∙ ap (drop (length (front ++ head) + length old)) apart ∙ drop-append-add (front ++ head) (old ++ back) (length old) ∙ seam_drop (length old) old back refl in
    ap (λ (z : List Bool). z ++ (new ++ drop (n + 16) whole)) first
    ∙ ap (λ (z : List Bool). (front ++ head) ++ (new ++ z)) last
    ∙ append_assoc front head (new ++ back)
    ∙ ap (λ (z : List Bool). front ++ z) (sym (append_assoc head new back))
  where
    seam_take : (k : ℕ) (xs ys : List Bool) → length xs ≡ k → take k (xs ++ ys) ≡ xs
    seam_take k xs ys e = ap (λ (i : ℕ). take i (xs ++ ys)) (sym e ∙ omega arith) ∙ take-append-add xs ys 0 ∙ append-nil xs

    seam_drop : (k : ℕ) (xs ys : List Bool) → length xs ≡ k → drop k (xs ++ ys) ≡ ys
    seam_drop k xs ys e = ap (λ (i : ℕ). drop i (xs ++ ys)) (sym e ∙ omega arith) ∙ drop-append-add xs ys 0

-- a line's digits are those of its own octets
pub length-line : (kind : ParamKind) (numbers tail : List ℕ) → length (line_digits (Parameter kind) numbers tail) ≡ 8 * own_octets (Parameter kind) tail
unfolding line_digits
length-line kind numbers tail = length-append (head_digits (head_of kind 0)) (body_digits (Parameter kind) numbers tail) ∙ omega (arith, length-head kind 0, length-body_digits (Parameter kind) numbers tail)

module _ (kind : ParamKind) (numbers tail : List ℕ) (children : tree.Forest) where
  abbrev pub size : ℕ
  size = head_octets kind + body_octets (Parameter kind) tail + octets children

  abbrev child_digits : ℕ → List Bool
  child_digits n = (head_digits (head_of kind n) ++ body_digits (Parameter kind) numbers tail) ++ forest_digits children

  length-child : (n : ℕ) → length (child_digits n) ≡ 8 * size
  length-child n =
      length-append (head_digits (head_of kind n) ++ body_digits (Parameter kind) numbers tail) (forest_digits children)
      ∙ omega (arith, length-append (head_digits (head_of kind n)) (body_digits (Parameter kind) numbers tail), length-head kind n, length-body_digits (Parameter kind) numbers tail, length-spell children)

  -- with a length, where the parameter has one
  tlv_is : (n : ℕ) → is_tv kind ≡ false → child_digits n ≡ ((digits 6 0 ++ digits 10 (number_of (Parameter kind))) ++ digits 16 n) ++ (body_digits (Parameter kind) numbers tail ++ forest_digits children)
  unfolding head_digits
  tlv_is n e = append_assoc (head_digits (head_of kind n)) (body_digits (Parameter kind) numbers tail) (forest_digits children) ∙ ap (λ (b : Bool). head_digits (if b then tv kind else tlv kind n) ++ (body_digits (Parameter kind) numbers tail ++ forest_digits children)) e

  tv_is : (n : ℕ) → is_tv kind ≡ true → child_digits 0 ≡ child_digits n
  tv_is n e = ap (λ (b : Bool). (head_digits (if b then tv kind else tlv kind 0) ++ body_digits (Parameter kind) numbers tail) ++ forest_digits children) e ∙ ap (λ (b : Bool). (head_digits (if b then tv kind else tlv kind n) ++ body_digits (Parameter kind) numbers tail) ++ forest_digits children) (sym e)

  -- the octets after others, once the length is written
  settled_digits : (front : List Bool) (bytes : List ℕ) → digits_of_bytes bytes ≡ front ++ child_digits 0 → is_tv kind ≡ false → size < 65536
      → digits_of_bytes (with_two (length bytes - size + 2) size bytes) ≡ front ++ child_digits size
  settled_digits front bytes e lengthy lt =
      let long : 8 * length bytes ≡ length front + 8 * size = sym (length-bytes bytes) ∙ ap (λ (x : List Bool). length x) e ∙ length-append front (child_digits 0) ∙ omega (arith, length-child 0) in
      let four : 4 ≤ size = ap_four lengthy in
      let at = length bytes - size + 2 in
      let place : 8 * at ≡ length front + 16 = omega (arith, long) in
      let head = digits 6 0 ++ digits 10 (number_of (Parameter kind)) in
      let back = body_digits (Parameter kind) numbers tail ++ forest_digits children in
      let whole : digits_of_bytes bytes ≡ front ++ ((head ++ digits 16 0) ++ back) = e ∙ ap (λ (z : List Bool). front ++ z) (tlv_is 0 lengthy) in
      digits_two at size bytes (omega (arith, long, four)) lt
      ∙ ap (λ (z : List Bool). take (8 * at) z ++ (digits 16 size ++ drop (8 * at + 16) z)) whole
      ∙ splice front head (digits 16 0) (digits 16 size) back (8 * at) place (length-append (digits 6 0) (digits 10 (number_of (Parameter kind))) ∙ omega (arith, length-digits 6 0, length-digits 10 (number_of (Parameter kind)))) (length-digits 16 0)
      ∙ ap (λ (z : List Bool). front ++ z) (sym (tlv_is size lengthy))
    where
      ap_four : is_tv kind ≡ false → 4 ≤ size
      ap_four lengthy = let h : head_octets kind ≡ 4 = ap (λ (b : Bool). if b then 1 else 4) lengthy in omega (arith, h)

-- ---- a line that is closed

module _ (kind : ParamKind) (n p : OpenNode) (outer : List OpenNode) (is : n.line.kind ≡ Parameter kind) where
  abbrev pub own_size : ℕ
  own_size = size kind n.line.numbers n.line.tail n.children

  pub size_is : node_octets n ≡ own_size
  size_is = ap (λ (k : Kind). own_octets k n.line.tail + octets n.children) is

  chain_before : chain_digits (n ∷ p ∷ outer) ≡ chain_digits (p ∷ outer) ++ child_digits kind n.line.numbers n.line.tail n.children 0
  unfolding chain_digits line_digits
  chain_before = ap (λ (k : Kind). (chain_digits outer ++ node_digits p) ++ (line_digits k n.line.numbers n.line.tail ++ forest_digits n.children)) is

  chain_after : chain_digits (with_child kind n p ∷ outer) ≡ chain_digits (p ∷ outer) ++ child_digits kind n.line.numbers n.line.tail n.children own_size
  unfolding chain_digits forest_digits
  chain_after =
      let o = chain_digits outer in
      let l = line_digits p.line.kind p.line.numbers p.line.tail in
      let s = forest_digits p.children in
      let h = head_digits (head_of kind own_size) in
      let b = body_digits (Parameter kind) n.line.numbers n.line.tail in
      let c = forest_digits n.children in
      ap (λ (z : List Bool). o ++ (l ++ (s ++ z))) (sym (append_assoc h b c))
      ∙ ap (λ (z : List Bool). o ++ z) (sym (append_assoc l s ((h ++ b) ++ c)))
      ∙ sym (append_assoc o (l ++ s) ((h ++ b) ++ c))

  doomed_closed : (limit : ℕ) → node_fault n.line n.children ≡ None → IsDoomed limit (n ∷ p ∷ outer) → IsDoomed limit (with_child kind n p ∷ outer)
  unfolding chain_octets
  doomed_closed limit fine (inl (inl own)) = absurd (let x : None ≡ Some own.0 = sym fine ∙ own_told n.line n.children own.0 own.1 in cc)
  doomed_closed limit fine (inl (inr bad)) = inl bad
  doomed_closed limit fine (inr lt) = inr (omega (arith, lt, size_is))

  -- what is kept, once the line is closed
  pub kept_closed : (limit : ℕ) (kept tv : Bool) (bytes : List ℕ) → node_fault n.line n.children ≡ None → own_size < 65536 → tv ≡ is_tv kind → AreKept limit kept bytes (n ∷ p ∷ outer)
      → AreKept limit kept (settled kept tv (length bytes) own_size bytes) (with_child kind n p ∷ outer)
  kept_closed limit false short bytes fine lt t k = doomed_closed limit fine k
  kept_closed limit true true bytes fine lt t k = k ∙ chain_before ∙ ap (λ (z : List Bool). chain_digits (p ∷ outer) ++ z) (tv_is kind n.line.numbers n.line.tail n.children own_size (sym t)) ∙ sym chain_after
  kept_closed limit true false bytes fine lt t k = settled_digits kind n.line.numbers n.line.tail n.children (chain_digits (p ∷ outer)) bytes (k ∙ chain_before) (sym t) lt ∙ sym chain_after

  -- a line that is kept lies within the octets
  pub kept_within : (limit : ℕ) (bytes : List ℕ) → AreKept limit true bytes (n ∷ p ∷ outer) → own_size ≤ length bytes
  kept_within limit bytes k =
      omega (arith, length-bytes bytes, ap (λ (x : List Bool). length x) (k ∙ chain_before), length-append (chain_digits (p ∷ outer)) (child_digits kind n.line.numbers n.line.tail n.children 0), length-child kind n.line.numbers n.line.tail n.children 0)

pub settled_inside : (kept tv : Bool) (size : ℕ) (a b c : List ℕ) → (kept ≡ true → tv ≡ false → (4 ≤ size) × (size ≤ length b) × (size < 65536)) → settled kept tv (length a + length b) size (a ++ (b ++ c)) ≡ a ++ (settled kept tv (length b) size b ++ c)
settled_inside false short count a b c f = refl
settled_inside true true count a b c f = refl
settled_inside true false count a b c f =
    let g = f refl refl in
    let place : (length a + length b) - count + 2 ≡ length a + (length b - count + 2) = omega (arith, g.1) in
    ap (λ (at : ℕ). with_two at count (a ++ (b ++ c))) place ∙ two_inside a b c (length b - count + 2) count (omega (arith, g.0, g.1))

pub settled_octets : (kept tv : Bool) (size : ℕ) (b : List ℕ) → (kept ≡ true → tv ≡ false → (4 ≤ size) × (size ≤ length b) × (size < 65536)) → AreOctets b → AreOctets (settled kept tv (length b) size b)
settled_octets false short count b f o = o
settled_octets true true count b f o = o
settled_octets true false count b f o = octets_two (length b - count + 2) count b (f refl refl).2 o

pub length-settled : (kept tv : Bool) (size : ℕ) (b : List ℕ) → (kept ≡ true → tv ≡ false → (4 ≤ size) × (size ≤ length b) × (size < 65536)) → length (settled kept tv (length b) size b) ≡ length b
length-settled false short count b f = refl
length-settled true true count b f = refl
length-settled true false count b f = let g = f refl refl in length-two (length b - count + 2) count b (omega (arith, g.0, g.1))
