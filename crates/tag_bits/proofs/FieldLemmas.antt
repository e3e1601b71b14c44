-- A field of bytes, from the octets that it touches.
use Rattle.std.proofs.Common.{◌≡◌, ℕ, suc, ◌+◌, ◌-◌, ◌*◌, ◌/◌, ◌%◌, ◌^◌, ◌<◌, ◌≤◌, Bool, List, ◌∷◌, ◌++◌, length, take, drop, refl, sym, ap, subst, ◌∙◌, arith, length-append, append_assoc, add-one, add-zero, bit_and, bit_or, get_or, set}
use Rattle.std.proofs.Math.Pow.{mod-mod-pow}
use Rattle.std.proofs.Math.Seq.{take-add}
use Rattle.std.proofs.lemmas.List.{length-take, length-drop, drop-take, take-take, drop-drop, set_split, get_or-drop}
use Rattle.std.proofs.lemmas.Nat.{shr_below, and_mask, or_mod, or_shifted, shl_whole}
use Rattle.std.proofs.lemmas.Nat.Bits.{ones_shr}
use Rattle.std.proofs.lemmas.Slice.{take-put_mid, drop-put_mid}
use Rattle.tag_bits.specs.Digits.{value, digits, digits_of_bytes, field}
use Rattle.tag_bits.specs.Calls.Digits.{with_field}
use Rattle.tag_bits.proofs.ByteLemmas.{length-bytes, bytes-cons, bytes-append, take-bytes, drop-bytes, take_within, drop_within}
use Rattle.tag_bits.proofs.DigitLemmas.{length-digits, value-digits, value-below, value-append, digits_from, digits-join, digits-split, take-digits, value-drop, drop-seam}
use Rattle.tag_bits.proofs.WordLemmas.{two_below, mask_is}
use borrow.Rule.Slice.PartMut.{put_mid}

-- the digits from octet `first` on up to digit `kept` of octet `last`
touched : List ℕ → ℕ → ℕ → ℕ → List Bool
touched bs first last kept = digits_of_bytes (take (last - first) (drop first bs)) ++ take kept (digits 8 (get_or bs last 0))

-- a field, as what follows the first digits of those
field_in_octets : (bs : List ℕ) (first before last kept place width : ℕ) → 8 * first + before ≡ place → 8 * last + kept ≡ place + width
    → first ≤ last → last < length bs → kept ≤ 8 → field (digits_of_bytes bs) place width ≡ drop before (touched bs first last kept)
unfolding touched
field_in_octets bs first before last kept place width start end order room few =
    let all = digits_of_bytes bs in
    let ahead = digits_of_bytes (take first bs) in
    let middle = take (last - first) (drop first bs) in
    let part = take kept (digits 8 (get_or bs last 0)) in
    let total : first + (last - first) ≡ last = omega arith in
    let front : take last bs ≡ take first bs ++ middle = ap (λ (k : ℕ). take k bs) (sym total) ∙ take-add first (last - first) bs in
    let long : length ahead ≡ 8 * first = omega (arith, length-bytes (take first bs), length-take first bs) in
    sym (drop-take place width all)
    ∙ ap (λ (k : ℕ). drop place (take k all)) (sym end)
    ∙ ap (λ (x : List Bool). drop place x) (take_within last kept bs room few ∙ ap (λ (x : List ℕ). digits_of_bytes x ++ part) front ∙ ap (λ (x : List Bool). x ++ part) (bytes-append (take first bs) middle) ∙ append_assoc ahead (digits_of_bytes middle) part)
    ∙ ap (λ (k : ℕ). drop k (ahead ++ (digits_of_bytes middle ++ part))) (sym start)
    ∙ sym (drop-drop before (8 * first) (ahead ++ (digits_of_bytes middle ++ part)))
    ∙ ap (λ (x : List Bool). drop before x) (drop-seam (8 * first) ahead (digits_of_bytes middle ++ part) long)

-- what the octets spell: the whole ones, and the upper part of the last
value-touched : (bs : List ℕ) (first last kept : ℕ) → kept ≤ 8 → get_or bs last 0 < 2 ^ 8
    → value (touched bs first last kept) ≡ value (digits_of_bytes (take (last - first) (drop first bs))) * 2 ^ kept + get_or bs last 0 / 2 ^ (8 - kept)
unfolding touched
value-touched bs first last kept few small =
    let octet = get_or bs last 0 in
    let whole = digits_of_bytes (take (last - first) (drop first bs)) in
    let rest = 8 - kept in
    let total : kept + rest ≡ 8 = omega arith in
    let small' : octet < 2 ^ (kept + rest) = subst (λ (k : ℕ). octet < 2 ^ k) (sym total) small in
    let part : take kept (digits 8 octet) ≡ digits kept (octet / 2 ^ rest) = subst (λ (k : ℕ). take kept (digits k octet) ≡ digits kept (octet / 2 ^ rest)) total (take-digits kept rest octet small') in
    ap (λ (x : List Bool). value (whole ++ x)) part
    ∙ value-append whole (digits kept (octet / 2 ^ rest))
    ∙ ap (λ (k : ℕ). value whole * 2 ^ k + value (digits kept (octet / 2 ^ rest))) (length-digits kept (octet / 2 ^ rest))
    ∙ ap (λ (n : ℕ). value whole * 2 ^ kept + n) (value-digits kept (octet / 2 ^ rest) (shr_below octet kept rest small'))

-- the number of a field
field_value : (bs : List ℕ) (first before last kept place width : ℕ) → 8 * first + before ≡ place → 8 * last + kept ≡ place + width
    → first ≤ last → last < length bs → kept ≤ 8 → get_or bs last 0 < 2 ^ 8
    → value (field (digits_of_bytes bs) place width) ≡ (value (digits_of_bytes (take (last - first) (drop first bs))) * 2 ^ kept + get_or bs last 0 / 2 ^ (8 - kept)) % 2 ^ width
unfolding touched
field_value bs first before last kept place width start end order room few small =
    let long : length (touched bs first last kept) ≡ before + width =
    omega (arith, length-append (digits_of_bytes (take (last - first) (drop first bs))) (take kept (digits 8 (get_or bs last 0))), length-bytes (take (last - first) (drop first bs)), length-take (last - first) (drop first bs), length-drop first bs, length-take kept (digits 8 (get_or bs last 0)), length-digits 8 (get_or bs last 0)) in
    ap value (field_in_octets bs first before last kept place width start end order room few)
    ∙ value-drop before width (touched bs first last kept) long
    ∙ ap (λ (n : ℕ). n % 2 ^ width) (value-touched bs first last kept few small)

-- the number that the code makes of the whole octets and the last
unfoldable pub gathered : ℕ → ℕ → ℕ → ℕ → ℕ
gathered whole octet kept width = bit_and (bit_or (whole * 2 ^ kept % 2 ^ 128) (octet / 2 ^ (8 - kept))) ((2 ^ 128 - 1) / 2 ^ (128 - width))

-- digits that a shift drops are beyond the field
gathered_is : (whole octet kept width : ℕ) → width ≤ 128 → kept ≤ 8 → octet < 2 ^ 8 → gathered whole octet kept width ≡ (whole * 2 ^ kept + octet / 2 ^ (8 - kept)) % 2 ^ width
unfolding gathered
gathered_is whole octet kept width most few small =
    let part = octet / 2 ^ (8 - kept) in
    let total : kept + (8 - kept) ≡ 8 = omega arith in
    let part_fits : part < 2 ^ kept = shr_below octet kept (8 - kept) (subst (λ (k : ℕ). octet < 2 ^ k) (sym total) small) in
    let wide : 128 - width + width ≡ 128 = omega arith in
    let narrow : 128 - (128 - width) ≡ width = omega arith in
    let mask : (2 ^ 128 - 1) / 2 ^ (128 - width) ≡ 2 ^ width - 1 = ones_shr 128 (128 - width) (omega arith) ∙ ap (λ (k : ℕ). 2 ^ k - 1) narrow in
    let dropped : whole * 2 ^ kept % 2 ^ 128 % 2 ^ width ≡ whole * 2 ^ kept % 2 ^ width = subst (λ (k : ℕ). whole * 2 ^ kept % 2 ^ k % 2 ^ width ≡ whole * 2 ^ kept % 2 ^ width) wide (mod-mod-pow (whole * 2 ^ kept) (128 - width) width) in
    ap (λ (k : ℕ). bit_and (bit_or (whole * 2 ^ kept % 2 ^ 128) part) k) mask
    ∙ and_mask (bit_or (whole * 2 ^ kept % 2 ^ 128) part) width
    ∙ or_mod (whole * 2 ^ kept % 2 ^ 128) part width
    ∙ ap (λ (k : ℕ). bit_or k (part % 2 ^ width)) dropped
    ∙ sym (or_mod (whole * 2 ^ kept) part width)
    ∙ ap (λ (k : ℕ). k % 2 ^ width) (or_shifted whole kept part part_fits)

pub gathered_value : (bs : List ℕ) (first before last kept place width : ℕ) → 8 * first + before ≡ place → 8 * last + kept ≡ place + width
    → first ≤ last → last < length bs → kept ≤ 8 → width ≤ 128 → get_or bs last 0 < 2 ^ 8
    → gathered (value (digits_of_bytes (take (last - first) (drop first bs)))) (get_or bs last 0) kept width ≡ value (field (digits_of_bytes bs) place width)
gathered_value bs first before last kept place width start end order room few most small =
    gathered_is (value (digits_of_bytes (take (last - first) (drop first bs)))) (get_or bs last 0) kept width most few small
    ∙ sym (field_value bs first before last kept place width start end order room few small)

-- a field of bytes has as many digits as it is wide
pub length-field : (bs : List ℕ) (place width : ℕ) → place + width ≤ 8 * length bs → length (field (digits_of_bytes bs) place width) ≡ width
length-field bs place width h =
    omega (arith, length-take width (drop place (digits_of_bytes bs)), length-drop place (digits_of_bytes bs), length-bytes bs)

-- a field's number has its digits
pub digits_of_field : (bs : List ℕ) (place width n : ℕ) → place + width ≤ 8 * length bs → n ≡ value (field (digits_of_bytes bs) place width) → digits width n ≡ field (digits_of_bytes bs) place width
digits_of_field bs place width n h e = digits_from width n (field (digits_of_bytes bs) place width) (length-field bs place width h) (sym e)

-- and is below 2 ^ width
pub field_below : (bs : List ℕ) (place width n : ℕ) → place + width ≤ 8 * length bs → n ≡ value (field (digits_of_bytes bs) place width) → n < 2 ^ width
field_below bs place width n h e =
    rw e (subst (λ (k : ℕ). value (field (digits_of_bytes bs) place width) < 2 ^ k) (length-field bs place width h) (value-below (field (digits_of_bytes bs) place width)))

-- a field's upper digits, and its last 64
pub halves_of_field : (bs : List ℕ) (place upper high low : ℕ) → upper ≤ 64 → place + (upper + 64) ≤ 8 * length bs
    → high ≡ value (field (digits_of_bytes bs) place upper) → low ≡ value (field (digits_of_bytes bs) (place + upper) 64)
    → bit_or (high * 2 ^ 64 % 2 ^ 128) low ≡ value (field (digits_of_bytes bs) place (upper + 64))
halves_of_field bs place upper high low few within high_is low_is =
    let ds = digits_of_bytes bs in
    let high_fits : high < 2 ^ upper = field_below bs place upper high (omega arith) high_is in
    let low_fits : low < 2 ^ 64 = field_below bs (place + upper) 64 low (omega arith) low_is in
    let parts : field ds place (upper + 64) ≡ field ds place upper ++ field ds (place + upper) 64 =
    take-add upper 64 (drop place ds) ∙ ap (λ (x : List Bool). field ds place upper ++ take 64 x) (drop-drop upper place ds) in
    let spelled : value (field ds place (upper + 64)) ≡ value (field ds place upper) * 2 ^ 64 + value (field ds (place + upper) 64) =
    ap value parts
    ∙ value-append (field ds place upper) (field ds (place + upper) 64)
    ∙ ap (λ (k : ℕ). value (field ds place upper) * 2 ^ k + value (field ds (place + upper) 64)) (length-field bs (place + upper) 64 (omega arith)) in
    ap (λ (k : ℕ). bit_or k low) (shl_whole high upper 64 128 high_fits (omega arith))
    ∙ or_shifted high 64 low low_fits
    ∙ ap (λ (k : ℕ). k * 2 ^ 64 + low) high_is
    ∙ ap (λ (k : ℕ). value (field ds place upper) * 2 ^ 64 + k) low_is
    ∙ sym spelled

-- the digits of bytes of which those of one octet are known
bytes-set : (bs : List ℕ) (i octet : ℕ) → i < length bs → digits_of_bytes (set bs i octet) ≡ digits_of_bytes (take i bs) ++ (digits 8 octet ++ digits_of_bytes (drop (i + 1) bs))
bytes-set bs i octet room =
    ap digits_of_bytes (set_split bs i octet room)
    ∙ bytes-append (take i bs) (octet ∷ drop (suc i) bs)
    ∙ ap (λ (x : List Bool). digits_of_bytes (take i bs) ++ x) (bytes-cons octet (drop (suc i) bs))
    ∙ ap (λ (k : ℕ). digits_of_bytes (take i bs) ++ (digits 8 octet ++ digits_of_bytes (drop k bs))) (sym (add-one i))

-- a field in one octet
pub put_in_octet : (bs : List ℕ) (at before kept place width value octet : ℕ) → 8 * at + before ≡ place → 8 * at + kept ≡ place + width
    → at < length bs → kept ≤ 8 → digits 8 octet ≡ with_field (digits 8 (get_or bs at 0)) before (digits width value)
    → digits_of_bytes (set bs at octet) ≡ with_field (digits_of_bytes bs) place (digits width value)
put_in_octet bs at before kept place width value octet start end room few is =
    let all = digits_of_bytes bs in
    let own = digits 8 (get_or bs at 0) in
    let new = digits width value in
    let behind : before + length new ≡ kept = omega (arith, length-digits width value) in
    let end' : place + length new ≡ 8 * at + kept = omega (arith, length-digits width value) in
    let front : take place all ≡ digits_of_bytes (take at bs) ++ take before own = ap (λ (k : ℕ). take k all) (sym start) ∙ take_within at before bs room (omega arith) in
    let back : drop (place + length new) all ≡ drop kept own ++ digits_of_bytes (drop (at + 1) bs) = ap (λ (k : ℕ). drop k all) end' ∙ drop_within at kept bs room few in
    bytes-set bs at octet room
    ∙ ap (λ (x : List Bool). digits_of_bytes (take at bs) ++ (x ++ digits_of_bytes (drop (at + 1) bs))) is
    ∙ rw (behind, front, back) (simp append_assoc)

-- the number that the code writes over all octets but the last: what comes before the field, and the field's upper digits
unfoldable pub upper : ℕ → ℕ → ℕ → ℕ → ℕ → ℕ
upper octet before kept width value = bit_or (octet / 2 ^ (8 - before) * 2 ^ (width - kept) % 2 ^ 128) (value / 2 ^ kept)

-- as a sum
upper_is : (octet before kept width value : ℕ) → before ≤ 8 → kept ≤ width → before + (width - kept) ≤ 128 → octet < 2 ^ 8 → value < 2 ^ width
    → (octet / 2 ^ (8 - before) < 2 ^ before) × (value / 2 ^ kept < 2 ^ (width - kept)) × (upper octet before kept width value ≡ octet / 2 ^ (8 - before) * 2 ^ (width - kept) + value / 2 ^ kept)
unfolding upper
upper_is octet before kept width value few part most small fits =
    let total : before + (8 - before) ≡ 8 = omega arith in
    let whole : width - kept + kept ≡ width = omega arith in
    let ahead : octet / 2 ^ (8 - before) < 2 ^ before = shr_below octet before (8 - before) (subst (λ (k : ℕ). octet < 2 ^ k) (sym total) small) in
    let high : value / 2 ^ kept < 2 ^ (width - kept) = shr_below value (width - kept) kept (subst (λ (k : ℕ). value < 2 ^ k) (sym whole) fits) in
    (ahead, high, rw (shl_whole (octet / 2 ^ (8 - before)) before (width - kept) 128 ahead most) (or_shifted (octet / 2 ^ (8 - before)) (width - kept) (value / 2 ^ kept) high))

-- it has the digits of as many octets
pub upper_fits : (octet first before last kept place width value : ℕ) → 8 * first + before ≡ place → 8 * last + kept ≡ place + width
    → first < last → before < 8 → kept ≤ 8 → width ≤ 128 → octet < 2 ^ 8 → value < 2 ^ width → upper octet before kept width value < 2 ^ (8 * (last - first))
upper_fits octet first before last kept place width value start end order little few most small fits =
    let total : before + (width - kept) ≡ 8 * (last - first) = omega arith in
    let u = upper_is octet before kept width value (omega arith) (omega arith) (omega arith) small fits in
    subst (λ (k : ℕ). upper octet before kept width value < 2 ^ k) total (rw (u.2) (two_below (octet / 2 ^ (8 - before)) before (value / 2 ^ kept) (width - kept) (u.0) (u.1)))

upper_digits : (octet first before last kept place width value : ℕ) → 8 * first + before ≡ place → 8 * last + kept ≡ place + width
    → first < last → before < 8 → kept ≤ 8 → width ≤ 128 → octet < 2 ^ 8 → value < 2 ^ width
    → digits (8 * (last - first)) (upper octet before kept width value) ≡ take before (digits 8 octet) ++ digits (width - kept) (value / 2 ^ kept)
upper_digits octet first before last kept place width value start end order little few most small fits =
    let total : before + (width - kept) ≡ 8 * (last - first) = omega arith in
    let eight : before + (8 - before) ≡ 8 = omega arith in
    let u = upper_is octet before kept width value (omega arith) (omega arith) (omega arith) small fits in
    let own : take before (digits 8 octet) ≡ digits before (octet / 2 ^ (8 - before)) =
    subst (λ (k : ℕ). take before (digits k octet) ≡ digits before (octet / 2 ^ (8 - before))) eight (take-digits before (8 - before) octet (subst (λ (k : ℕ). octet < 2 ^ k) (sym eight) small)) in
    ap (λ (k : ℕ). digits k (upper octet before kept width value)) (sym total)
    ∙ ap (λ (n : ℕ). digits (before + (width - kept)) n) (u.2)
    ∙ digits-join before (width - kept) (octet / 2 ^ (8 - before)) (value / 2 ^ kept) (u.0) (u.1)
    ∙ ap (λ (x : List Bool). x ++ digits (width - kept) (value / 2 ^ kept)) (sym own)

-- a field that ends in a later octet
pub put_over_octets : (bs ys : List ℕ) (first before last kept place width value octet : ℕ) → 8 * first + before ≡ place → 8 * last + kept ≡ place + width
    → first < last → last < length bs → before < 8 → kept ≤ 8 → width ≤ 128 → get_or bs first 0 < 2 ^ 8 → value < 2 ^ width
    → length ys ≡ last - first → digits_of_bytes ys ≡ digits (8 * (last - first)) (upper (get_or bs first 0) before kept width value)
    → digits 8 octet ≡ with_field (digits 8 (get_or (put_mid first (last - first) bs ys) last 0)) 0 (digits kept (bit_and value (1 * 2 ^ kept % 2 ^ 128 - 1)))
    → digits_of_bytes (set (put_mid first (last - first) bs ys) last octet) ≡ with_field (digits_of_bytes bs) place (digits width value)
put_over_octets bs ys first before last kept place width value octet start end order room little few most small fits long written is =
    let all = digits_of_bytes bs in
    let mid = put_mid first (last - first) bs ys in
    let new = digits width value in
    let high = digits (width - kept) (value / 2 ^ kept) in
    let low = digits kept (value % 2 ^ kept) in
    let same : length mid ≡ length bs = omega (arith, length-append (take first bs) (ys ++ drop (last - first) (drop first bs)), length-append ys (drop (last - first) (drop first bs)), length-take first bs, length-drop (last - first) (drop first bs), length-drop first bs) in
    let ahead : take last mid ≡ take first bs ++ ys = take-put_mid first (last - first) bs ys last (omega arith) (omega arith) in
    let rest : drop (last + 1) mid ≡ drop (last + 1) bs = drop-put_mid first (last - first) bs ys (last + 1) (omega arith) (omega arith) long in
    let end' : place + length new ≡ 8 * last + kept = omega (arith, length-digits width value) in
    let behind : 0 + length low ≡ kept = omega (arith, length-digits kept (value % 2 ^ kept)) in
    let whole : width - kept + kept ≡ width = omega arith in
    let split : new ≡ high ++ low = subst (λ (k : ℕ). digits k value ≡ high ++ low) whole (digits-split (width - kept) kept value (subst (λ (k : ℕ). value < 2 ^ k) (sym whole) fits)) in
    let front : take place all ≡ digits_of_bytes (take first bs) ++ take before (digits 8 (get_or bs first 0)) = ap (λ (k : ℕ). take k all) (sym start) ∙ take_within first before bs (omega arith) (omega arith) in
    let back : drop (place + length new) all ≡ drop kept (digits 8 (get_or bs last 0)) ++ digits_of_bytes (drop (last + 1) bs) = ap (λ (k : ℕ). drop k all) end' ∙ drop_within last kept bs room few in
    let uppers = upper_digits (get_or bs first 0) first before last kept place width value start end order little few most small fits in
    let unwritten : get_or mid last 0 ≡ get_or bs last 0 =
    ap (λ (k : ℕ). get_or mid k 0) (sym (add-zero last)) ∙ sym (get_or-drop last mid 0 0) ∙ ap (λ (x : List ℕ). get_or x 0 0) (drop-put_mid first (last - first) bs ys last (omega arith) (omega arith) long) ∙ get_or-drop last bs 0 0 ∙ ap (λ (k : ℕ). get_or bs k 0) (add-zero last) in
    let own : digits 8 octet ≡ low ++ drop kept (digits 8 (get_or bs last 0)) =
    is
    ∙ ap (λ (k : ℕ). with_field (digits 8 (get_or mid last 0)) 0 (digits kept k)) (mask_is value kept (omega arith))
    ∙ ap (λ (k : ℕ). low ++ drop k (digits 8 (get_or mid last 0))) behind
    ∙ ap (λ (k : ℕ). low ++ drop kept (digits 8 k)) unwritten in
    bytes-set mid last octet (omega arith)
    ∙ ap (λ (x : List ℕ). digits_of_bytes x ++ (digits 8 octet ++ digits_of_bytes (drop (last + 1) mid))) ahead
    ∙ ap (λ (x : List Bool). x ++ (digits 8 octet ++ digits_of_bytes (drop (last + 1) mid))) (bytes-append (take first bs) ys ∙ ap (λ (x : List Bool). digits_of_bytes (take first bs) ++ x) (written ∙ uppers))
    ∙ ap (λ (x : List ℕ). (digits_of_bytes (take first bs) ++ (take before (digits 8 (get_or bs first 0)) ++ high)) ++ (digits 8 octet ++ digits_of_bytes x)) rest
    ∙ ap (λ (x : List Bool). (digits_of_bytes (take first bs) ++ (take before (digits 8 (get_or bs first 0)) ++ high)) ++ (x ++ digits_of_bytes (drop (last + 1) bs))) own
    ∙ rw (front, back, split) (simp append_assoc)

-- a field that lies within some octets is theirs
pub field_within : (bs : List ℕ) (first count before place width : ℕ) → 8 * first + before ≡ place → before + width ≤ 8 * count → first + count ≤ length bs
    → field (digits_of_bytes (take count (drop first bs))) before width ≡ field (digits_of_bytes bs) place width
field_within bs first count before place width start few room =
    let rest = digits_of_bytes (drop first bs) in
    let total : before + (8 * count - before) ≡ 8 * count = omega arith in
    ap (λ (x : List Bool). field x before width) (sym (take-bytes count (drop first bs) (omega (arith, length-drop first bs))))
    ∙ ap (λ (k : ℕ). take width (drop before (take k rest))) (sym total)
    ∙ ap (λ (x : List Bool). take width x) (drop-take before (8 * count - before) rest)
    ∙ take-take width (8 * count - before) (drop before rest) (omega arith)
    ∙ ap (λ (x : List Bool). take width (drop before x)) (sym (drop-bytes first bs (omega arith)))
    ∙ ap (λ (x : List Bool). take width x) (drop-drop before (8 * first) (digits_of_bytes bs))
    ∙ ap (λ (k : ℕ). field (digits_of_bytes bs) k width) start

-- the number that eight octets spell has their digits
pub eight_digits : (bs : List ℕ) → length bs ≡ 8 → digits 64 (value (digits_of_bytes bs)) ≡ digits_of_bytes bs
eight_digits bs l = digits_from 64 (value (digits_of_bytes bs)) (digits_of_bytes bs) (omega (arith, length-bytes bs)) refl
