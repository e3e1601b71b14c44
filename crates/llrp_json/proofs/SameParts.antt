-- Fields, tails and parameters that have the same members are the same.
use Rattle.std.proofs.Common.{◌≡◌, ◌⊎◌, inl, inr, ℕ, ◌+◌, ◌-◌, ◌*◌, ◌^◌, ◌<◌, ◌≤◌, true, false, List, [], ◌∷◌, ◌++◌, length, map, Result, Ok, refl, sym, ap, subst, ◌∙◌, arith}
use Rattle.std.specs.Prelude.{codes, decimal}
use Rattle.std.specs.List.{AllByRecursion, list_all}
use Rattle.hex.specs.declared.error.FromHexError.{FromHexError}
use Rattle.hex.specs.Hex.{decode_of, encode_lower}
use Rattle.hex.proofs.HexLemmas.{decode_of-encode_lower}
use Rattle.tag_uri.specs.TagText.{IsTextOf}
use Rattle.tag_uri.proofs.TextLaws.{words_apart}
use Rattle.llrp_schema.specs.declared.kinds.Kind.{Kind}
use Rattle.llrp_schema.specs.declared.kinds.Tail.{Tail}
use Rattle.llrp_schema.specs.declared.kinds.Tail.TheVariants.{Absent, Words, Text, Bits, Data}
use Rattle.llrp_schema.specs.Schema.{FieldRule, plain_fields_of, tail_of}
use Rattle.llrp_tree.specs.Lawful.{AreInRange, AreOctets, IsTail, Obeys}
use Rattle.llrp_tree.specs.Tree.{Forest, words_of}
use Rattle.llrp_listing.specs.NodeLine.{NumberForm, Version, Id, Unsigned, Signed, Epc, field_form, signed_text}
use Rattle.llrp_listing.proofs.DecimalWords.{one_number}
use Rattle.llrp_listing.proofs.NumberWords.{no_minus, sides, signed_negative, signed_positive}
use Rattle.llrp_listing.proofs.TailWords.{bytes_fit}
use Rattle.llrp_json.specs.JsonItems.{AreFields, IsValue, field_name, parameters_members, tail_members}
use Rattle.llrp_json.specs.JsonValues.{array, member, quoted, string}
use Rattle.llrp_json.specs.Calls.JsonTexts.{IsJson, Value}
use Rattle.llrp_json.proofs.JsonParts.{arrays_same, members_same, quoted_same, strings_same}
use Rattle.llrp_json.proofs.JsonTextLemmas.{words_are}
use Rattle.llrp_json.proofs.JsonTexts.{all_fit, fits, fits_form, parts}
use Rattle.llrp_listing.proofs.LawfulLines.{below}
use Rattle.llrp_tree.proofs.LawLemmas.{both}

-- the first of two lists, and what follows it
pub heads_same : (m k : List ℕ) (ms ks : List (List ℕ)) → m ∷ ms ≡ k ∷ ks → (m ≡ k) × (ms ≡ ks)
heads_same m k ms ks e = (cc, cc)

-- ---- fields

signed_same : (m n : ℕ) → m < 256 → n < 256 → signed_text m ≡ signed_text n → m ≡ n
signed_same m n p q e = by_sign (sides m) (sides n)
  where
    by_sign : (m < 128) ⊎ (128 ≤ m) → (n < 128) ⊎ (128 ≤ n) → m ≡ n
    by_sign (inl a) (inl b) = one_number m n (omega (arith, a)) (omega (arith, b)) (sym (signed_positive m a) ∙ e ∙ signed_positive n b)
    by_sign (inl a) (inr b) = absurd (no_minus m a (decimal (256 - n)) (sym (signed_negative n b) ∙ sym e ∙ signed_positive m a))
    by_sign (inr a) (inl b) = absurd (no_minus n b (decimal (256 - m)) (sym (signed_negative m a) ∙ e ∙ signed_positive n b))
    by_sign (inr a) (inr b) =
        let texts : 45 ∷ decimal (256 - m) ≡ 45 ∷ decimal (256 - n) = sym (signed_negative m a) ∙ e ∙ signed_negative n b in
        let same : 256 - m ≡ 256 - n = one_number (256 - m) (256 - n) (omega arith) (omega arith) cc in
        omega (arith, same, p, q)

value_same : (form : NumberForm) (g n m : ℕ) (v w : List ℕ) → fits_form form g ≡ true → n ≤ g → m ≤ g → IsValue form n v → IsValue form m w → v ≡ w → n ≡ m
value_same Version g n m v w h a b p q e = absurd (let bad : false ≡ true = h in cc)
value_same Id g n m v w h a b p q e = absurd (let bad : false ≡ true = h in cc)
value_same Unsigned g n m v w h a b p q e = one_number n m (below n g (10 ^ 20) h a) (below m g (10 ^ 20) h b) (sym p ∙ e ∙ q)
value_same Signed g n m v w h a b p q e = signed_same n m (below n g 256 h a) (below m g 256 h b) (sym p ∙ e ∙ q)
value_same Epc g n m v w h a b p q e =
    let same : p.0 ≡ q.0 = strings_same p.0 q.0 (sym p.2 ∙ e ∙ q.2) in
    words_apart n m q.0 (below n g (2 ^ 96) h a) (below m g (2 ^ 96) h b) (subst (λ (x : List ℕ). IsTextOf n x) same p.1) q.1

fields_same : (rs : List FieldRule) (ns ks : List ℕ) (ms ls xs ys : List (List ℕ)) → list_all fits rs ≡ true → AreInRange rs ns → AreInRange rs ks → AreFields rs ns ms → AreFields rs ks ls → ms ++ xs ≡ ls ++ ys → (ns ≡ ks) × (xs ≡ ys)
fields_same [] [] [] [] [] xs ys h a b p q e = (refl, e)
fields_same [] (n ∷ ns) ks ms ls xs ys h a b p q e = absurd a
fields_same [] [] (k ∷ ks) ms ls xs ys h a b p q e = absurd b
fields_same [] [] [] (m ∷ ms) ls xs ys h a b p q e = absurd p
fields_same [] [] [] [] (l ∷ ls) xs ys h a b p q e = absurd q
fields_same (r ∷ rs) [] ks ms ls xs ys h a b p q e = absurd a
fields_same (r ∷ rs) (n ∷ ns) [] ms ls xs ys h a b p q e = absurd b
fields_same (r ∷ rs) (n ∷ ns) (k ∷ ks) [] ls xs ys h a b p q e = absurd p
fields_same (r ∷ rs) (n ∷ ns) (k ∷ ks) (m ∷ ms) [] xs ys h a b p q e = absurd q
fields_same (r ∷ rs) (n ∷ ns) (k ∷ ks) (m ∷ ms) (l ∷ ls) xs ys h a b p q e =
    let fit = both (fits r) (list_all fits rs) h in
    let f = p.0 in
    let g = q.0 in
    let parted = heads_same m l (ms ++ xs) (ls ++ ys) e in
    let value = members_same (field_name r) (field_name r) f.0 g.0 (sym f.2 ∙ parted.0 ∙ g.2) in
    let number : n ≡ k = value_same (field_form r) r.greatest n k f.0 g.0 fit.0 a.0 b.0 f.1 g.1 value.1 in
    let more = fields_same rs ns ks ms ls xs ys fit.1 a.1 b.1 p.1 q.1 parted.1 in
    (ap (λ (x : ℕ). x ∷ ns) number ∙ ap (λ (x : List ℕ). k ∷ x) more.0, more.1)

-- ---- tails

octets_same : (a b : List ℕ) → AreOctets a → AreOctets b → encode_lower a ≡ encode_lower b → a ≡ b
octets_same a b p q e =
    let t : ◌≡◌ {A = Result (List ℕ) FromHexError} (Ok a) (Ok b) = sym (decode_of-encode_lower a (bytes_fit a p)) ∙ ap decode_of e ∙ decode_of-encode_lower b (bytes_fit b q) in
    cc

words_same : (a b : List ℕ) (n m : ℕ) → length a ≡ 2 * n → length b ≡ 2 * m → AreOctets a → AreOctets b → map decimal (words_of a) ≡ map decimal (words_of b) → a ≡ b
words_same [] [] n m l k p q e = refl
words_same [] (x ∷ []) n m l k p q e = absurd (omega (arith, k))
words_same [] (x ∷ y ∷ b) n m l k p q e = absurd (let bad : [] ≡ decimal (256 * x + y) ∷ map decimal (words_of b) = e in cc)
words_same (x ∷ []) b n m l k p q e = absurd (omega (arith, l))
words_same (x ∷ y ∷ a) [] n m l k p q e = absurd (let bad : decimal (256 * x + y) ∷ map decimal (words_of a) ≡ [] = e in cc)
words_same (x ∷ y ∷ a) (z ∷ []) n m l k p q e = absurd (omega (arith, k))
words_same (x ∷ y ∷ a) (z ∷ w ∷ b) n m l k p q e =
    let parted = heads_same (decimal (256 * x + y)) (decimal (256 * z + w)) (map decimal (words_of a)) (map decimal (words_of b)) e in
    let p0 = p.0 in
    let p1 = p.1.0 in
    let q0 = q.0 in
    let q1 = q.1.0 in
    let word : 256 * x + y ≡ 256 * z + w = one_number (256 * x + y) (256 * z + w) (omega (arith, p0, p1)) (omega (arith, q0, q1)) parted.0 in
    let high : x ≡ z = omega (arith, word, p1, q1) in
    let low : y ≡ w = omega (arith, word, high) in
    let more : a ≡ b = words_same a b (n - 1) (m - 1) (omega (arith, l)) (omega (arith, k)) p.1.1 q.1.1 parted.1 in
    ap (λ (i : ℕ). i ∷ y ∷ a) high ∙ ap (λ (i : ℕ). z ∷ i ∷ a) low ∙ ap (λ (i : List ℕ). z ∷ w ∷ i) more

-- what the values of two members of one name are, with what follows them
value_and_more : (name v w : List ℕ) (xs ys : List (List ℕ)) → member name v ∷ xs ≡ member name w ∷ ys → (v ≡ w) × (xs ≡ ys)
value_and_more name v w xs ys e = let parted = heads_same (member name v) (member name w) xs ys e in ((members_same name name v w parted.0).1, parted.1)

tails_same : (form : Tail) (fields others tail last : List ℕ) (xs ys : List (List ℕ)) → IsTail form fields tail → IsTail form others last → AreOctets tail → AreOctets last → tail_members form tail ++ xs ≡ tail_members form last ++ ys → (tail ≡ last) × (xs ≡ ys)
tails_same Absent fields others tail last xs ys p q a b e = (p ∙ sym q, e)
tails_same Words fields others tail last xs ys p q a b e =
    let ns : List (List ℕ) = map decimal (words_of tail) in
    let ms : List (List ℕ) = map decimal (words_of last) in
    let parted = value_and_more (codes "words") (array ns) (array ms) xs ys e in
    (words_same tail last p.0 q.0 p.2 q.2 a b (arrays_same ns ms (words_are tail a) (words_are last b) parted.0), parted.1)
tails_same Text fields others tail last xs ys p q a b e =
    let parted = value_and_more (codes "text") (string tail) (string last) xs ys e in
    (strings_same tail last parted.0, parted.1)
tails_same Bits fields others tail last xs ys p q a b e =
    let parted = value_and_more (codes "bits") (quoted (encode_lower tail)) (quoted (encode_lower last)) xs ys e in
    (octets_same tail last a b (quoted_same (encode_lower tail) (encode_lower last) parted.0), parted.1)
tails_same Data fields others tail last xs ys p q a b e =
    let parted = value_and_more (codes "octets") (quoted (encode_lower tail)) (quoted (encode_lower last)) xs ys e in
    (octets_same tail last a b (quoted_same (encode_lower tail) (encode_lower last) parted.0), parted.1)

-- ---- parameters

below_same : (ss ts : List (List ℕ)) → AllByRecursion (IsJson Value) ss → AllByRecursion (IsJson Value) ts → parameters_members ss ≡ parameters_members ts → ss ≡ ts
below_same [] [] p q e = refl
below_same [] (t ∷ ts) p q e = absurd (let bad : [] ≡ member (codes "parameters") (array (t ∷ ts)) ∷ [] = e in cc)
below_same (s ∷ ss) [] p q e = absurd (let bad : member (codes "parameters") (array (s ∷ ss)) ∷ [] ≡ [] = e in cc)
below_same (s ∷ ss) (t ∷ ts) p q e = arrays_same (s ∷ ss) (t ∷ ts) p q (value_and_more (codes "parameters") (array (s ∷ ss)) (array (t ∷ ts)) [] [] e).0

-- nodes of one kind whose members are the same
pub parts_same : (kind : Kind) (fields others tail last : List ℕ) (f g : Forest) (ms ls ss ts : List (List ℕ)) → Obeys kind fields tail f → Obeys kind others last g → AreFields (plain_fields_of kind) fields ms → AreFields (plain_fields_of kind) others ls → AllByRecursion (IsJson Value) ss → AllByRecursion (IsJson Value) ts
    → parts kind tail ms ss ≡ parts kind last ls ts → (fields ≡ others) × (tail ≡ last) × (ss ≡ ts)
parts_same kind fields others tail last f g ms ls ss ts p q a b j k e =
    let first = fields_same (plain_fields_of kind) fields others ms ls (tail_members (tail_of kind) tail ++ parameters_members ss) (tail_members (tail_of kind) last ++ parameters_members ts) (all_fit kind) p.ranges q.ranges a b e in
    let second = tails_same (tail_of kind) fields others tail last (parameters_members ss) (parameters_members ts) p.form q.form p.bytes q.bytes first.1 in
    (first.0, second.0, below_same ss ts j k second.1)
