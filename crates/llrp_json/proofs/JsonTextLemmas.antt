-- Values that are printed are texts of JSON.
use Rattle.std.proofs.Common.{◌≡◌, inl, inr, ℕ, zero, suc, ◌+◌, ◌-◌, ◌*◌, ◌/◌, ◌%◌, ◌^◌, ◌<◌, ◌≤◌, ◌==◌, Bool, true, false, not, cond, List, [], ◌∷◌, ◌++◌, length, get_or, map, refl, sym, ap, subst, arith}
use Rattle.std.specs.Prelude.{◌&&◌, codes, decimal, nat_lt}
use Rattle.std.specs.List.{AllByRecursion, flat_map, join_with_byte, list_all}
use Rattle.std.proofs.lemmas.Fmt.{decimal_digit}
use Rattle.hex.specs.Hex.{encode_lower, encode_with, lower_digits}
use Rattle.llrp_tree.specs.Lawful.{AreOctets}
use Rattle.llrp_tree.specs.Tree.{words_of}
use Rattle.llrp_listing.specs.NodeLine.{signed_text}
use Rattle.llrp_listing.proofs.DecimalWords.{digits_of}
use Rattle.llrp_json.specs.JsonValues as text_of
use Rattle.llrp_json.specs.JsonValues.{escaped, inside}
use Rattle.llrp_json.specs.Calls.JsonTexts.{IsCharacter, IsDigits, IsJson, IsString, Value, Elements, Members, string, number, empty_array, array, object, one_element, more_elements, one_member, more_members}
use Rattle.llrp_tree.proofs.LawLemmas.{both}
use Rattle.llrp_schema.proofs.SchemaLemmas.{not_true}

-- ---- strings

differs : (a b : ℕ) → (a == b) ≡ false → a ≡ b → ⊥
differs a b e same = grind arith

same_as : (a b : ℕ) → (a == b) ≡ true → a ≡ b
same_as a b e = grind arith

is_below : (a b : ℕ) → nat_lt a b ≡ true → a < b
is_below a b e = grind arith

is_not_below : (a b : ℕ) → nat_lt a b ≡ false → b ≤ a
is_not_below a b e = grind arith

-- an octet of a string is written as a character or as an escape
pub escaped_character : (c : ℕ) → IsCharacter (escaped c)
escaped_character c = at_quote (c == 34) refl
  where
    at_control : (b : Bool) → nat_lt c 32 ≡ b → (c ≡ 34 → ⊥) → (c ≡ 92 → ⊥) → IsCharacter (cond b (codes "\\u00" ++ encode_lower (c ∷ [])) (c ∷ []))
    at_control true e q k = let low : c < 32 = is_below c 32 e in inr (inr (inr (c, omega (arith, low), refl)))
    at_control false e q k = inl (c, is_not_below c 32 e, q, k, refl)

    at_backslash : (b : Bool) → (c == 92) ≡ b → (c ≡ 34 → ⊥) → IsCharacter (cond b (92 ∷ 92 ∷ []) (cond (nat_lt c 32) (codes "\\u00" ++ encode_lower (c ∷ [])) (c ∷ [])))
    at_backslash true e q = inr (inr (inl refl))
    at_backslash false e q = at_control (nat_lt c 32) refl q (differs c 92 e)

    at_quote : (b : Bool) → (c == 34) ≡ b → IsCharacter (cond b (92 ∷ 34 ∷ []) (cond (c == 92) (92 ∷ 92 ∷ []) (cond (nat_lt c 32) (codes "\\u00" ++ encode_lower (c ∷ [])) (c ∷ []))))
    at_quote true e = inr (inl refl)
    at_quote false e = at_backslash (c == 92) refl (differs c 34 e)

each_escaped : (text : List ℕ) → AllByRecursion IsCharacter (map escaped text)
each_escaped [] = tt
each_escaped (c ∷ text) = (escaped_character c, each_escaped text)

all_escaped : (text : List ℕ) → inside text ≡ flat_map (λ character. character) (map escaped text)
all_escaped [] = refl
all_escaped (c ∷ text) = ap (λ (x : List ℕ). escaped c ++ x) (all_escaped text)

pub is_string : (text : List ℕ) → IsString (text_of.string text)
is_string text = record { characters = map escaped text; each = each_escaped text; text_is = ap (λ (x : List ℕ). 34 ∷ (x ++ 34 ∷ [])) (all_escaped text) }

-- ---- hexadecimal digits

abbrev alone : ℕ → List ℕ
alone c = c ∷ []

all_alone : (text : List ℕ) → text ≡ flat_map (λ character. character) (map alone text)
all_alone [] = refl
all_alone (c ∷ text) = ap (λ (x : List ℕ). c ∷ x) (all_alone text)

all_at : (p : ℕ → Bool) (xs : List ℕ) (k : ℕ) → list_all p xs ≡ true → k < length xs → p (get_or xs k 0) ≡ true
all_at p [] k e lt = absurd (omega arith)
all_at p (x ∷ xs) zero e lt = (both (p x) (list_all p xs) e).0
all_at p (x ∷ xs) (suc k) e lt = all_at p xs k (both (p x) (list_all p xs) e).1 (omega (arith, lt))

-- it need not be escaped
is_plain : ℕ → Bool
is_plain c = nat_lt 47 c && not (c == 92)

plain_character : (c : ℕ) → is_plain c ≡ true → IsCharacter (alone c)
unfolding is_plain
plain_character c e =
    let p = both (nat_lt 47 c) (not (c == 92)) e in
    let low : 47 < c = is_below 47 c p.0 in
    inl (c, omega (arith, low), (λ same. omega (arith, low, same)), differs c 92 (not_true (c == 92) p.1), refl)

digits_plain : list_all is_plain lower_digits ≡ true
unfolding is_plain
digits_plain = refl

digit_character : (v : ℕ) → v < 16 → IsCharacter (alone (get_or lower_digits v 0))
digit_character v lt = plain_character (get_or lower_digits v 0) (all_at is_plain lower_digits v digits_plain lt)

each_digit : (octets : List ℕ) → AreOctets octets → AllByRecursion IsCharacter (map alone (encode_lower octets))
unfolding encode_with
each_digit [] o = tt
each_digit (c ∷ octets) o = let lt = o.0 in (digit_character (c / 16) (omega (arith, lt)), (digit_character (c % 16) (omega arith), each_digit octets o.1))

is_quoted : (octets : List ℕ) → AreOctets octets → IsString (text_of.quoted (encode_lower octets))
is_quoted octets o = record { characters = map alone (encode_lower octets); each = each_digit octets o; text_is = ap (λ (x : List ℕ). 34 ∷ (x ++ 34 ∷ [])) (all_alone (encode_lower octets)) }

-- ---- numbers

is_digits : (n : ℕ) → n < 10 ^ 20 → IsDigits (decimal n)
is_digits zero lt =
    let d = digits_of 0 lt in
    let one : length (decimal 0) ≡ 1 = ap (λ (x : List ℕ). length x) (decimal_digit 0 (omega arith)) in
    (d.digits, d.some, λ more. absurd (omega (arith, more, one)))
is_digits (suc n) lt = let d = digits_of (suc n) lt in (d.digits, d.some, λ more. d.lead (omega arith))

pub is_number : (n : ℕ) → n < 10 ^ 20 → IsJson Value (decimal n)
is_number n lt = number (decimal n) (inl (is_digits n lt))

pub is_signed : (n : ℕ) → n < 256 → IsJson Value (signed_text n)
is_signed n lt = go (nat_lt n 128) refl
  where
    go : (b : Bool) → nat_lt n 128 ≡ b → IsJson Value (cond b (decimal n) (45 ∷ decimal (256 - n)))
    go true e = is_number n (omega (arith, lt))
    go false e = number (45 ∷ decimal (256 - n)) (inr (decimal (256 - n), is_digits (256 - n) (omega arith), refl))

-- ---- arrays and objects

elements_of : (v : List ℕ) (vs : List (List ℕ)) → AllByRecursion (IsJson Value) (v ∷ vs) → IsJson Elements (join_with_byte 44 (v ∷ vs))
elements_of v [] p = one_element v p.0
elements_of v (w ∷ ws) p = more_elements v (join_with_byte 44 (w ∷ ws)) p.0 (elements_of w ws p.1)

pub is_array : (values : List (List ℕ)) → AllByRecursion (IsJson Value) values → IsJson Value (text_of.array values)
is_array [] p = empty_array
is_array (v ∷ vs) p = array (join_with_byte 44 (v ∷ vs)) (elements_of v vs p)

abbrev pub IsMember : List ℕ → Type 0
IsMember text = (name value : List ℕ) × IsJson Value value × (text ≡ text_of.member name value)

members_of : (m : List ℕ) (ms : List (List ℕ)) → AllByRecursion IsMember (m ∷ ms) → IsJson Members (join_with_byte 44 (m ∷ ms))
members_of m [] p = subst (IsJson Members) (sym p.0.3) (one_member (text_of.string p.0.0) p.0.1 (is_string p.0.0) p.0.2)
members_of m (k ∷ ks) p =
    let more : List ℕ = join_with_byte 44 (k ∷ ks) in
    subst (λ (x : List ℕ). IsJson Members (x ++ (44 ∷ more))) (sym p.0.3) (more_members (text_of.string p.0.0) p.0.1 more (is_string p.0.0) p.0.2 (members_of k ks p.1))

pub is_object : (m : List ℕ) (ms : List (List ℕ)) → AllByRecursion IsMember (m ∷ ms) → IsJson Value (text_of.object (m ∷ ms))
is_object m ms p = object (join_with_byte 44 (m ∷ ms)) (members_of m ms p)

pub all_append : (P : List ℕ → Type 0) (xs ys : List (List ℕ)) → AllByRecursion P xs → AllByRecursion P ys → AllByRecursion P (xs ++ ys)
all_append P [] ys p q = q
all_append P (x ∷ xs) ys p q = (p.0, all_append P xs ys p.1 q)

pub text_member : (name text : List ℕ) → IsMember (text_of.member name (text_of.string text))
text_member name text = (name, text_of.string text, string (text_of.string text) (is_string text), refl)

pub number_member : (name : List ℕ) (n : ℕ) → n < 10 ^ 20 → IsMember (text_of.member name (decimal n))
number_member name n lt = (name, decimal n, is_number n lt, refl)

pub digits_member : (name octets : List ℕ) → AreOctets octets → IsMember (text_of.member name (text_of.quoted (encode_lower octets)))
digits_member name octets o = (name, text_of.quoted (encode_lower octets), string (text_of.quoted (encode_lower octets)) (is_quoted octets o), refl)

pub words_are : (octets : List ℕ) → AreOctets octets → AllByRecursion (IsJson Value) (map decimal (words_of octets))
words_are [] o = tt
words_are (high ∷ []) o = tt
words_are (high ∷ low ∷ octets) o = let h = o.0 in let l = o.1.0 in (is_number (256 * high + low) (omega (arith, h, l)), words_are octets o.1.1)
