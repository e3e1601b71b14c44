-- The text of a value is UTF-8 where its strings are.
use Rattle.std.proofs.Common.{◌≡◌, ℕ, zero, suc, ◌<◌, ◌≤◌, Bool, true, false, ◌&&◌, List, [], ◌∷◌, ◌++◌, length, get_or, IsUtf8, inl, inr, refl, sym, ap, ap₂, ◌∙◌, subst, arith, append_assoc, append-nil}
use Rattle.std.proofs.lemmas.Bool.{and_parts, cases_lt, cases_eq}
use Rattle.std.proofs.lemmas.Str.{IsUtf8-append, IsUtf8-nil, IsUtf8-encode, encode_ascii, inside_one}
use lib.Utf8.{scalar, scalars, encode, encodes}
use Rattle.std.specs.Prelude.{⊤}
use Rattle.std.specs.List.{AllByRecursion, join_with_byte}
use Rattle.hex.specs.Hex.{encode_with}
use Rattle.json.specs.Json.{Json, null, boolean, number, string, array, object, Items, no_items, item, Members, no_members, member}
use Rattle.json.proofs.Printed.Utf8.{IsUtf8-are_ascii, are_ascii}
use Rattle.llrp_json_read.proofs.ValueTexts.{text_of, items_texts, members_texts}
use Rattle.llrp_json.specs.JsonValues.{escaped, inside}
use Rattle.llrp_json.specs.JsonValues as written
use Rattle.llrp_json_read.proofs.PrintedStrings.{escaped_plain}

-- ---- strings

-- what stands for the octets below n is ASCII
abbrev escapes_below : ℕ → Bool
escapes_below zero = true
escapes_below (suc n) = are_ascii (escaped n) && escapes_below n

escape_below : (n : ℕ) → escapes_below n ≡ true → (x : ℕ) → x < n → are_ascii (escaped x) ≡ true
escape_below zero e x h = absurd (omega arith)
escape_below (suc n) e x h =
    let p = and_parts _ _ e in
    elim (cases_eq x n) [ inl same ↦ rw same p.0 | inr other ↦ escape_below n p.1 x (omega arith) ]

all_ascii : escapes_below 128 ≡ true
unfolding encode_with
all_ascii = refl

inside-append : (xs ys : List ℕ) → inside (xs ++ ys) ≡ inside xs ++ inside ys
inside-append [] ys = refl
inside-append (x ∷ xs) ys = ap (λ l. escaped x ++ l) (inside-append xs ys) ∙ sym (append_assoc (escaped x) _ _)

inside_high : (xs : List ℕ) → ((k : ℕ) → k < length xs → 128 ≤ get_or xs k 0) → inside xs ≡ xs
inside_high [] h = refl
inside_high (x ∷ xs) h =
    let high : 128 ≤ x = h 0 (omega arith) in
    ap₂ (λ (a b : List ℕ). a ++ b) (escaped_plain x (λ e. omega arith) (λ e. omega arith) (omega arith)) (inside_high xs (λ k below. h (suc k) (omega arith)))

one_character : (c : ℕ) → scalar c ≡ true → IsUtf8 (inside (encode c))
one_character c ok = elim (cases_lt c 128) [
  | inl small ↦ rw (encode_ascii c small, append-nil) (IsUtf8-are_ascii _ (escape_below 128 all_ascii c small))
  | inr big ↦
      let high : (k : ℕ) → k < length (encode c) → 128 ≤ get_or (encode c) k 0 = λ k below. elim (cases_lt (get_or (encode c) k 0) 128) [
        | inl low ↦ absurd (omega (arith, inside_one c [] (encode c) k (sym (append-nil _)) below low))
        | inr h ↦ h
      ] in
      subst IsUtf8 (sym (inside_high (encode c) high)) (IsUtf8-encode c ok)
]

all_characters : (cs : List ℕ) → scalars cs ≡ true → IsUtf8 (inside (encodes cs))
all_characters [] e = IsUtf8-nil
all_characters (c ∷ cs) e =
    let p = and_parts _ _ e in
    subst IsUtf8 (sym (inside-append (encode c) (encodes cs))) (IsUtf8-append _ _ (one_character c p.0) (all_characters cs p.1))

-- an octet of ASCII, and text after it
then : (x : ℕ) (xs : List ℕ) → are_ascii (x ∷ []) ≡ true → IsUtf8 xs → IsUtf8 (x ∷ xs)
then x xs a u = IsUtf8-append (x ∷ []) xs (IsUtf8-are_ascii (x ∷ []) a) u

closed : (xs : List ℕ) (x : ℕ) → are_ascii (x ∷ []) ≡ true → IsUtf8 xs → IsUtf8 (xs ++ x ∷ [])
closed xs x a u = IsUtf8-append xs (x ∷ []) u (IsUtf8-are_ascii (x ∷ []) a)

utf8_string : (s : List ℕ) → IsUtf8 s → IsUtf8 (written.string s)
utf8_string s u = then 34 _ refl (closed (inside s) 34 refl (subst (λ l. IsUtf8 (inside l)) u.1.1 (all_characters u.0 u.1.0)))

-- ---- values

-- all strings, names and numbers are UTF-8
abbrev mutual
  pub HasTexts : Json → Type 0
  HasTexts null = ⊤
  HasTexts (boolean b) = ⊤
  HasTexts (number s) = IsUtf8 s
  HasTexts (string s) = IsUtf8 s
  HasTexts (array js) = ItemsHaveTexts js
  HasTexts (object ms) = MembersHaveTexts ms

  pub ItemsHaveTexts : Items → Type 0
  ItemsHaveTexts no_items = ⊤
  ItemsHaveTexts (item j js) = HasTexts j × ItemsHaveTexts js

  pub MembersHaveTexts : Members → Type 0
  MembersHaveTexts no_members = ⊤
  MembersHaveTexts (member k j ms) = IsUtf8 k × HasTexts j × MembersHaveTexts ms

joined : (ts : List (List ℕ)) → AllByRecursion IsUtf8 ts → IsUtf8 (join_with_byte 44 ts)
joined [] h = IsUtf8-nil
joined (t ∷ []) h = h.0
joined (t ∷ u ∷ us) h = IsUtf8-append t _ h.0 (then 44 _ refl (joined (u ∷ us) h.1))

mutual
  pub utf8_text : (j : Json) → HasTexts j → IsUtf8 (text_of j)
  utf8_text null h = IsUtf8-are_ascii _ refl
  utf8_text (boolean true) h = IsUtf8-are_ascii _ refl
  utf8_text (boolean false) h = IsUtf8-are_ascii _ refl
  utf8_text (number s) h = h
  utf8_text (string s) h = utf8_string s h
  utf8_text (array js) h = then 91 _ refl (closed _ 93 refl (joined (items_texts js) (utf8_items js h)))
  utf8_text (object ms) h = then 123 _ refl (closed _ 125 refl (joined (members_texts ms) (utf8_members ms h)))

  utf8_items : (js : Items) → ItemsHaveTexts js → AllByRecursion IsUtf8 (items_texts js)
  utf8_items no_items h = tt
  utf8_items (item j js) h = (utf8_text j h.0, utf8_items js h.1)

  utf8_members : (ms : Members) → MembersHaveTexts ms → AllByRecursion IsUtf8 (members_texts ms)
  utf8_members no_members h = tt
  utf8_members (member k j ms) h = (IsUtf8-append (written.string k) _ (utf8_string k h.0) (then 58 _ refl (utf8_text j h.1)), utf8_members ms h.2)
