-- Strings, arrays and objects that have one text are the same.
use Rattle.std.proofs.Common.{◌≡◌, ℕ, ◌<◌, ◌==◌, Bool, true, false, cond, List, [], ◌∷◌, ◌++◌, Result, Ok, Err, drop, refl, sym, ap, ◌∙◌, arith, append_assoc}
use Rattle.std.specs.Prelude.{codes, nat_lt}
use Rattle.std.specs.Char.{is_ascii_digit}
use Rattle.std.specs.List.{AllByRecursion, join_with_byte}
use Rattle.std.proofs.lemmas.List.{append_cancel_right}
use Rattle.hex.specs.declared.error.FromHexError.{FromHexError}
use Rattle.hex.specs.Hex.{decode_of, encode_lower, encode_with}
use Rattle.hex.proofs.HexLemmas.{decode_of-encode_lower}
use Rattle.llrp_listing.proofs.PrintingLemmas.{join_first}
use Rattle.llrp_listing.proofs.TailWords.{bytes_fit}
use Rattle.llrp_json.specs.JsonValues as text_of
use Rattle.llrp_json.specs.JsonValues.{escaped, inside}
use Rattle.llrp_json.specs.Calls.JsonTexts.{IsJson, Value}
use Rattle.llrp_json.specs.JsonItems.{more_members}
use Rattle.llrp_json.proofs.JsonEnds.{AreSame, Stops, apart, character_ends, name_and_value, no_quote, opens, string_ends, turned, values_end}
use Rattle.llrp_json.proofs.JsonTextLemmas.{IsMember, escaped_character, is_string}

-- ---- strings

-- the octet that an escape is of, or that stands for itself
abbrev first_of : Result (List ℕ) FromHexError → ℕ
first_of (Ok (c ∷ more)) = c
first_of (Ok []) = 0
first_of (Err e) = 0

abbrev octet_of : List ℕ → ℕ
octet_of [] = 0
octet_of (c ∷ []) = c
octet_of (mark ∷ c ∷ []) = c
octet_of (mark ∷ letter ∷ zero_digit ∷ digits) = first_of (decode_of (drop 1 digits))

small : (c : ℕ) → nat_lt c 32 ≡ true → c < 256
small c e = grind arith

octet_back : (c : ℕ) → octet_of (escaped c) ≡ c
unfolding encode_with
octet_back c = at_quote (c == 34) refl
  where
    at_control : (b : Bool) → nat_lt c 32 ≡ b → octet_of (cond b (codes "\\u00" ++ encode_lower (c ∷ [])) (c ∷ [])) ≡ c
    at_control true e = ap first_of (decode_of-encode_lower (c ∷ []) (bytes_fit (c ∷ []) (small c e, tt)))
    at_control false e = refl

    at_backslash : (b : Bool) → (c == 92) ≡ b → octet_of (cond b (92 ∷ 92 ∷ []) (cond (nat_lt c 32) (codes "\\u00" ++ encode_lower (c ∷ [])) (c ∷ []))) ≡ c
    at_backslash true e = grind arith
    at_backslash false e = at_control (nat_lt c 32) refl

    at_quote : (b : Bool) → (c == 34) ≡ b → octet_of (cond b (92 ∷ 34 ∷ []) (cond (c == 92) (92 ∷ 92 ∷ []) (cond (nat_lt c 32) (codes "\\u00" ++ encode_lower (c ∷ [])) (c ∷ [])))) ≡ c
    at_quote true e = grind arith
    at_quote false e = at_backslash (c == 92) refl

inside_same : (a b : List ℕ) → inside a ++ 34 ∷ [] ≡ inside b ++ 34 ∷ [] → a ≡ b
inside_same [] [] e = refl
inside_same [] (d ∷ b) e = absurd (no_quote (escaped d) (inside b ++ 34 ∷ []) [] (escaped_character d) (e ∙ append_assoc (escaped d) (inside b) (34 ∷ [])))
inside_same (c ∷ a) [] e = absurd (no_quote (escaped c) (inside a ++ 34 ∷ []) [] (escaped_character c) (sym e ∙ append_assoc (escaped c) (inside a) (34 ∷ [])))
inside_same (c ∷ a) (d ∷ b) e =
    let p = character_ends (escaped c) (escaped d) (inside a ++ 34 ∷ []) (inside b ++ 34 ∷ []) (escaped_character c) (escaped_character d) (sym (append_assoc (escaped c) (inside a) (34 ∷ [])) ∙ e ∙ append_assoc (escaped d) (inside b) (34 ∷ [])) in
    let first : c ≡ d = sym (octet_back c) ∙ ap octet_of p.0 ∙ octet_back d in
    ap (λ (x : ℕ). x ∷ a) first ∙ ap (λ (x : List ℕ). d ∷ x) (inside_same a b p.1)

-- two texts have two strings
pub strings_same : (a b : List ℕ) → text_of.string a ≡ text_of.string b → a ≡ b
strings_same a b e = inside_same a b (let f : 34 ∷ (inside a ++ 34 ∷ []) ≡ 34 ∷ (inside b ++ 34 ∷ []) = e in cc)

pub quoted_same : (a b : List ℕ) → text_of.quoted a ≡ text_of.quoted b → a ≡ b
quoted_same a b e = append_cancel_right a b (34 ∷ []) (let f : 34 ∷ (a ++ 34 ∷ []) ≡ 34 ∷ (b ++ 34 ∷ []) = e in cc)

-- ---- what commas part

-- what follows one of several texts
row_stops : (c : ℕ) → is_ascii_digit c ≡ false → (texts : List (List ℕ)) → Stops (more_members texts ++ c ∷ [])
row_stops c no_digit [] = (c, [], no_digit, refl)
row_stops c no_digit (text ∷ texts) = (44, (text ++ more_members texts) ++ c ∷ [], refl, refl)

-- texts of which none begins another one, up to an octet that ends them
module _ (P : List ℕ → Type 0) (one_ends : (s t u v : List ℕ) → P s → P t → Stops u → Stops v → s ++ u ≡ t ++ v → AreSame s t u v) (c : ℕ) (no_digit : is_ascii_digit c ≡ false) (no_comma : (c == 44) ≡ false) where
  rows_same : (ss ts : List (List ℕ)) → AllByRecursion P ss → AllByRecursion P ts → more_members ss ++ c ∷ [] ≡ more_members ts ++ c ∷ [] → ss ≡ ts
  rows_same [] [] p q e = refl
  rows_same [] (t ∷ ts) p q e = absurd (apart c 44 [] ((t ++ more_members ts) ++ c ∷ []) no_comma e)
  rows_same (s ∷ ss) [] p q e = absurd (apart c 44 [] ((s ++ more_members ss) ++ c ∷ []) no_comma (sym e))
  rows_same (s ∷ ss) (t ∷ ts) p q e =
      let inner : (s ++ more_members ss) ++ c ∷ [] ≡ (t ++ more_members ts) ++ c ∷ [] = cc in
      let one = one_ends s t (more_members ss ++ c ∷ []) (more_members ts ++ c ∷ []) p.0 q.0 (row_stops c no_digit ss) (row_stops c no_digit ts) (sym (append_assoc s (more_members ss) (c ∷ [])) ∙ inner ∙ append_assoc t (more_members ts) (c ∷ [])) in
      ap (λ (x : List ℕ). x ∷ ss) one.0 ∙ ap (λ (x : List (List ℕ)). t ∷ x) (rows_same ss ts p.1 q.1 one.1)

  -- the same without a comma before the first
  lists_same : (s t : List ℕ) (ss ts : List (List ℕ)) → AllByRecursion P (s ∷ ss) → AllByRecursion P (t ∷ ts) → join_with_byte 44 (s ∷ ss) ++ c ∷ [] ≡ join_with_byte 44 (t ∷ ts) ++ c ∷ [] → (s ≡ t) × (ss ≡ ts)
  lists_same s t ss ts p q e =
      let inner : (s ++ more_members ss) ++ c ∷ [] ≡ (t ++ more_members ts) ++ c ∷ [] = ap (λ (x : List ℕ). x ++ c ∷ []) (sym (join_first s ss)) ∙ e ∙ ap (λ (x : List ℕ). x ++ c ∷ []) (join_first t ts) in
      let one = one_ends s t (more_members ss ++ c ∷ []) (more_members ts ++ c ∷ []) p.0 q.0 (row_stops c no_digit ss) (row_stops c no_digit ts) (sym (append_assoc s (more_members ss) (c ∷ [])) ∙ inner ∙ append_assoc t (more_members ts) (c ∷ [])) in
      (one.0, rows_same ss ts p.1 q.1 one.1)

-- ---- arrays and objects

no_empty : (t : List ℕ) (ts : List (List ℕ)) → IsJson Value t → 93 ∷ [] ≡ join_with_byte 44 (t ∷ ts) ++ 93 ∷ [] → ⊥
no_empty t ts j e = opens (more_members ts ++ 93 ∷ []) [] j (sym (append_assoc t (more_members ts) (93 ∷ [])) ∙ ap (λ (x : List ℕ). x ++ 93 ∷ []) (sym (join_first t ts)) ∙ sym e)

-- arrays of the same text are of the same values
pub arrays_same : (ss ts : List (List ℕ)) → AllByRecursion (IsJson Value) ss → AllByRecursion (IsJson Value) ts → text_of.array ss ≡ text_of.array ts → ss ≡ ts
arrays_same [] [] p q e = refl
arrays_same [] (t ∷ ts) p q e = absurd (no_empty t ts q.0 (let f : 91 ∷ 93 ∷ [] ≡ 91 ∷ (join_with_byte 44 (t ∷ ts) ++ 93 ∷ []) = e in cc))
arrays_same (s ∷ ss) [] p q e = absurd (no_empty s ss p.0 (let f : 91 ∷ 93 ∷ [] ≡ 91 ∷ (join_with_byte 44 (s ∷ ss) ++ 93 ∷ []) = sym e in cc))
arrays_same (s ∷ ss) (t ∷ ts) p q e =
    let inner : join_with_byte 44 (s ∷ ss) ++ 93 ∷ [] ≡ join_with_byte 44 (t ∷ ts) ++ 93 ∷ [] = (let f : 91 ∷ (join_with_byte 44 (s ∷ ss) ++ 93 ∷ []) ≡ 91 ∷ (join_with_byte 44 (t ∷ ts) ++ 93 ∷ []) = e in cc) in
    let same = lists_same (IsJson Value) values_end 93 refl refl s t ss ts p q inner in
    ap (λ (x : List ℕ). x ∷ ss) same.0 ∙ ap (λ (x : List (List ℕ)). t ∷ x) same.1

members_end : (s t u v : List ℕ) → IsMember s → IsMember t → Stops u → Stops v → s ++ u ≡ t ++ v → AreSame s t u v
members_end s t u v p q a b e =
    let n : List ℕ = text_of.string p.0 in
    let o : List ℕ = text_of.string q.0 in
    let same = name_and_value n p.1 o q.1 u v (is_string p.0) (is_string q.0) (λ f. values_end p.1 q.1 u v p.2 q.2 a b f) (turned s t (text_of.member p.0 p.1) (text_of.member q.0 q.1) u v p.3 q.3 e) in
    (p.3 ∙ same.0 ∙ sym q.3, same.1)

-- objects of the same text have the same members
pub objects_same : (m k : List ℕ) (ms ks : List (List ℕ)) → AllByRecursion IsMember (m ∷ ms) → AllByRecursion IsMember (k ∷ ks) → text_of.object (m ∷ ms) ≡ text_of.object (k ∷ ks) → (m ≡ k) × (ms ≡ ks)
objects_same m k ms ks p q e =
    let inner : join_with_byte 44 (m ∷ ms) ++ 125 ∷ [] ≡ join_with_byte 44 (k ∷ ks) ++ 125 ∷ [] = (let f : 123 ∷ (join_with_byte 44 (m ∷ ms) ++ 125 ∷ []) ≡ 123 ∷ (join_with_byte 44 (k ∷ ks) ++ 125 ∷ []) = e in cc) in
    lists_same IsMember members_end 125 refl refl m k ms ks p q inner

-- members of the same text have the same name and the same value
pub members_same : (n o v w : List ℕ) → text_of.member n v ≡ text_of.member o w → (n ≡ o) × (v ≡ w)
members_same n o v w e =
    let p = string_ends (text_of.string n) (text_of.string o) (58 ∷ v) (58 ∷ w) (is_string n) (is_string o) e in
    let rest = p.1 in
    (strings_same n o p.0, cc)
