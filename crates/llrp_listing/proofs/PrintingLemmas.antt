-- Lines that are appended to a text.
use Rattle.std.proofs.Common.{◌≡◌, ℕ, ◌+◌, ◌-◌, ◌*◌, ◌<◌, ◌≤◌, List, [], ◌∷◌, ◌++◌, length, take, drop, get_or, map, refl, sym, ap, ◌∙◌, append_assoc, arith}
use Rattle.std.specs.Prelude.{decimal}
use Rattle.std.specs.List.{flat_map, join_with_byte}
use Rattle.std.proofs.lemmas.List.{append-nil, take_more, take_all}
use Rattle.std.proofs.lemmas.List.Concat.{flat_map-append}
use Rattle.hex.specs.Hex.{encode_with, encode_lower, lower_digits}
use Rattle.llrp_tree.specs.Tree.{words_of}
use Rattle.llrp_listing.specs.NodeLine.{NodeLine, IsLine}
use Rattle.llrp_listing.specs.MessageListing.{AreLines}
use Rattle.llrp_listing.proofs.Zips.{zip_append}

pub encode_more : (t xs ys : List ℕ) → encode_with t (xs ++ ys) ≡ encode_with t xs ++ encode_with t ys
unfolding encode_with
encode_more t [] ys = refl
encode_more t (x ∷ xs) ys = rw (encode_more t xs ys) refl

encode_none : (t : List ℕ) → encode_with t [] ≡ []
unfolding encode_with
encode_none t = refl

pub octets_none : (old : List ℕ) → old ≡ old ++ encode_lower []
octets_none old = sym (append-nil old) ∙ ap (λ (x : List ℕ). old ++ x) (sym (encode_none lower_digits))

-- one octet more is written
pub octets_more : (old now new octets : List ℕ) (i : ℕ) → i < length octets → now ≡ old ++ encode_lower (take i octets) → new ≡ now ++ encode_lower (get_or octets i 0 ∷ [])
    → new ≡ old ++ encode_lower (take (i + 1) octets)
octets_more old now new octets i lt so more =
    more ∙ ap (λ (x : List ℕ). x ++ encode_lower (get_or octets i 0 ∷ [])) so ∙ append_assoc old (encode_lower (take i octets)) (encode_lower (get_or octets i 0 ∷ []))
    ∙ ap (λ (x : List ℕ). old ++ x) (sym (encode_more lower_digits (take i octets) (get_or octets i 0 ∷ [])) ∙ ap encode_lower (sym (take_more octets i 0 lt)))

-- what follows the first word of a tail of words: a comma and a word for each of the others
abbrev pub other_words : List ℕ → List ℕ
other_words octets = flat_map (λ word. 44 ∷ word) (map decimal (words_of octets))

abbrev all_words : List ℕ → List ℕ
all_words octets = join_with_byte 44 (map decimal (words_of octets))

pub join_first : (x : List ℕ) (xs : List (List ℕ)) → join_with_byte 44 (x ∷ xs) ≡ x ++ flat_map (λ word. 44 ∷ word) xs
join_first x [] = sym (append-nil x)
join_first x (y ∷ ys) = ap (λ (z : List ℕ). x ++ (44 ∷ z)) (join_first y ys)

-- the first word of a tail is written
pub words_begun : (old text octets : List ℕ) → 2 ≤ length octets → text ≡ old ++ decimal (256 * get_or octets 0 0 + get_or octets 1 0)
    → text ++ other_words (take (length octets - 2) (drop 2 octets)) ≡ old ++ all_words octets
words_begun old text [] le e = absurd (omega arith)
words_begun old text (x ∷ []) le e = absurd (omega arith)
words_begun old text (high ∷ low ∷ rest) le e =
    let same : take (length (high ∷ low ∷ rest) - 2) rest ≡ rest = take_all (length (high ∷ low ∷ rest) - 2) rest (omega arith) in
    let w = decimal (256 * high + low) in
    ap (λ (x : List ℕ). text ++ other_words x) same ∙ ap (λ (x : List ℕ). x ++ other_words rest) e ∙ append_assoc old w (other_words rest)
    ∙ ap (λ (x : List ℕ). old ++ x) (sym (join_first w (map decimal (words_of rest))))

-- a comma and one word more are written
pub words_more : (whole text comma new rest : List ℕ) → 2 ≤ length rest → text ++ other_words rest ≡ whole → comma ≡ text ++ (44 ∷ []) → new ≡ comma ++ decimal (256 * get_or rest 0 0 + get_or rest 1 0)
    → new ++ other_words (take (length rest - 2) (drop 2 rest)) ≡ whole
words_more whole text comma new [] le so c e = absurd (omega arith)
words_more whole text comma new (x ∷ []) le so c e = absurd (omega arith)
words_more whole text comma new (high ∷ low ∷ rest) le so c e =
    let same : take (length (high ∷ low ∷ rest) - 2) rest ≡ rest = take_all (length (high ∷ low ∷ rest) - 2) rest (omega arith) in
    let w = decimal (256 * high + low) in
    ap (λ (x : List ℕ). new ++ other_words x) same ∙ ap (λ (x : List ℕ). x ++ other_words rest) (e ∙ ap (λ (x : List ℕ). x ++ w) c)
    ∙ append_assoc (text ++ (44 ∷ [])) w (other_words rest) ∙ append_assoc text (44 ∷ []) (w ++ other_words rest) ∙ so

-- the lines of two lists have the texts of both
pub lines_append : (a b : List (ℕ × NodeLine)) (s t : List ℕ) → AreLines a s → AreLines b t → AreLines (a ++ b) (s ++ t)
lines_append a b s t p q = record {
  texts = p.texts ++ q.texts;
  each = zip_append IsLine a b p.texts q.texts p.each q.each;
  text_is = ap (λ (x : List ℕ). x ++ t) p.text_is ∙ ap (λ (x : List ℕ). flat_map (λ line. line) p.texts ++ x) q.text_is ∙ sym (flat_map-append (λ line. line) p.texts q.texts);
}
