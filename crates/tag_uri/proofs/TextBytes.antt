-- The text of a word has visible ASCII characters alone.
use Rattle.std.proofs.Common.{◌≡◌, ℕ, Bool, true, List, [], ◌∷◌, ◌++◌, refl, ◌∙◌, arith, inl, inr}
use Rattle.std.specs.Prelude.{◌&&◌, nat_le}
use Rattle.std.specs.List.{AllPass, list_all, join_with_byte}
use Rattle.std.proofs.lemmas.List.Elements.{All-head, All-tail}
use Rattle.std.proofs.lemmas.List.Folds.{list_all-append}
use Rattle.tag_epc.specs.declared.kind.Kind.{Kind}
use Rattle.tag_epc.specs.declared.kind.Kind.TheVariants.{Sgtin}
use Rattle.tag_epc.specs.declared.epc.Parts.{Parts}
use Rattle.tag_epc.specs.Layout.{scheme_name}
use Rattle.tag_epc.specs.LawfulWord.{IsLawfulEpc, kind_of_parts}
use Rattle.tag_uri.specs.Calls.Decimal.{AreDigits}
use Rattle.tag_uri.specs.Hexadecimal.{hexadecimal, is_upper_digit}
use Rattle.tag_uri.specs.TagText.{tag_uri, components_of, raw_uri, IsTextOf}
use Rattle.tag_uri.proofs.HexadecimalLemmas.{word_digits_of}
use Rattle.tag_uri.proofs.TextLaws.{AllOfDigits, written, uri_is, raw_is}

-- whether a character is printed, and no space
abbrev pub is_visible : ℕ → Bool
is_visible c = nat_le 33 c && nat_le c 126

-- whether each character is
abbrev pub visible : List ℕ → Bool
visible text = list_all is_visible text

append_visible : (a b : List ℕ) → visible a ≡ true → visible b ≡ true → visible (a ++ b) ≡ true
append_visible a b p q = list_all-append is_visible a b ∙ rw (p, q) refl

digits_visible : (cs : List ℕ) → AreDigits cs → visible cs ≡ true
digits_visible [] h = refl
digits_visible (c ∷ cs) h = let r = h.0 in let first : is_visible c ≡ true = grind arith in rw first (digits_visible cs h.1)

joined_visible : (cs : List (List ℕ)) → AllOfDigits cs → visible (join_with_byte 46 cs) ≡ true
joined_visible [] h = refl
joined_visible (c ∷ []) h = digits_visible c h.0
joined_visible (c ∷ d ∷ cs) h = append_visible c (46 ∷ join_with_byte 46 (d ∷ cs)) (digits_visible c h.0) (joined_visible (d ∷ cs) h.1)

name_visible : (k : Kind) → visible (scheme_name k) ≡ true
name_visible Sgtin = refl
name_visible _ = refl

pub uri_visible : (epc : Parts) → IsLawfulEpc epc → visible (tag_uri epc) ≡ true
uri_visible epc h =
    let components : visible (join_with_byte 46 (components_of epc)) ≡ true = joined_visible (components_of epc) (written epc h).digits in
    rw (uri_is epc) (append_visible (scheme_name (kind_of_parts epc)) (58 ∷ join_with_byte 46 (components_of epc)) (name_visible (kind_of_parts epc)) components)

upper_visible : (cs : List ℕ) → AllPass is_upper_digit cs → visible cs ≡ true
upper_visible [] h = refl
upper_visible (c ∷ cs) h =
    let first : is_visible c ≡ true = digit c (All-head (λ x. is_upper_digit x ≡ true) c cs h) in
    rw first (upper_visible cs (All-tail (λ x. is_upper_digit x ≡ true) c cs h))
  where
    digit : (c : ℕ) → is_upper_digit c ≡ true → is_visible c ≡ true
    digit c h = grind arith

pub raw_visible : (w : ℕ) → visible (raw_uri w) ≡ true
raw_visible w = rw (raw_is w) (upper_visible (hexadecimal 24 w) (word_digits_of w).digits)

-- each character of the text of a word is visible
pub text_visible : (w : ℕ) (text : List ℕ) → IsTextOf w text → visible text ≡ true
text_visible w text (inl h) = let e = h.2 in rw e (uri_visible h.0 h.1.lawful)
text_visible w text (inr h) = let e = h.1 in rw e (raw_visible w)
