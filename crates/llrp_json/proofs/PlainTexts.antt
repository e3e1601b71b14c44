-- No text of an EPC has an octet that needs an escape.
use Rattle.std.proofs.Common.{◌≡◌, ℕ, Bool, true, List, [], ◌∷◌, ◌++◌, refl, ◌∙◌, arith, inl, inr}
use Rattle.std.specs.List.{AllPass, list_all, join_with_byte}
use Rattle.std.proofs.lemmas.List.Elements.{All-head, All-tail}
use Rattle.std.proofs.lemmas.List.Folds.{list_all-append}
use Rattle.tag_epc.specs.declared.kind.Kind.{Kind}
use Rattle.tag_epc.specs.declared.kind.Kind.TheVariants.{Sgtin}
use Rattle.tag_epc.specs.declared.epc.Parts.{Parts}
use Rattle.tag_epc.specs.Layout.{scheme_name}
use Rattle.tag_epc.specs.LawfulWord.{IsLawfulEpc, kind_of_parts}
use Rattle.tag_uri.specs.Calls.Decimal.{AreDigits}
use Rattle.tag_uri.specs.Hexadecimal.{hexadecimal, is_upper_digit}
use Rattle.tag_uri.specs.TagText.{IsTextOf, components_of, raw_uri, tag_uri}
use Rattle.tag_uri.proofs.HexadecimalLemmas.{word_digits_of}
use Rattle.tag_uri.proofs.TextLaws.{AllOfDigits, raw_is, uri_is, written}
use Rattle.llrp_json.specs.Private.PlainStrings.{is_plain}

abbrev are_plain : List ℕ → Bool
are_plain text = list_all is_plain text

append_plain : (a b : List ℕ) → are_plain a ≡ true → are_plain b ≡ true → are_plain (a ++ b) ≡ true
append_plain a b p q = list_all-append is_plain a b ∙ rw (p, q) refl

digits_plain : (cs : List ℕ) → AreDigits cs → are_plain cs ≡ true
digits_plain [] h = refl
digits_plain (c ∷ cs) h = let r = h.0 in let first : is_plain c ≡ true = grind arith in rw first (digits_plain cs h.1)

joined_plain : (cs : List (List ℕ)) → AllOfDigits cs → are_plain (join_with_byte 46 cs) ≡ true
joined_plain [] h = refl
joined_plain (c ∷ []) h = digits_plain c h.0
joined_plain (c ∷ d ∷ cs) h = append_plain c (46 ∷ join_with_byte 46 (d ∷ cs)) (digits_plain c h.0) (joined_plain (d ∷ cs) h.1)

name_plain : (k : Kind) → are_plain (scheme_name k) ≡ true
name_plain Sgtin = refl
name_plain _ = refl

uri_plain : (epc : Parts) → IsLawfulEpc epc → are_plain (tag_uri epc) ≡ true
uri_plain epc h =
    let components : are_plain (join_with_byte 46 (components_of epc)) ≡ true = joined_plain (components_of epc) (written epc h).digits in
    rw (uri_is epc) (append_plain (scheme_name (kind_of_parts epc)) (58 ∷ join_with_byte 46 (components_of epc)) (name_plain (kind_of_parts epc)) components)

upper_plain : (cs : List ℕ) → AllPass is_upper_digit cs → are_plain cs ≡ true
upper_plain [] h = refl
upper_plain (c ∷ cs) h =
    let first : is_plain c ≡ true = digit c (All-head (λ x. is_upper_digit x ≡ true) c cs h) in
    rw first (upper_plain cs (All-tail (λ x. is_upper_digit x ≡ true) c cs h))
  where
    digit : (c : ℕ) → is_upper_digit c ≡ true → is_plain c ≡ true
    digit c h = grind arith

raw_plain : (w : ℕ) → are_plain (raw_uri w) ≡ true
raw_plain w = rw (raw_is w) (upper_plain (hexadecimal 24 w) (word_digits_of w).digits)

pub epc_plain : (w : ℕ) (text : List ℕ) → IsTextOf w text → list_all is_plain text ≡ true
epc_plain w text (inl h) = let e = h.2 in rw e (uri_plain h.0 h.1.lawful)
epc_plain w text (inr h) = let e = h.1 in rw e (raw_plain w)
