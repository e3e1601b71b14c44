-- The texts of words in the set of all schemes have visible ASCII characters alone.
use Rattle.std.proofs.Common.{◌≡◌, ℕ, ◌^◌, ◌<◌, ◌≤◌, Bool, true, false, List, [], ◌∷◌, ◌++◌, drop, refl, ◌∙◌, arith, inl, inr}
use Rattle.std.specs.Str.{IsUtf8}
use Rattle.std.specs.List.{join_with_byte, list_all}
use Rattle.std.proofs.lemmas.Bool.{ne_eqb}
use Rattle.std.proofs.lemmas.List.Folds.{list_all-append}
use Rattle.std.proofs.lemmas.Str.{IsUtf8-from_ascii}
use Rattle.std.proofs.lemmas.Str.Ascii.{IsAscii-from_all}
use Rattle.tag_uri.specs.Calls.Decimal.{AreDigits}
use Rattle.tag_uri.specs.Decimal.{padded, plain}
use Rattle.tag_uri.proofs.DecimalLemmas.{digits-padded}
use Rattle.tag_uri.proofs.LawfulTexts.{digits_of_plain}
use Rattle.tag_uri.proofs.TextBytes.{is_visible, visible, text_visible}
use Rattle.tag_uri.proofs.UriLemmas.{left, right, visible_low}
use Rattle.tag_schemes.specs.declared.scheme.Scheme.{Scheme}
use Rattle.tag_schemes.specs.declared.scheme.Scheme.TheVariants.{Giai, Gsrnp, Sgcn, Cpi}
use Rattle.tag_schemes.specs.declared.numbers.Numbers.{Numbers}
use Rattle.tag_schemes.specs.declared.supplier.Supplier.{Supplier}
use Rattle.tag_schemes.specs.LawfulWord.{IsLawful}
use Rattle.tag_schemes.specs.Schemes.{layout_in}
use Rattle.tag_schemes.specs.Suppliers.{code_text, is_code_character, supplier_uri, IsSupplier}
use Rattle.tag_schemes.specs.Texts.{reference_text, serial_texts, uri_in}
use Rattle.tag_schemes.proofs.SetFacts.{facts}
use Rattle.tag_schemes.proofs.SupplierTexts.{code_is, supplier_uri_is}
use Rattle.tag_schemes.proofs.TextLaws.{last_small, without_first}
use Rattle.tag_schemes.proofs.WriteFacts.{uri_in_is}
use Rattle.llrp_listing.specs.Calls.Splits.{Lacks}
use Rattle.llrp_labels.specs.LabelledLines.{IsTextAmong}

append_visible : (a b : List ℕ) → visible a ≡ true → visible b ≡ true → visible (a ++ b) ≡ true
append_visible a b p q = list_all-append is_visible a b ∙ rw (p, q) refl

digits_visible : (cs : List ℕ) → AreDigits cs → visible cs ≡ true
digits_visible [] h = refl
digits_visible (c ∷ cs) h = let r = h.0 in let first : is_visible c ≡ true = grind arith in rw first (digits_visible cs h.1)

name_visible : (s : Scheme) → visible (layout_in s).name ≡ true
name_visible Giai = refl
name_visible Gsrnp = refl
name_visible Sgcn = refl
name_visible Cpi = refl

reference_visible : (s : Scheme) (k t : ℕ) → t < 2 ^ 64 → visible (reference_text s k t) ≡ true
reference_visible Giai k t small = digits_visible (plain t) (digits_of_plain t small)
reference_visible Gsrnp k t small = digits_visible _ (digits-padded _ t)
reference_visible Cpi k t small = digits_visible (plain t) (digits_of_plain t small)
reference_visible Sgcn k t small = digits_visible _ (digits-padded _ t)

tail_visible : (r : List ℕ) (s : Scheme) (n : ℕ) → visible r ≡ true → n < 2 ^ 64 → visible (join_with_byte 46 (r ∷ serial_texts s n)) ≡ true
tail_visible r Giai n h small = h
tail_visible r Gsrnp n h small = h
tail_visible r Cpi n h small = append_visible r (46 ∷ plain n) h (digits_visible (plain n) (digits_of_plain n small))
tail_visible r Sgcn n h small = append_visible r (46 ∷ drop 1 (plain n)) h (digits_visible (drop 1 (plain n)) (without_first (plain n) (digits_of_plain n small)))

uri_in_visible : (m : Numbers) → IsLawful m → visible (uri_in m) ≡ true
uri_in_visible m h =
    let a = facts m h in
    let reference : List ℕ = join_with_byte 46 (reference_text m.scheme m.company_digits m.reference ∷ serial_texts m.scheme m.last) in
    let behind : List ℕ = padded m.company_digits m.company ++ 46 ∷ reference in
    let numbers : List ℕ = padded 1 m.filter ++ 46 ∷ behind in
    let v0 : visible reference ≡ true = tail_visible (reference_text m.scheme m.company_digits m.reference) m.scheme m.last (reference_visible m.scheme m.company_digits m.reference a.small) (last_small m a) in
    let v1 : visible behind ≡ true = append_visible (padded m.company_digits m.company) (46 ∷ reference) (digits_visible _ (digits-padded m.company_digits m.company)) v0 in
    let v2 : visible numbers ≡ true = append_visible (padded 1 m.filter) (46 ∷ behind) (digits_visible _ (digits-padded 1 m.filter)) v1 in
    rw (uri_in_is m) (append_visible (layout_in m.scheme).name (58 ∷ numbers) (name_visible m.scheme) v2)

code_visible : (cs : List ℕ) → list_all is_code_character cs ≡ true → visible cs ≡ true
code_visible [] h = refl
code_visible (c ∷ cs) h = let first : is_visible c ≡ true = seen c (left (is_code_character c) _ h) in rw first (code_visible cs (right (is_code_character c) _ h))
  where
    seen : (c : ℕ) → is_code_character c ≡ true → is_visible c ≡ true
    seen c e = grind arith

supplier_visible : (m : Supplier) → IsSupplier m → visible (supplier_uri m) ≡ true
supplier_visible m h =
    let filter_small : m.filter < 2 ^ 64 = omega (arith, h.filter) in
    let serial_small : m.serial < 2 ^ 64 = omega (arith, h.serial) in
    let last : List ℕ = code_text m.code ++ 46 ∷ plain m.serial in
    let v0 : visible last ≡ true = append_visible (code_text m.code) (46 ∷ plain m.serial) (code_visible (code_text m.code) (code_is m.code h.six h.code).characters) (digits_visible (plain m.serial) (digits_of_plain m.serial serial_small)) in
    let v1 : visible (plain m.filter ++ 46 ∷ last) ≡ true = append_visible (plain m.filter) (46 ∷ last) (digits_visible (plain m.filter) (digits_of_plain m.filter filter_small)) v0 in
    rw (supplier_uri_is m) v1

pub among_visible : (schemes : Bool) (w : ℕ) (text : List ℕ) → IsTextAmong schemes w text → visible text ≡ true
among_visible true w text (inl h) = let e = h.2 in rw e (uri_in_visible h.0 h.1.lawful)
among_visible true w text (inr (inl h)) = let e = h.2 in rw e (supplier_visible h.0 h.1.lawful)
among_visible true w text (inr (inr h)) = text_visible w text h.1
among_visible false w text h = text_visible w text h

pub among_utf8 : (schemes : Bool) (w : ℕ) (text : List ℕ) → IsTextAmong schemes w text → IsUtf8 text
among_utf8 schemes w text h = IsUtf8-from_ascii text (IsAscii-from_all text (visible_low text (among_visible schemes w text h)))

-- no character below 33 is visible
pub visible_lacks : (byte : ℕ) (text : List ℕ) → byte < 33 → visible text ≡ true → Lacks byte text
visible_lacks byte [] low h = tt
visible_lacks byte (c ∷ text) low h = (ne_eqb c byte (λ e. apart c (left (is_visible c) _ h) e), visible_lacks byte text low (right (is_visible c) _ h))
  where
    high : (c : ℕ) → is_visible c ≡ true → 33 ≤ c
    high c e = grind arith

    apart : (c : ℕ) → is_visible c ≡ true → c ≡ byte → ⊥
    apart c d e = let t = high c d in omega (arith, t, e)
