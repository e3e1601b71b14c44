-- Values of JSON that are appended to a text.
use Rattle.std.proofs.Common.{◌≡◌, ℕ, ◌+◌, ◌<◌, true, List, [], ◌∷◌, ◌++◌, length, take, get_or, refl, sym, ap, ◌∙◌, arith, append_assoc}
use Rattle.std.proofs.lemmas.List.{append-nil, take_more}
use Rattle.std.proofs.lemmas.List.Concat.{flat_map-append}
use Rattle.std.specs.Prelude.{codes}
use Rattle.std.specs.List.{list_all}
use Rattle.llrp_schema.specs.declared.kinds.Tail.{Tail}
use Rattle.llrp_schema.specs.declared.kinds.Tail.TheVariants.{Bits, Data}
use Rattle.tag_uri.proofs.UriLemmas.{left, right}
use Rattle.llrp_listing.proofs.PrintingLemmas.{octets_none}
use Rattle.llrp_listing.proofs.TextLemmas.{grown, grown_by_five}
use Rattle.llrp_json.specs.JsonValues.{escaped, inside}
use Rattle.llrp_json.specs.Calls.OpenJson.{tail_begun}
use Rattle.llrp_json.specs.Private.PlainStrings.{is_plain}

-- ---- strings

pub inside_none : (old : List ℕ) → old ≡ old ++ inside []
inside_none old = sym (append-nil old)

-- one octet more is written
pub inside_more : (old now new octets : List ℕ) (i : ℕ) → i < length octets → now ≡ old ++ inside (take i octets) → new ≡ now ++ escaped (get_or octets i 0) → new ≡ old ++ inside (take (i + 1) octets)
inside_more old now new octets i lt so more =
    let x : ℕ = get_or octets i 0 in
    more ∙ ap (λ (y : List ℕ). y ++ escaped x) so ∙ append_assoc old (inside (take i octets)) (escaped x)
    ∙ ap (λ (y : List ℕ). old ++ (inside (take i octets) ++ y)) (sym (append-nil (escaped x)))
    ∙ ap (λ (y : List ℕ). old ++ y) (sym (flat_map-append escaped (take i octets) (x ∷ [])) ∙ ap inside (sym (take_more octets i 0 lt)))

-- an octet that stands for itself, and octets of which each does
escaped_plain : (c : ℕ) → is_plain c ≡ true → escaped c ≡ c ∷ []
escaped_plain c e = grind arith

pub inside_plain : (text : List ℕ) → list_all is_plain text ≡ true → inside text ≡ text
inside_plain [] e = refl
inside_plain (c ∷ text) e =
    let first = escaped_plain c (left (is_plain c) (list_all is_plain text) e) in
    let more = inside_plain text (right (is_plain c) (list_all is_plain text) e) in
    ap (λ (x : List ℕ). x ++ inside text) first ∙ ap (λ (x : List ℕ). c ∷ x) more

-- ---- a text that grew

pub grown_by_six : (t t1 t2 t3 t4 t5 t6 a b c d e f : List ℕ) → t1 ≡ t ++ a → t2 ≡ t1 ++ b → t3 ≡ t2 ++ c → t4 ≡ t3 ++ d → t5 ≡ t4 ++ e → t6 ≡ t5 ++ f
    → t6 ≡ t ++ ((a ++ b) ++ ((c ++ d) ++ ((e ++ f) ++ [])))
grown_by_six t t1 t2 t3 t4 t5 t6 a b c d e f p q r s u v =
    grown t t1 t6 a (b ++ (c ++ (d ++ (e ++ f)))) p (grown_by_five t1 t2 t3 t4 t5 t6 b c d e f q r s u v) ∙ ap (λ (x : List ℕ). t ++ x) (sym (nested a b c d e f))
  where
    nested : (a b c d e f : List ℕ) → (a ++ b) ++ ((c ++ d) ++ ((e ++ f) ++ [])) ≡ a ++ (b ++ (c ++ (d ++ (e ++ f))))
    nested a b c d e f = append_assoc a b ((c ++ d) ++ ((e ++ f) ++ [])) ∙ ap (λ (x : List ℕ). a ++ (b ++ x)) (append_assoc c d ((e ++ f) ++ []) ∙ ap (λ (x : List ℕ). c ++ (d ++ x)) (append-nil (e ++ f)))

-- a tail of octets begins
pub bits_begun : (f : Tail) → f ≡ Bits → codes ",\"bits\":\"" ≡ tail_begun f []
bits_begun f e = octets_none (codes ",\"bits\":\"") ∙ ap (λ (x : Tail). tail_begun x []) (sym e)

pub data_begun : (f : Tail) → f ≡ Data → codes ",\"octets\":\"" ≡ tail_begun f []
data_begun f e = octets_none (codes ",\"octets\":\"") ∙ ap (λ (x : Tail). tail_begun x []) (sym e)
