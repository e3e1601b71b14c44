-- The texts of members that say numbers.
use Rattle.std.proofs.Common.{◌≡◌, ℕ, ◌<◌, ◌^◌, inl, inr, List, Some, None, refl, sym, ◌∙◌, subst, arith, decimal}
use Rattle.std.proofs.lemmas.Fmt.{decimal_injective}
use Rattle.json.specs.Json.{Json}
use Rattle.tag_uri.specs.declared.fault.UriFault.{UriFault}
use Rattle.tag_uri.specs.TagText.{HasTextFault}
use Rattle.tag_uri.proofs.TextLaws.{text_or_fault}
use Rattle.llrp_listing.specs.NodeLine.{NumberForm, Version, Epc, IsNumberText}
use Rattle.llrp_listing.specs.LineChecks.{IsInForm}
use Rattle.llrp_json_read.specs.declared.refusal.Reason.TheVariants as why
use Rattle.llrp_json_read.specs.ObjectSays.{SaysNumber, text_in}
use Rattle.llrp_json_read.specs.ObjectRefused.{RefusesText}

-- a member that has no text of the form's type says no number
pub no_text_says_none : (form : NumberForm) (name : List ℕ) (j : Json) → text_in form name j ≡ None → (n : ℕ) → SaysNumber form name j n → ⊥
no_text_says_none form name j none n s = let e : None ≡ Some s.text = sym none ∙ s.member in cc

-- a text that is that of no number of the form says none
pub text_says_none : (form : NumberForm) (name : List ℕ) (j : Json) (text : List ℕ) → text_in form name j ≡ Some text → ((n : ℕ) → IsInForm form n → IsNumberText form n text → ⊥) → (n : ℕ) → SaysNumber form name j n → ⊥
text_says_none form name j text some bad n s =
    let e : Some text ≡ Some s.text = sym some ∙ s.member in
    let same : s.text ≡ text = cc in
    bad n s.in_form (subst (λ (t : List ℕ). IsNumberText form n t) same s.is)

-- 0 is no version
pub zero_is_no_version : (text : List ℕ) (z : ℕ) → z ≡ 0 → text ≡ decimal z → (n : ℕ) → IsInForm Version n → IsNumberText Version n text → ⊥
zero_is_no_version text z zero is n form e =
    let same : z ≡ n = decimal_injective z n (omega arith) (few n form) (sym is ∙ e) in
    some n form (sym same ∙ zero)
  where
    few : (n : ℕ) → IsInForm Version n → n < 2 ^ 64
    few n (inl e) = omega arith
    few n (inr e) = omega arith

    some : (n : ℕ) → IsInForm Version n → n ≡ 0 → ⊥
    some n (inl e) z = omega arith
    some n (inr e) z = omega arith

-- a text of no EPC says none
pub epc_refused : (name : List ℕ) (j : Json) (text : List ℕ) (fault : UriFault) → text_in Epc name j ≡ Some text → HasTextFault text fault
    → ((n : ℕ) → SaysNumber Epc name j n → ⊥) × RefusesText Epc (text_in Epc name j) (why.Epc fault)
epc_refused name j text fault some bad =
    (text_says_none Epc name j text some (λ n form is. text_or_fault n text fault form is bad), rw some (fault, bad, refl))
