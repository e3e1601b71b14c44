-- The forms of a word as an object of JSON (RFC 8259), in the set of all schemes. Texts are lists of their UTF-8 octets; the names of the members are this project's own.
use Rattle.std.specs.Prelude.{◌≡◌, ℕ, ◌^◌, ◌<◌, ◌⊎◌, Bool, true, false, List, [], ◌++◌, codes, decimal, Option}
use Rattle.tag_schemes.specs.declared.fault.PartFault.{PartFault}
use Rattle.tag_schemes.specs.Calls.Faults.{part_reason_name, scheme_fault_name}
use Rattle.tag_scheme_keys.specs.SupplierIdentity.{supplier_fault_name}
use Rattle.tag_schemes.specs.WordFaults.{HasWordFaultInAll, IsLawfulInAll}
use Rattle.tag_forms.specs.declared.form.Form.{Form}
use Rattle.tag_forms.specs.declared.form.Form.TheVariants.{Tag, Pure, Element, Link, Hex, Key}
use Rattle.tag_forms.specs.declared.all_forms.AllFault.{AllFault}
use Rattle.tag_forms.specs.declared.all_forms.AllFault.TheVariants as all
use Rattle.tag_forms.specs.AllAnswers.{lack_in_all}
use Rattle.tag_forms.specs.AllForms.{IsFormInAll, ReadsInAll, RefusesInAll}
use Rattle.tag_forms.specs.Forms.{form_at, form_name}
use Rattle.tag_forms.specs.Objects.{refusal_object, refused_as}

-- the member of a form after what comes before its name, or no member where the word has no such text
abbrev pub IsMemberInAll : List ℕ → Form → ℕ → List ℕ → Type 0
IsMemberInAll front form word member =
    ((text : List ℕ) × IsFormInAll form word text × (member ≡ front ++ (form_name form ++ (codes "\":\"" ++ (text ++ codes "\"")))))
    ⊎ (((text : List ℕ) → IsFormInAll form word text → ⊥) × (member ≡ []))

-- the members that say which part of a word fails, and its first bit
abbrev pub reason_in_all : PartFault → List ℕ
reason_in_all fault = codes ",\"reason\":\"" ++ (part_reason_name fault.reason ++ (codes "\",\"bit\":" ++ decimal fault.bit))

-- those of a word that no EPC has
abbrev pub IsReasonInAll : ℕ → List ℕ → Type 0
IsReasonInAll word members = (IsLawfulInAll word × (members ≡ [])) ⊎ ((fault : PartFault) × HasWordFaultInAll word fault × (members ≡ reason_in_all fault))

-- the object of all forms that a word has
pub record IsObjectInAll (word : ℕ) (object : List ℕ) : Type 0 where
  pub tag : List ℕ
  pub why : List ℕ
  pub pure : List ℕ
  pub element : List ℕ
  pub link : List ℕ
  pub hex : List ℕ
  pub key : List ℕ
  pub tag_is : IsMemberInAll (codes "{\"") Tag word tag
  pub why_is : IsReasonInAll word why
  pub pure_is : IsMemberInAll (codes ",\"") Pure word pure
  pub element_is : IsMemberInAll (codes ",\"") Element word element
  pub link_is : IsMemberInAll (codes ",\"") Link word link
  pub hex_is : IsMemberInAll (codes ",\"") Hex word hex
  pub key_is : IsMemberInAll (codes ",\"") Key word key
  pub joined : object ≡ tag ++ (why ++ (pure ++ (element ++ (link ++ (hex ++ (key ++ codes "}"))))))

-- the object of a text that a rule refuses
abbrev pub refused_in_all : AllFault → List ℕ
refused_in_all (all.Tag f) = refused_as (scheme_fault_name f)
refused_in_all (all.Supplier f) = refused_as (supplier_fault_name f)
refused_in_all (all.Form f) = refusal_object f

-- the answer to a text that is read in the form that it begins as, and whether the text is refused
abbrev pub IsObjectAnswerInAll : ℕ → Option ℕ → List ℕ → Bool → List ℕ → Type 0
IsObjectAnswerInAll filter count text refused answer =
    ((word : ℕ) × (word < 2 ^ 96) × ReadsInAll (form_at text) filter count text word × (refused ≡ false) × IsObjectInAll word answer)
    ⊎ ((f : AllFault) × RefusesInAll (form_at text) filter count text f × (refused ≡ true) × (answer ≡ refused_in_all f))

-- the members after that of a form: those of a word that no EPC has after the tag form, and else none
abbrev pub IsReasonInForm : Form → ℕ → List ℕ → Type 0
IsReasonInForm Tag word members = IsReasonInAll word members
IsReasonInForm form word members = members ≡ []

-- the object of one form of a word, or one that says that the word has no such text, and whether that is so
abbrev pub IsMemberObjectInAll : Form → ℕ → Bool → List ℕ → Type 0
IsMemberObjectInAll to word false object =
    (text member why : List ℕ) × IsFormInAll to word text × IsMemberInAll (codes "{\"") to word member × IsReasonInForm to word why × (object ≡ member ++ (why ++ codes "}"))
IsMemberObjectInAll to word true object = ((text : List ℕ) → IsFormInAll to word text → ⊥) × (object ≡ refused_as (lack_in_all to))

-- the answer to a text as an object of one form
abbrev pub IsMemberAnswerInAll : Form → ℕ → Option ℕ → List ℕ → Bool → List ℕ → Type 0
IsMemberAnswerInAll to filter count text refused answer =
    ((word : ℕ) × (word < 2 ^ 96) × ReadsInAll (form_at text) filter count text word × IsMemberObjectInAll to word refused answer)
    ⊎ ((f : AllFault) × RefusesInAll (form_at text) filter count text f × (refused ≡ true) × (answer ≡ refused_in_all f))
