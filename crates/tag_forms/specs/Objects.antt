-- The forms of a word as an object of JSON (RFC 8259). Texts are lists of their UTF-8 octets; the names of the members are this project's own.
use Rattle.std.specs.Prelude.{◌≡◌, ℕ, ◌^◌, ◌<◌, ◌⊎◌, Bool, true, false, List, [], ◌∷◌, ◌++◌, codes, decimal, Option}
use Rattle.tag_epc.specs.declared.fault.WordFault.{WordFault}
use Rattle.tag_epc.specs.LawfulWord.{IsLawfulWord}
use Rattle.tag_epc.specs.Faults.{HasWordFault, word_fault_name}
use Rattle.tag_keys.specs.declared.fault.KeyFault.TheVariants as key
use Rattle.tag_forms.specs.declared.form.Form.{Form}
use Rattle.tag_forms.specs.declared.form.Form.TheVariants.{Tag, Pure, Element, Link, Hex, Key}
use Rattle.tag_forms.specs.declared.fault.FormFault.{FormFault}
use Rattle.tag_forms.specs.declared.fault.FormFault.TheVariants as fault
use Rattle.tag_forms.specs.Forms.{IsTextIn, ReadsAs, form_at, form_name}
use Rattle.tag_forms.specs.Faults.{HasFaultIn, form_fault_name}

-- the member of a form after what comes before its name, or no member where the word has no such text
abbrev pub IsFormMember : List ℕ → Form → ℕ → List ℕ → Type 0
IsFormMember front form word member =
    ((text : List ℕ) × IsTextIn form word text × (member ≡ front ++ (form_name form ++ (codes "\":\"" ++ (text ++ codes "\"")))))
    ⊎ (((text : List ℕ) → IsTextIn form word text → ⊥) × (member ≡ []))

-- the members that say which part of a word fails, and its first bit
abbrev pub reason : WordFault → List ℕ
reason fault = codes ",\"reason\":\"" ++ (word_fault_name fault.reason ++ (codes "\",\"bit\":" ++ decimal fault.bit))

-- those of a word that carries no EPC
abbrev pub IsReason : ℕ → List ℕ → Type 0
IsReason word members = (IsLawfulWord word × (members ≡ [])) ⊎ ((fault : WordFault) × HasWordFault word fault × (members ≡ reason fault))

-- the object of all forms that a word has
pub record IsFormObject (word : ℕ) (object : List ℕ) : Type 0 where
  pub tag : List ℕ
  pub why : List ℕ
  pub pure : List ℕ
  pub element : List ℕ
  pub link : List ℕ
  pub hex : List ℕ
  pub key : List ℕ
  pub tag_is : IsFormMember (codes "{\"") Tag word tag
  pub why_is : IsReason word why
  pub pure_is : IsFormMember (codes ",\"") Pure word pure
  pub element_is : IsFormMember (codes ",\"") Element word element
  pub link_is : IsFormMember (codes ",\"") Link word link
  pub hex_is : IsFormMember (codes ",\"") Hex word hex
  pub key_is : IsFormMember (codes ",\"") Key word key
  pub joined : object ≡ tag ++ (why ++ (pure ++ (element ++ (link ++ (hex ++ (key ++ codes "}"))))))

-- the object of a text that is refused for the reason with this name
abbrev pub refused_as : List ℕ → List ℕ
refused_as name = codes "{\"refused\":\"" ++ (name ++ codes "\"}")

-- what follows the name of a rule that refuses a text: the right digit after a wrong check digit
abbrev pub right_member : FormFault → List ℕ
right_member (fault.Key (key.Check right)) = codes "\",\"right\":\"" ++ right ∷ []
right_member f = []

-- the object of a text that a rule refuses
abbrev pub refusal_object : FormFault → List ℕ
refusal_object f = codes "{\"refused\":\"" ++ (form_fault_name f ++ (right_member f ++ codes "\"}"))

-- the answer to a text that is read in the form that it begins as, and whether the text is refused
abbrev pub IsObjectAnswer : ℕ → Option ℕ → List ℕ → Bool → List ℕ → Type 0
IsObjectAnswer filter count text refused answer =
    ((word : ℕ) × (word < 2 ^ 96) × ReadsAs (form_at text) filter count text word × (refused ≡ false) × IsFormObject word answer)
    ⊎ ((f : FormFault) × HasFaultIn (form_at text) filter count text f × (refused ≡ true) × (answer ≡ refusal_object f))

-- what is said of a word without a text in a form; every word has a tag form and hexadecimal digits
abbrev pub lack_name : Form → List ℕ
lack_name Pure = codes "NoEpc"
lack_name Tag = []
lack_name Hex = []
lack_name form = codes "NoKey"

-- the members after that of a form: those of a word that carries no EPC after the tag form, and else none
abbrev pub IsReasonIn : Form → ℕ → List ℕ → Type 0
IsReasonIn Tag word members = IsReason word members
IsReasonIn form word members = members ≡ []

-- the object of one form of a word, or one that says that the word has no such text, and whether that is so
abbrev pub IsMemberObject : Form → ℕ → Bool → List ℕ → Type 0
IsMemberObject to word false object =
    (text member why : List ℕ) × IsTextIn to word text × IsFormMember (codes "{\"") to word member × IsReasonIn to word why × (object ≡ member ++ (why ++ codes "}"))
IsMemberObject to word true object = ((text : List ℕ) → IsTextIn to word text → ⊥) × (object ≡ refused_as (lack_name to))

-- the answer to a text as an object of one form
abbrev pub IsMemberAnswer : Form → ℕ → Option ℕ → List ℕ → Bool → List ℕ → Type 0
IsMemberAnswer to filter count text refused answer =
    ((word : ℕ) × (word < 2 ^ 96) × ReadsAs (form_at text) filter count text word × IsMemberObject to word refused answer)
    ⊎ ((f : FormFault) × HasFaultIn (form_at text) filter count text f × (refused ≡ true) × (answer ≡ refusal_object f))
