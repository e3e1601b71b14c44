-- The answers to texts, which a list has a line each of. Texts are lists of their UTF-8 octets; the lines are this project's own.
use Rattle.std.specs.Prelude.{◌≡◌, ℕ, ◌^◌, ◌<◌, ◌⊎◌, Bool, true, false, List, [], ◌∷◌, ◌++◌, codes, decimal, Option}
use Rattle.tag_epc.specs.declared.fault.WordFault.{WordFault}
use Rattle.tag_epc.specs.LawfulWord.{IsLawfulWord}
use Rattle.tag_epc.specs.Faults.{HasWordFault, word_fault_name}
use Rattle.tag_keys.specs.declared.fault.KeyFault.TheVariants as key
use Rattle.tag_forms.specs.declared.form.Form.{Form}
use Rattle.tag_forms.specs.declared.form.Form.TheVariants.{Tag, Pure, Element, Link, Hex, Key}
use Rattle.tag_forms.specs.declared.fault.FormFault.{FormFault}
use Rattle.tag_forms.specs.declared.fault.FormFault.TheVariants as fault
use Rattle.tag_forms.specs.Forms.{IsTextIn, ReadsAs, form_at, form_name}
use Rattle.tag_forms.specs.Faults.{HasFaultIn, form_fault_name}

-- what is said of a word that carries no EPC: a tab (9), the part that fails, and its first bit
abbrev pub remark : WordFault → List ℕ
remark fault = 9 ∷ word_fault_name fault.reason ++ (codes " " ++ decimal fault.bit)

-- what follows the text of a word: something only after the tag form of a word that carries no EPC
abbrev pub IsRemark : Form → ℕ → List ℕ → Type 0
IsRemark Tag word text = (IsLawfulWord word × (text ≡ [])) ⊎ ((fault : WordFault) × HasWordFault word fault × (text ≡ remark fault))
IsRemark form word text = text ≡ []

-- what is said of a word without a text in a form; every word has a tag form and hexadecimal digits
abbrev pub no_text : Form → List ℕ
no_text Pure = codes "! NoEpc"
no_text Tag = []
no_text Hex = []
no_text form = codes "! NoKey"

-- the answer for a word: its text in a form and a remark, or that it has none, and whether that is so
abbrev pub IsWordAnswer : Form → ℕ → Bool → List ℕ → Type 0
IsWordAnswer to word false answer = (text more : List ℕ) × IsTextIn to word text × IsRemark to word more × (answer ≡ text ++ more)
IsWordAnswer to word true answer = ((text : List ℕ) → IsTextIn to word text → ⊥) × (answer ≡ no_text to)

-- what is said of a text that a rule refuses: the rule's name, and after a wrong check digit the right one
abbrev pub refusal : FormFault → List ℕ
refusal (fault.Key (key.Check right)) = codes "! Check " ++ right ∷ []
refusal f = codes "! " ++ form_fault_name f

-- the answer to a text that is read in the form that it begins as, and whether the text is refused
abbrev pub IsAnswer : Form → ℕ → Option ℕ → List ℕ → Bool → List ℕ → Type 0
IsAnswer to filter count text refused answer =
    ((word : ℕ) × (word < 2 ^ 96) × ReadsAs (form_at text) filter count text word × IsWordAnswer to word refused answer)
    ⊎ ((f : FormFault) × HasFaultIn (form_at text) filter count text f × (refused ≡ true) × (answer ≡ refusal f))

-- the line of a form: its name, a blank and the text, or no line where the word has no such text
abbrev pub IsFormLine : Form → ℕ → List ℕ → Type 0
IsFormLine form word line =
    ((text : List ℕ) × IsTextIn form word text × (line ≡ form_name form ++ (codes " " ++ (text ++ codes "\n"))))
    ⊎ (((text : List ℕ) → IsTextIn form word text → ⊥) × (line ≡ []))

-- the lines of all forms that a word has
pub record AreFormLines (word : ℕ) (lines : List ℕ) : Type 0 where
  pub tag : List ℕ
  pub pure : List ℕ
  pub element : List ℕ
  pub link : List ℕ
  pub hex : List ℕ
  pub key : List ℕ
  pub tag_is : IsFormLine Tag word tag
  pub pure_is : IsFormLine Pure word pure
  pub element_is : IsFormLine Element word element
  pub link_is : IsFormLine Link word link
  pub hex_is : IsFormLine Hex word hex
  pub key_is : IsFormLine Key word key
  pub joined : lines ≡ tag ++ (pure ++ (element ++ (link ++ (hex ++ key))))
