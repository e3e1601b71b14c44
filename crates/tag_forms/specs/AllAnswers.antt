-- The answers to texts in the set of all schemes. Texts are lists of their UTF-8 octets; the lines are this project's own.
use Rattle.std.specs.Prelude.{◌≡◌, ℕ, ◌^◌, ◌<◌, ◌⊎◌, Bool, true, false, List, [], ◌∷◌, ◌++◌, codes, decimal, Option}
use Rattle.tag_schemes.specs.declared.fault.PartFault.{PartFault}
use Rattle.tag_schemes.specs.Calls.Faults.{part_reason_name, scheme_fault_name}
use Rattle.tag_scheme_keys.specs.SupplierIdentity.{supplier_fault_name}
use Rattle.tag_schemes.specs.WordFaults.{HasWordFaultInAll, IsLawfulInAll}
use Rattle.tag_forms.specs.declared.form.Form.{Form}
use Rattle.tag_forms.specs.declared.form.Form.TheVariants.{Tag, Pure, Element, Link, Hex, Key}
use Rattle.tag_forms.specs.declared.all_forms.AllFault.{AllFault}
use Rattle.tag_forms.specs.declared.all_forms.AllFault.TheVariants as all
use Rattle.tag_forms.specs.AllForms.{IsFormInAll, ReadsInAll, RefusesInAll}
use Rattle.tag_forms.specs.Answers.{refusal}
use Rattle.tag_forms.specs.Forms.{form_at, form_name}

-- what is said of a word that no EPC has: a tab (9), the part that fails, and its first bit
abbrev pub remark_in_all : PartFault → List ℕ
remark_in_all fault = 9 ∷ part_reason_name fault.reason ++ (codes " " ++ decimal fault.bit)

-- what follows the text of a word: something only after the tag form of a word that no EPC has
abbrev pub IsRemarkInAll : Form → ℕ → List ℕ → Type 0
IsRemarkInAll Tag word text = (IsLawfulInAll word × (text ≡ [])) ⊎ ((fault : PartFault) × HasWordFaultInAll word fault × (text ≡ remark_in_all fault))
IsRemarkInAll form word text = text ≡ []

-- what is said of a word without a text in a form
abbrev pub lack_in_all : Form → List ℕ
lack_in_all Pure = codes "NoEpc"
lack_in_all form = codes "NoKey"

-- the answer for a word: its text in a form and a remark, or that it has none, and whether that is so
abbrev pub IsWordAnswerInAll : Form → ℕ → Bool → List ℕ → Type 0
IsWordAnswerInAll to word false answer = (text more : List ℕ) × IsFormInAll to word text × IsRemarkInAll to word more × (answer ≡ text ++ more)
IsWordAnswerInAll to word true answer = ((text : List ℕ) → IsFormInAll to word text → ⊥) × (answer ≡ codes "! " ++ lack_in_all to)

-- what is said of a text that a rule refuses
abbrev pub refusal_in_all : AllFault → List ℕ
refusal_in_all (all.Tag f) = codes "! " ++ scheme_fault_name f
refusal_in_all (all.Supplier f) = codes "! " ++ supplier_fault_name f
refusal_in_all (all.Form f) = refusal f

-- the answer to a text that is read in the form that it begins as, and whether the text is refused
abbrev pub IsAnswerInAll : Form → ℕ → Option ℕ → List ℕ → Bool → List ℕ → Type 0
IsAnswerInAll to filter count text refused answer =
    ((word : ℕ) × (word < 2 ^ 96) × ReadsInAll (form_at text) filter count text word × IsWordAnswerInAll to word refused answer)
    ⊎ ((f : AllFault) × RefusesInAll (form_at text) filter count text f × (refused ≡ true) × (answer ≡ refusal_in_all f))

-- the line of a form: its name, a blank and the text, or no line where the word has no such text
abbrev pub IsFormLineInAll : Form → ℕ → List ℕ → Type 0
IsFormLineInAll form word line =
    ((text : List ℕ) × IsFormInAll form word text × (line ≡ form_name form ++ (codes " " ++ (text ++ codes "\n"))))
    ⊎ (((text : List ℕ) → IsFormInAll form word text → ⊥) × (line ≡ []))

-- the lines of all forms that a word has
pub record AreFormLinesInAll (word : ℕ) (lines : List ℕ) : Type 0 where
  pub tag : List ℕ
  pub pure : List ℕ
  pub element : List ℕ
  pub link : List ℕ
  pub hex : List ℕ
  pub key : List ℕ
  pub tag_is : IsFormLineInAll Tag word tag
  pub pure_is : IsFormLineInAll Pure word pure
  pub element_is : IsFormLineInAll Element word element
  pub link_is : IsFormLineInAll Link word link
  pub hex_is : IsFormLineInAll Hex word hex
  pub key_is : IsFormLineInAll Key word key
  pub joined : lines ≡ tag ++ (pure ++ (element ++ (link ++ (hex ++ key))))
