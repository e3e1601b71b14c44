-- The forms of a word in the set of all schemes, and the words of texts there.
use Rattle.std.specs.Prelude.{◌≡◌, ℕ, ◌⊎◌, List, Option}
use Rattle.tag_schemes.specs.declared.fault.SchemeFault.{SchemeFault}
use Rattle.tag_schemes.specs.AllTexts.{HasFaultInAll, IsTextInAll}
use Rattle.tag_schemes.specs.Calls.Faults.{scheme_fault_name}
use Rattle.tag_scheme_keys.specs.SupplierIdentity.{supplier_fault_name}
use Rattle.tag_forms.specs.declared.form.Form.{Form}
use Rattle.tag_forms.specs.declared.form.Form.TheVariants.{Tag}
use Rattle.tag_forms.specs.declared.fault.FormFault.{FormFault}
use Rattle.tag_forms.specs.declared.all_forms.AllFault.{AllFault}
use Rattle.tag_forms.specs.declared.all_forms.AllFault.TheVariants as all
use Rattle.tag_forms.specs.Forms.{IsTextIn, ReadsAs}
use Rattle.tag_forms.specs.Faults.{HasFaultIn, form_fault_name}
use Rattle.tag_forms.specs.FurtherForms.{BeginsFurther, IsFurtherTextIn, ReadsFurther}
use Rattle.tag_forms.specs.FurtherFaults.{RefusesFurther}

-- the text of a word in a form: in the tag form that of the set, and in each other that of its EPC of a further scheme, or what it is without these
abbrev pub IsFormInAll : Form → ℕ → List ℕ → Type 0
IsFormInAll Tag word text = IsTextInAll word text
IsFormInAll form word text = IsFurtherTextIn form word text ⊎ IsTextIn form word text

-- the word that a text is read as in a form
abbrev pub ReadsInAll : Form → ℕ → Option ℕ → List ℕ → ℕ → Type 0
ReadsInAll Tag filter count text word = IsTextInAll word text
ReadsInAll form filter count text word = ReadsFurther form filter count text word ⊎ ReadsAs form filter count text word

-- the first rule that refuses a text in a form: what the text begins with says whose rules these are
abbrev pub RefusesInAll : Form → ℕ → Option ℕ → List ℕ → AllFault → Type 0
RefusesInAll Tag filter count text f = (rule : SchemeFault) × HasFaultInAll text rule × (f ≡ all.Tag rule)
RefusesInAll form filter count text f =
    RefusesFurther form filter count text f
    ⊎ ((BeginsFurther form text → ⊥) × (rule : FormFault) × HasFaultIn form filter count text rule × (f ≡ all.Form rule))

-- the name of a rule
abbrev pub all_fault_name : AllFault → List ℕ
all_fault_name (all.Tag f) = scheme_fault_name f
all_fault_name (all.Supplier f) = supplier_fault_name f
all_fault_name (all.Form f) = form_fault_name f
