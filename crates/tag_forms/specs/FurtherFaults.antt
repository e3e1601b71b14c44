-- The first rule that refuses a text that begins as one of a further scheme in a form, beside the tag form.
use Rattle.std.specs.Prelude.{◌≡◌, ℕ, ◌⊎◌, List, Option, Some, None}
use Rattle.tag_keys.specs.declared.fault.KeyFault.{KeyFault}
use Rattle.tag_keys.specs.declared.spelling.Spelling.{Spelling}
use Rattle.tag_keys.specs.declared.spelling.Spelling.TheVariants as spelling
use Rattle.tag_scheme_keys.specs.declared.supplier_fault.SupplierFault.{SupplierFault}
use Rattle.tag_scheme_keys.specs.KeyFaults.{HasIdFaultIn, HasKeyFaultIn}
use Rattle.tag_scheme_keys.specs.SupplierIdentity.{BeginsAsSupplierId, HasSupplierIdFault}
use Rattle.tag_forms.specs.declared.form.Form.{Form}
use Rattle.tag_forms.specs.declared.form.Form.TheVariants.{Pure, Element, Link, Key}
use Rattle.tag_forms.specs.declared.fault.FormFault.{FormFault}
use Rattle.tag_forms.specs.declared.fault.FormFault.TheVariants as fault
use Rattle.tag_forms.specs.declared.all_forms.AllFault.{AllFault}
use Rattle.tag_forms.specs.declared.all_forms.AllFault.TheVariants as all
use Rattle.tag_forms.specs.FurtherForms.{BeginsFurtherId, BeginsFurtherKey}

-- the first rule that refuses a key's text; where it is not known how many digits the company prefix has, as of the keys of the seven schemes
abbrev pub HasFurtherKeyFault : Spelling → ℕ → Option ℕ → List ℕ → FormFault → Type 0
HasFurtherKeyFault s filter (Some count) text (fault.Key f) = HasKeyFaultIn s filter count text f
HasFurtherKeyFault s filter None text (fault.Key f) = HasKeyFaultIn s filter 7 text f
HasFurtherKeyFault s filter None text fault.Prefix = (f : KeyFault) → HasKeyFaultIn s filter 7 text f → ⊥
HasFurtherKeyFault s filter count text f = ⊥

-- the same of a text that begins as such a key
abbrev pub RefusesFurtherKey : Spelling → ℕ → Option ℕ → List ℕ → AllFault → Type 0
RefusesFurtherKey s filter count text f = BeginsFurtherKey s text × (rule : FormFault) × HasFurtherKeyFault s filter count text rule × (f ≡ all.Form rule)

-- the first rule that refuses a text that begins as a pure identity URI
abbrev pub RefusesFurtherId : ℕ → List ℕ → AllFault → Type 0
RefusesFurtherId filter text f =
    (BeginsFurtherId text × (rule : KeyFault) × HasIdFaultIn filter text rule × (f ≡ all.Form (fault.Key rule)))
    ⊎ (((rest : List ℕ) × BeginsAsSupplierId text rest) × (rule : SupplierFault) × HasSupplierIdFault text rule × (f ≡ all.Supplier rule))

-- the first rule that refuses a text that begins as one of a further scheme in a form
abbrev pub RefusesFurther : Form → ℕ → Option ℕ → List ℕ → AllFault → Type 0
RefusesFurther Pure filter count text f = RefusesFurtherId filter text f
RefusesFurther Element filter count text f = RefusesFurtherKey spelling.Element filter count text f
RefusesFurther Link filter count text f = RefusesFurtherKey spelling.Link filter count text f
RefusesFurther Key filter count text f = RefusesFurtherKey spelling.Named filter count text f
RefusesFurther form filter count text f = ⊥
