-- What the calls for keys in the set of all schemes write.
use Rattle.std.specs.Prelude.{◌≡◌, ℕ, ◌⊎◌, List, Option}
use Rattle.tag_uri.specs.declared.fault.UriFault.TheVariants as uri
use Rattle.tag_scheme_keys.specs.declared.supplier_fault.SupplierFault.{SupplierFault}
use Rattle.tag_scheme_keys.specs.declared.supplier_fault.SupplierFault.TheVariants as supplier
use Rattle.tag_forms.specs.declared.all_forms.AllFault.{AllFault}
use Rattle.tag_forms.specs.declared.all_forms.AllFault.TheVariants as all
use Rattle.tag_forms.specs.AllAnswers.{AreFormLinesInAll}
use Rattle.tag_forms.specs.AllForms.{ReadsInAll, RefusesInAll}
use Rattle.tag_forms.specs.Forms.{form_at}
use Rattle.llrp_c.specs.declared.status.Status.{Status}
use Rattle.llrp_c.specs.declared.status.Status.TheVariants.{Done, Long, Uri}
use Rattle.llrp_c.specs.AllSchemes.{fault_status}
use Rattle.llrp_c.specs.Keys.{WritesLines, form_status, right_of}
use Rattle.llrp_c.specs.Tags.{AreOctetsOf}

-- the lines of the word's forms in the set of all schemes
abbrev pub WritesFormsInAll : (octets old new : List ℕ) (count code : ℕ) → Type 0
WritesFormsInAll octets old new count code = WritesLines AreFormLinesInAll octets old new count code

-- the status of a rule that refuses a pure identity URI of USDoD-96
abbrev pub supplier_status : SupplierFault → Status
supplier_status supplier.Long = Long
supplier_status supplier.Start = Uri uri.Start
supplier_status (supplier.Tag fault) = fault_status fault

-- the status of a rule that refuses a text in a form
abbrev pub status_in_all : AllFault → Status
status_in_all (all.Tag fault) = fault_status fault
status_in_all (all.Form fault) = form_status fault
status_in_all (all.Supplier fault) = supplier_status fault

-- the right check digit, as a character, where a wrong one refuses a text; else 0
abbrev pub right_in_all : AllFault → ℕ
right_in_all (all.Form fault) = right_of fault
right_in_all fault = 0

-- the octets of the text's word were written, or the status says the first rule that refuses the text, and nothing was written
abbrev pub ReadsInFormInAll : (text : List ℕ) → ℕ → Option ℕ → (old new : List ℕ) → ℕ → Status → Type 0
ReadsInFormInAll text filter count old new right status =
    ((word : ℕ) × (status ≡ Done) × ReadsInAll (form_at text) filter count text word × AreOctetsOf new word × (right ≡ 0))
    ⊎ ((fault : AllFault) × (status ≡ status_in_all fault) × RefusesInAll (form_at text) filter count text fault × (new ≡ old) × (right ≡ right_in_all fault))
