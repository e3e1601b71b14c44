-- The first rule that refuses a text in a form.
use Rattle.std.specs.Prelude.{ℕ, List, codes, Option, Some, None}
use Rattle.tag_uri.specs.TagText.{HasTextFault, fault_name}
use Rattle.tag_keys.specs.declared.fault.KeyFault.{KeyFault}
use Rattle.tag_keys.specs.declared.spelling.Spelling.{Spelling}
use Rattle.tag_keys.specs.declared.spelling.Spelling.TheVariants as spelling
use Rattle.tag_keys.specs.KeyFaults.{HasIdFault, HasKeyFault, key_fault_name}
use Rattle.tag_forms.specs.declared.form.Form.{Form}
use Rattle.tag_forms.specs.declared.form.Form.TheVariants.{Tag, Pure, Element, Link, Hex, Key}
use Rattle.tag_forms.specs.declared.fault.FormFault.{FormFault}
use Rattle.tag_forms.specs.declared.fault.FormFault.TheVariants as fault
use Rattle.tag_forms.specs.Hexadecimal.{IsHexOf}

-- the first rule that refuses a key's text; where it is not known how many digits the company prefix has, the rules are those for seven digits, and a text that none of them refuses is refused for that
abbrev pub HasFaultAsKey : Spelling → ℕ → Option ℕ → List ℕ → FormFault → Type 0
HasFaultAsKey s filter (Some count) text (fault.Key f) = HasKeyFault s filter count text f
HasFaultAsKey s filter None text (fault.Key f) = HasKeyFault s filter 7 text f
HasFaultAsKey s filter None text fault.Prefix = (f : KeyFault) → HasKeyFault s filter 7 text f → ⊥
HasFaultAsKey s filter count text f = ⊥

-- the first rule that refuses a text in a form
abbrev pub HasFaultIn : Form → ℕ → Option ℕ → List ℕ → FormFault → Type 0
HasFaultIn Tag filter count text (fault.Tag f) = HasTextFault text f
HasFaultIn Pure filter count text (fault.Key f) = HasIdFault filter text f
HasFaultIn Hex filter count text fault.Hex = (word : ℕ) → IsHexOf text word → ⊥
HasFaultIn Element filter count text f = HasFaultAsKey spelling.Element filter count text f
HasFaultIn Link filter count text f = HasFaultAsKey spelling.Link filter count text f
HasFaultIn Key filter count text f = HasFaultAsKey spelling.Named filter count text f
HasFaultIn form filter count text f = ⊥

-- the name of a rule
abbrev pub form_fault_name : FormFault → List ℕ
form_fault_name fault.Hex = codes "Hex"
form_fault_name fault.Prefix = codes "Prefix"
form_fault_name (fault.Tag f) = fault_name f
form_fault_name (fault.Key f) = key_fault_name f
