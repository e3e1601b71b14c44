-- The names of the rules that refuse a text in the set of all schemes, and of the parts of words that fail there.
use Rattle.std.specs.Prelude.{ℕ, List, codes}
use Rattle.tag_epc.specs.Faults.{word_fault_name}
use Rattle.tag_uri.specs.TagText.{fault_name}
use Rattle.tag_schemes.specs.declared.fault.SchemeFault.{SchemeFault}
use Rattle.tag_schemes.specs.declared.fault.SchemeFault.TheVariants.{Long, Code, Tag}
use Rattle.tag_schemes.specs.declared.fault.PartReason.{PartReason}
use Rattle.tag_schemes.specs.declared.fault.PartReason.TheVariants as part

-- the name of a rule
abbrev pub scheme_fault_name : SchemeFault → List ℕ
scheme_fault_name Long = codes "Long"
scheme_fault_name Code = codes "Code"
scheme_fault_name (Tag f) = fault_name f

-- the name of a part that fails
abbrev pub part_reason_name : PartReason → List ℕ
part_reason_name (part.Word reason) = word_fault_name reason
part_reason_name part.Serial = codes "Serial"
part_reason_name part.Code = codes "Code"
