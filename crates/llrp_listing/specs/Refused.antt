-- The words for refusals.
use Rattle.std.specs.Prelude.{ℕ, List, ◌++◌, codes}
use Rattle.llrp_tree.specs.declared.node.NodeFault.{NodeFault}
use Rattle.llrp_tree.specs.declared.node.NodeFault.TheVariants as fault
use Rattle.tag_uri.specs.TagText.{fault_name}
use Rattle.llrp_listing.specs.declared.outcome.Refusal.{Refusal}
use Rattle.llrp_listing.specs.declared.outcome.Refusal.TheVariants as refusal

-- the word for a fault of a parameter or a message
abbrev pub node_fault_name : NodeFault → List ℕ
node_fault_name fault.FieldCount = codes "FieldCount"
node_fault_name fault.Value = codes "Value"
node_fault_name fault.Tail = codes "Tail"
node_fault_name fault.Misplaced = codes "Misplaced"
node_fault_name fault.TooMany = codes "TooMany"
node_fault_name fault.Missing = codes "Missing"
node_fault_name fault.TooDeep = codes "TooDeep"
node_fault_name fault.TooLong = codes "TooLong"

-- the word for a refusal, and after it that for the fault inside it
abbrev pub refusal_name : Refusal → List ℕ
refusal_name refusal.Line = codes "Line"
refusal_name refusal.Level = codes "Level"
refusal_name refusal.Name = codes "Name"
refusal_name refusal.Fields = codes "Fields"
refusal_name refusal.Number = codes "Number"
refusal_name refusal.Tail = codes "Tail"
refusal_name (refusal.Epc fault) = codes "Epc " ++ fault_name fault
refusal_name (refusal.Node fault) = codes "Node " ++ node_fault_name fault
refusal_name refusal.OverLimit = codes "OverLimit"
