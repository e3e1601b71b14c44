-- What the calls for tags in the set of all schemes write.
use Rattle.std.specs.Prelude.{◌≡◌, ℕ, ◌⊎◌, List}
use Rattle.tag_uri.specs.Room.{HasText}
use Rattle.tag_schemes.specs.declared.fault.PartFault.{PartFault}
use Rattle.tag_schemes.specs.declared.fault.PartReason.{PartReason}
use Rattle.tag_schemes.specs.declared.fault.PartReason.TheVariants as part
use Rattle.tag_schemes.specs.declared.fault.SchemeFault.{SchemeFault}
use Rattle.tag_schemes.specs.declared.fault.SchemeFault.TheVariants as fault
use Rattle.tag_schemes.specs.AllTexts.{HasFaultInAll, IsTextInAll}
use Rattle.tag_schemes.specs.WordFaults.{HasWordFaultInAll, IsLawfulInAll}
use Rattle.llrp_c.specs.declared.status.Status.{Status}
use Rattle.llrp_c.specs.declared.status.Status.TheVariants.{Code, Done, Long, Serial, Uri, Word}
use Rattle.llrp_c.specs.Tags.{AreOctetsOf}

-- the status of a part that fails
abbrev pub part_status : PartReason → Status
part_status (part.Word reason) = Word reason
part_status part.Serial = Serial
part_status part.Code = Code

-- the word has a tag URI in the set of all schemes, or the status says the first part that fails, and its bit
abbrev pub SaysWhyInAll : ℕ → Status → ℕ → Type 0
SaysWhyInAll word status bit =
    ((status ≡ Done) × IsLawfulInAll word × (bit ≡ 0))
    ⊎ ((fault : PartFault) × HasWordFaultInAll word fault × (status ≡ part_status fault.reason) × (bit ≡ fault.bit))

-- The text of the word that the octets spell was written to the front of the room; it has `count` octets.
pub record WritesTextInAll (octets old new : List ℕ) (count bit : ℕ) (status : Status) : Type 0 where
  pub word : ℕ
  pub text : List ℕ
  pub octets_are : AreOctetsOf octets word
  pub text_is : IsTextInAll word text
  pub written : HasText old new 0 count text
  pub says : SaysWhyInAll word status bit

-- the status of a rule that refuses a text
abbrev pub fault_status : SchemeFault → Status
fault_status fault.Long = Long
fault_status fault.Code = Code
fault_status (fault.Tag f) = Uri f

-- the octets of the text's word were written, or the status says the first rule that refuses the text and nothing was written
abbrev pub ReadsTextInAll : (text old new : List ℕ) → Status → Type 0
ReadsTextInAll text old new status =
    ((word : ℕ) × (status ≡ Done) × IsTextInAll word text × AreOctetsOf new word)
    ⊎ ((f : SchemeFault) × (status ≡ fault_status f) × HasFaultInAll text f × (new ≡ old))
