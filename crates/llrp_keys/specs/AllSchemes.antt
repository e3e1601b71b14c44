-- What `llrp epc --schemes all` prints of a text. Texts are lists of their UTF-8 octets.
-- Source: EPC Tag Data Standard 1.13, sections 12 and 14, for the texts of words; the lines are this project's own.
use Rattle.std.specs.Prelude.{◌≡◌, ℕ, ◌^◌, ◌<◌, ◌⊎◌, List, [], ◌++◌, codes, decimal}
use Rattle.tag_uri.specs.Hexadecimal.{hexadecimal}
use Rattle.tag_schemes.specs.AllTexts.{IsTextInAll, HasFaultInAll}
use Rattle.tag_schemes.specs.WordFaults.{HasWordFaultInAll, IsLawfulInAll}
use Rattle.tag_schemes.specs.declared.fault.PartFault.{PartFault}
use Rattle.tag_schemes.specs.declared.fault.SchemeFault.{SchemeFault}
use Rattle.tag_schemes.specs.Calls.Faults.{part_reason_name, scheme_fault_name}
use Rattle.tag_forms.specs.Hexadecimal.{IsHexOf}
use Rattle.llrp_listing.specs.declared.outcome.Verdict.{Verdict}
use Rattle.llrp_listing.specs.declared.outcome.Verdict.TheVariants.{Lawful, Faulty}
use Rattle.llrp_listing.specs.Calls.EpcLines.{line}

-- the line that says why a word has no tag URI: the part that fails, and its first bit
abbrev pub remark_in_all : PartFault → List ℕ
remark_in_all fault = codes "# " ++ (part_reason_name fault.reason ++ (codes " " ++ (decimal fault.bit ++ codes "\n")))

-- what follows the line of a word's text: nothing where an EPC of some scheme has the word, else the line of its first fault
abbrev pub IsRemarkInAll : ℕ → List ℕ → Type 0
IsRemarkInAll word remark =
    (IsLawfulInAll word × (remark ≡ []))
    ⊎ ((fault : PartFault) × HasWordFaultInAll word fault × (remark ≡ remark_in_all fault))

-- the lines of a word
pub record AreWordLinesInAll (word : ℕ) (lines : List ℕ) : Type 0 where
  pub text : List ℕ
  pub remark : List ℕ
  pub text_is : IsTextInAll word text
  pub remark_is : IsRemarkInAll word remark
  pub joined : lines ≡ line text ++ remark

-- the line that says which rule refuses a text
abbrev pub refusal_in_all : SchemeFault → List ℕ
refusal_in_all fault = codes "! " ++ (scheme_fault_name fault ++ codes "\n")

-- the line of a text that is no word's digits: the digits of its word, or the first rule that refuses it
abbrev pub IsTextLineInAll : List ℕ → Verdict → List ℕ → Type 0
IsTextLineInAll text Lawful lines = (word : ℕ) × (word < 2 ^ 96) × IsTextInAll word text × (lines ≡ line (hexadecimal 24 word))
IsTextLineInAll text Faulty lines = (fault : SchemeFault) × HasFaultInAll text fault × (lines ≡ refusal_in_all fault)

-- what is printed of a text, which may be a word's digits as people write them, and the verdict on it
abbrev pub ArePrintedInAll : List ℕ → Verdict → List ℕ → Type 0
ArePrintedInAll text verdict lines =
    ((word : ℕ) × IsHexOf text word × (verdict ≡ Lawful) × AreWordLinesInAll word lines)
    ⊎ (((word : ℕ) → IsHexOf text word → ⊥) × IsTextLineInAll text verdict lines)
