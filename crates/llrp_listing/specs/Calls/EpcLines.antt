-- What `llrp epc` prints of a text. Texts are lists of their UTF-8 octets.
-- Source: EPC Tag Data Standard 1.13, section 12, for the texts of words; the lines are this project's own.
use Rattle.std.specs.Prelude.{◌≡◌, ℕ, ◌^◌, ◌<◌, ◌⊎◌, List, [], ◌++◌, map, codes, decimal, Result, Ok, Err}
use Rattle.std.specs.Char.{to_ascii_uppercase}
use Rattle.tag_epc.specs.declared.fault.WordFault.{WordFault}
use Rattle.tag_epc.specs.LawfulWord.{IsLawfulWord}
use Rattle.tag_epc.specs.Faults.{HasWordFault, word_fault_name}
use Rattle.tag_uri.specs.declared.fault.UriFault.{UriFault}
use Rattle.tag_uri.specs.Hexadecimal.{hexadecimal}
use Rattle.tag_uri.specs.TagText.{IsTextOf, HasTextFault, fault_name}
use Rattle.llrp_listing.specs.declared.outcome.ToolErr.{ToolErr}
use Rattle.llrp_listing.specs.declared.outcome.ToolErr.TheVariants.{Write, Memory}
use Rattle.llrp_listing.specs.declared.outcome.Verdict.{Verdict}
use Rattle.llrp_listing.specs.declared.outcome.Verdict.TheVariants.{Lawful, Faulty}
use Rattle.llrp_listing.specs.Copying.{IsPrefix}
use Rattle.llrp_stream.specs.Device.{SinkLog, Wrote, WroteAndFailed}

-- the text is the 24 hexadecimal digits of the word, in either case
pub record AreDigitsOf (text : List ℕ) (word : ℕ) : Type 0 where
  pub below : word < 2 ^ 96
  pub raised : map to_ascii_uppercase text ≡ hexadecimal 24 word

-- a text as a line
abbrev pub line : List ℕ → List ℕ
line text = text ++ codes "\n"

-- the line that says why a word has no tag URI: the part that fails, and its first bit
unfoldable pub remark_line : WordFault → List ℕ
remark_line fault = codes "# " ++ (word_fault_name fault.reason ++ (codes " " ++ (decimal fault.bit ++ codes "\n")))

-- what follows the line of a word's text: nothing where the word has a tag URI, else the line of its first fault
abbrev pub IsRemark : ℕ → List ℕ → Type 0
IsRemark word remark = (IsLawfulWord word × (remark ≡ [])) ⊎ ((fault : WordFault) × HasWordFault word fault × (remark ≡ remark_line fault))

-- the lines of a word
pub record AreWordLines (word : ℕ) (lines : List ℕ) : Type 0 where
  pub text : List ℕ
  pub remark : List ℕ
  pub text_is : IsTextOf word text
  pub remark_is : IsRemark word remark
  pub joined : lines ≡ line text ++ remark

-- the line that says which rule refuses a text
unfoldable pub refusal_line : UriFault → List ℕ
refusal_line fault = codes "! " ++ (fault_name fault ++ codes "\n")

-- the line of a text that is no word's digits: the digits of its word, or the first rule that refuses it
abbrev pub IsTextLine : List ℕ → Verdict → List ℕ → Type 0
IsTextLine text Lawful lines = (word : ℕ) × (word < 2 ^ 96) × IsTextOf word text × (lines ≡ line (hexadecimal 24 word))
IsTextLine text Faulty lines = (fault : UriFault) × HasTextFault text fault × (lines ≡ refusal_line fault)

-- what is printed of a text, and the verdict on it
abbrev pub Prints : List ℕ → Verdict → List ℕ → Type 0
Prints text verdict lines =
    ((word : ℕ) × AreDigitsOf text word × (verdict ≡ Lawful) × AreWordLines word lines)
    ⊎ (((word : ℕ) → AreDigitsOf text word → ⊥) × IsTextLine text verdict lines)

-- What epc did, by its answer: it wrote all that is printed of the text, or a front of it until a write failed, or nothing where memory ran out.
abbrev pub PrintsEpc : List ℕ → SinkLog → SinkLog → Result Verdict ToolErr → Type 0
PrintsEpc text w0 w1 (Ok verdict) = (lines : List ℕ) × Prints text verdict lines × Wrote w0 w1 lines
PrintsEpc text w0 w1 (Err Write) = (verdict : Verdict) × (lines front : List ℕ) × Prints text verdict lines × IsPrefix front lines × WroteAndFailed w0 w1 front
PrintsEpc text w0 w1 (Err Memory) = w1 ≡ w0
PrintsEpc text w0 w1 (Err _) = ⊥
