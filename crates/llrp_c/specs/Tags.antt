-- What the calls for tags write.
use Rattle.std.specs.Prelude.{◌≡◌, ℕ, ◌^◌, ◌<◌, ◌⊎◌, List}
use Rattle.tag_bits.specs.Digits.{digits_of_bytes, word_digits}
use Rattle.tag_epc.specs.declared.fault.WordReason.{WordReason}
use Rattle.tag_epc.specs.LawfulWord.{IsLawfulWord}
use Rattle.tag_epc.specs.Faults.{HasWordFault}
use Rattle.tag_uri.specs.declared.fault.UriFault.{UriFault}
use Rattle.tag_uri.specs.Room.{HasText}
use Rattle.tag_uri.specs.TagText.{HasTextFault, IsTextOf}
use Rattle.llrp_c.specs.declared.status.Status.{Status}
use Rattle.llrp_c.specs.declared.status.Status.TheVariants.{Done, Word, Uri}

-- The octets are the twelve of this word.
pub record AreOctetsOf (octets : List ℕ) (word : ℕ) : Type 0 where
  pub below : word < 2 ^ 96
  pub spelled : digits_of_bytes octets ≡ word_digits word

-- the word has a tag URI, or the status says the first part that fails, and its bit
abbrev pub SaysWhy : ℕ → Status → ℕ → Type 0
SaysWhy word status bit =
    ((status ≡ Done) × IsLawfulWord word × (bit ≡ 0))
    ⊎ ((reason : WordReason) × (status ≡ Word reason) × HasWordFault word (record { bit = bit; reason = reason }))

-- The text of the word that the octets spell was written to the front of the room; it has `count` octets.
pub record WritesText (octets old new : List ℕ) (count bit : ℕ) (status : Status) : Type 0 where
  pub word : ℕ
  pub text : List ℕ
  pub octets_are : AreOctetsOf octets word
  pub text_is : IsTextOf word text
  pub written : HasText old new 0 count text
  pub says : SaysWhy word status bit

-- the octets of the text's word were written, or the status says the first rule that refuses the text and nothing was written
abbrev pub ReadsText : (text old new : List ℕ) → Status → Type 0
ReadsText text old new status =
    ((word : ℕ) × (status ≡ Done) × IsTextOf word text × AreOctetsOf new word)
    ⊎ ((fault : UriFault) × (status ≡ Uri fault) × HasTextFault text fault × (new ≡ old))
