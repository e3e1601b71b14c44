-- What the calls for keys write.
use Rattle.std.specs.Prelude.{◌≡◌, ℕ, ◌<◌, ◌==◌, ◌||◌, ◌&&◌, ◌⊎◌, nat_le, Bool, List, length, Option, Some, None, if◌then◌else◌}
use Rattle.tag_uri.specs.declared.fault.UriFault.TheVariants as uri
use Rattle.tag_uri.specs.Room.{HasText}
use Rattle.tag_keys.specs.declared.fault.KeyFault.{KeyFault}
use Rattle.tag_keys.specs.declared.fault.KeyFault.TheVariants as key
use Rattle.tag_forms.specs.declared.fault.FormFault.{FormFault}
use Rattle.tag_forms.specs.declared.fault.FormFault.TheVariants as form
use Rattle.tag_forms.specs.Answers.{AreFormLines}
use Rattle.tag_forms.specs.Faults.{HasFaultIn}
use Rattle.tag_forms.specs.Forms.{ReadsAs, form_at}
use Rattle.llrp_c.specs.declared.status.KeyRule.TheVariants as rule
use Rattle.llrp_c.specs.declared.status.Status.{Status}
use Rattle.llrp_c.specs.declared.status.Status.TheVariants.{Done, Room, Memory, Long, Uri, Key}
use Rattle.llrp_c.specs.Status.{code_of}
use Rattle.llrp_c.specs.Tags.{AreOctetsOf}

-- The lines of the word that the octets spell were written; or they have more octets than the room, and their number is returned; or memory ran out.
abbrev pub WritesLines : (ℕ → List ℕ → Type 0) → (octets old new : List ℕ) (count code : ℕ) → Type 0
WritesLines AreLines octets old new count code =
    ((word : ℕ) × (text : List ℕ) × AreOctetsOf octets word × AreLines word text × HasText old new 0 count text × (code ≡ code_of Done))
    ⊎ ((word : ℕ) × (text : List ℕ) × AreOctetsOf octets word × AreLines word text × (length old < length text) × (count ≡ length text) × (new ≡ old) × (code ≡ code_of Room))
    ⊎ ((new ≡ old) × (count ≡ 0) × (code ≡ code_of Memory))

-- the lines of the word's forms
abbrev pub WritesForms : (octets old new : List ℕ) (count code : ℕ) → Type 0
WritesForms octets old new count code = WritesLines AreFormLines octets old new count code

-- the status of a rule that refuses a key; a rule of tag URIs has its own status, and so has one of the same name
abbrev pub key_status : KeyFault → Status
key_status key.Long = Long
key_status key.Start = Uri uri.Start
key_status key.Scheme = Uri uri.Scheme
key_status key.Length = Key rule.Length
key_status key.Digit = Uri uri.Digit
key_status (key.Check right) = Key rule.Check
key_status key.Serial = Key rule.Serial
key_status (key.Tag fault) = Uri fault

-- the status of a rule that refuses a text in a form
abbrev pub form_status : FormFault → Status
form_status form.Hex = Key rule.Hex
form_status form.Prefix = Key rule.Prefix
form_status (form.Tag fault) = Uri fault
form_status (form.Key fault) = key_status fault

-- the right check digit, as a character, where a wrong one refuses a text; else 0
abbrev pub right_of : FormFault → ℕ
right_of (form.Key (key.Check right)) = right
right_of fault = 0

-- whether a number of digits is 0, for one that is not known, or one that a company prefix may have
abbrev pub is_count : ℕ → Bool
is_count n = (n == 0) || (nat_le 6 n && nat_le n 12)

-- the number of digits, if it is known
abbrev pub known : ℕ → Option ℕ
known n = if n == 0 then None else Some n

-- the octets of the text's word were written, or the status says the first rule that refuses the text, and nothing was written
abbrev pub ReadsInForm : (text : List ℕ) → ℕ → Option ℕ → (old new : List ℕ) → ℕ → Status → Type 0
ReadsInForm text filter count old new right status =
    ((word : ℕ) × (status ≡ Done) × ReadsAs (form_at text) filter count text word × AreOctetsOf new word × (right ≡ 0))
    ⊎ ((fault : FormFault) × (status ≡ form_status fault) × HasFaultIn (form_at text) filter count text fault × (new ≡ old) × (right ≡ right_of fault))
