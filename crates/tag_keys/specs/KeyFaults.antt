-- The first rule that refuses a text as a pure identity URI, or as the text of a key.
use Rattle.std.specs.Prelude.{◌≡◌, ℕ, ◌+◌, ◌<◌, ◌≤◌, false, true, List, [], ◌∷◌, ◌++◌, length, take, drop, codes, Some}
use Rattle.std.specs.List.{join_with_byte}
use Rattle.tag_epc.specs.declared.kind.Kind.{Kind}
use Rattle.tag_uri.specs.declared.fault.UriFault.{UriFault}
use Rattle.tag_uri.specs.Calls.Decimal.{AreDigits}
use Rattle.tag_uri.specs.Decimal.{padded}
use Rattle.tag_uri.specs.TagText.{tag_start, scheme_text, is_strange, HasTagFault, fault_name}
use Rattle.tag_keys.specs.declared.spelling.Spelling.{Spelling}
use Rattle.tag_keys.specs.declared.fault.KeyFault.{KeyFault}
use Rattle.tag_keys.specs.declared.fault.KeyFault.TheVariants as key
use Rattle.tag_keys.specs.CheckDigit.{is_checked, check_digit}
use Rattle.tag_keys.specs.PureIdentity.{id_start, id_text, ReadsId}
use Rattle.tag_keys.specs.KeyText.{KeyForm, SerialForm, Absent, key_form, serial_text, key_of}

-- the most octets that a text may have; no EPC's text has as many
abbrev pub most_octets : ℕ
most_octets = 96

-- the first rule that refuses a text as a pure identity URI; the last is one of those that refuse the tag URI with the filter value put in
abbrev pub HasIdFault : ℕ → List ℕ → KeyFault → Type 0
HasIdFault filter text key.Long = most_octets < length text
HasIdFault filter text key.Start = (length text ≤ most_octets) × ((rest : List ℕ) → text ≡ id_start ++ rest → ⊥)
HasIdFault filter text key.Scheme = (length text ≤ most_octets) × (rest : List ℕ) × (text ≡ id_start ++ rest) × ((kind : Kind) (more : List ℕ) → rest ≡ id_text kind more → ⊥)
HasIdFault filter text (key.Tag f) = (length text ≤ most_octets) × (tag : List ℕ) × ReadsId filter text tag × HasTagFault tag f
HasIdFault filter text fault = ⊥

-- one digit or more
pub record IsNumber (text : List ℕ) : Type 0 where
  pub digits : AreDigits text
  pub some : 0 < length text

-- the components after the reference: none without a serial number, and else a number
abbrev pub AreSerials : SerialForm → List (List ℕ) → Type 0
AreSerials Absent serials = serials ≡ []
AreSerials form serials = (serial : List ℕ) × (serials ≡ serial ∷ []) × IsNumber serial

-- a text that is put together as a key, whose company prefix has `count` digits; whether the number that it holds is an EPC's is not said
pub record ReadsKey (s : Spelling) (count : ℕ) (text : List ℕ) (kind : Kind) (company reference : List ℕ) (serials : List (List ℕ)) : Type 0 where
  pub form : KeyForm
  pub known : key_form s kind ≡ Some form
  pub written : text ≡ key_of form ([] ∷ company ∷ reference ∷ serials)
  pub counted : length company ≡ count
  pub whole : length company + length reference + 1 ≡ form.digits
  pub company_digits : AreDigits company
  pub reference_digits : AreDigits reference
  pub serial : AreSerials form.serial serials

-- the tag URI of a kind with these components
abbrev pub tag_with : Kind → ℕ → List ℕ → List ℕ → List (List ℕ) → List ℕ
tag_with kind filter company reference serials = tag_start ++ scheme_text kind (join_with_byte 46 (padded 1 filter ∷ company ∷ reference ∷ serials))

-- a text of a key's form that a rule refuses
pub record BeginsKey (s : Spelling) (text : List ℕ) (form : KeyForm) (rest : List ℕ) : Type 0 where
  pub kind : Kind
  pub known : key_form s kind ≡ Some form
  pub begins : text ≡ form.start ++ rest

-- the digits of a key from its company prefix on
pub record HasFromCompany (s : Spelling) (text : List ℕ) (digits : List ℕ) : Type 0 where
  pub form : KeyForm
  pub rest : List ℕ
  pub begins : BeginsKey s text form rest
  pub enough : form.digits ≤ length rest
  pub all_digits : AreDigits (take form.digits rest)
  pub are : digits ≡ drop form.lead (take form.digits rest)

-- the digits of a key are too few
pub record HasFewDigits (s : Spelling) (text : List ℕ) : Type 0 where
  pub form : KeyForm
  pub rest : List ℕ
  pub begins : BeginsKey s text form rest
  pub few : length rest < form.digits

-- one of them is no digit
pub record HasStrangeDigit (s : Spelling) (text : List ℕ) : Type 0 where
  pub form : KeyForm
  pub rest : List ℕ
  pub begins : BeginsKey s text form rest
  pub enough : form.digits ≤ length rest
  pub strange : is_strange (take form.digits rest) ≡ true

-- the check digit of all digits but the last
pub record IsRightDigit (digits : List ℕ) (right : ℕ) : Type 0 where
  pub others : List ℕ
  pub last : ℕ
  pub split : digits ≡ others ++ last ∷ []
  pub is : right ≡ check_digit others

-- the last of them is not the check digit of the others, which is this one
pub record HasWrongCheck (s : Spelling) (text : List ℕ) (right : ℕ) : Type 0 where
  pub form : KeyForm
  pub rest : List ℕ
  pub begins : BeginsKey s text form rest
  pub enough : form.digits ≤ length rest
  pub digits : AreDigits (take form.digits rest)
  pub wrong : is_checked (take form.digits rest) ≡ false
  pub digit : IsRightDigit (take form.digits rest) right

-- what follows them is the text of no serial number
pub record HasWrongSerial (s : Spelling) (text : List ℕ) : Type 0 where
  pub form : KeyForm
  pub rest : List ℕ
  pub begins : BeginsKey s text form rest
  pub enough : form.digits ≤ length rest
  pub digits : AreDigits (take form.digits rest)
  pub right : is_checked (take form.digits rest) ≡ true
  pub wrong : (serials : List (List ℕ)) → AreSerials form.serial serials → drop form.digits rest ≡ serial_text form.serial serials → ⊥

-- a text that is put together as a key, but whose numbers are no EPC's
pub record HasWrongNumber (s : Spelling) (filter count : ℕ) (text : List ℕ) (fault : UriFault) : Type 0 where
  pub kind : Kind
  pub company : List ℕ
  pub reference : List ℕ
  pub serials : List (List ℕ)
  pub reads : ReadsKey s count text kind company reference serials
  pub refused : HasTagFault (tag_with kind filter company reference serials) fault

-- the first rule that refuses a text as that of a key; the last is one of those that refuse the tag URI with the same components
abbrev pub HasKeyFault : Spelling → ℕ → ℕ → List ℕ → KeyFault → Type 0
HasKeyFault s filter count text key.Long = most_octets < length text
HasKeyFault s filter count text key.Start = (length text ≤ most_octets) × ((form : KeyForm) (rest : List ℕ) → BeginsKey s text form rest → ⊥)
HasKeyFault s filter count text key.Length = (length text ≤ most_octets) × HasFewDigits s text
HasKeyFault s filter count text key.Digit = (length text ≤ most_octets) × HasStrangeDigit s text
HasKeyFault s filter count text (key.Check right) = (length text ≤ most_octets) × HasWrongCheck s text right
HasKeyFault s filter count text key.Serial = (length text ≤ most_octets) × HasWrongSerial s text
HasKeyFault s filter count text (key.Tag f) = (length text ≤ most_octets) × HasWrongNumber s filter count text f
HasKeyFault s filter count text key.Scheme = ⊥

-- the name of a rule
abbrev pub key_fault_name : KeyFault → List ℕ
key_fault_name key.Long = codes "Long"
key_fault_name key.Start = codes "Start"
key_fault_name key.Scheme = codes "Scheme"
key_fault_name key.Length = codes "Length"
key_fault_name key.Digit = codes "Digit"
key_fault_name (key.Check right) = codes "Check"
key_fault_name key.Serial = codes "Serial"
key_fault_name (key.Tag f) = fault_name f
