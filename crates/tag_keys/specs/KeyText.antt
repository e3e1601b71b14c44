-- The GS1 keys of EPCs, as element strings and as Digital Link URIs. Texts are lists of their UTF-8 octets.
-- Source: EPC Tag Data Standard 1.13, section 7; for the URIs the GS1 Digital Link standard.
use Rattle.std.specs.Prelude.{◌≡◌, ℕ, ◌==◌, ◌&&◌, Bool, if◌then◌else◌, List, [], ◌∷◌, ◌++◌, length, take, drop, slice_index, codes, Option, Some, None}
use Rattle.tag_epc.specs.declared.kind.Kind.{Kind}
use Rattle.tag_epc.specs.declared.kind.Kind.TheVariants.{Sgtin, Sscc, Sgln, Grai, Gdti, Gsrn, Gid}
use Rattle.tag_epc.specs.declared.epc.Parts.{Parts}
use Rattle.tag_epc.specs.declared.epc.Parts.TheVariants.{Partitioned, General}
use Rattle.tag_epc.specs.LawfulWord.{kind_of_parts}
use Rattle.tag_uri.specs.TagText.{components_of}
use Rattle.tag_keys.specs.declared.spelling.Spelling.{Spelling}
use Rattle.tag_keys.specs.declared.spelling.Spelling.TheVariants.{Element, Link, Named}
use Rattle.tag_keys.specs.CheckDigit.{with_check_digit}

-- how a key's serial number is written: not at all, after the check digit, after a mark, or after a mark unless it is 0
pub data SerialForm : Type 0 where
  Absent : SerialForm
  Joined : SerialForm
  Marked : List ℕ → SerialForm
  MarkedUnlessZero : List ℕ → SerialForm

-- a key's form: what its text begins with, how many digits of the reference come before the company prefix, how many digits it has with its check digit, and its serial number
pub record KeyForm : Type 0 where
  pub start : List ℕ
  pub lead : ℕ
  pub digits : ℕ
  pub serial : SerialForm

-- an application identifier in front of its value: in parentheses (40, 41), or between slashes (47)
abbrev pub mark : Spelling → List ℕ → List ℕ
mark Element identifier = 40 ∷ identifier ++ 41 ∷ []
mark Link identifier = 47 ∷ identifier ++ 47 ∷ []
mark Named identifier = 32 ∷ []

-- what comes before the first application identifier
abbrev pub host : Spelling → List ℕ
host Element = []
host Link = codes "https://id.gs1.org"
host Named = []

-- the keys by schemes: GTIN, SSCC, GLN, GRAI, GDTI and GSRN; GID-96 has none
abbrev pub marked_form : Spelling → Kind → Option KeyForm
marked_form s Sgtin = Some (record { start = host s ++ mark s (codes "01"); lead = 1; digits = 14; serial = Marked (mark s (codes "21")) })
marked_form s Sscc = Some (record { start = host s ++ mark s (codes "00"); lead = 1; digits = 18; serial = Absent })
marked_form s Sgln = Some (record { start = host s ++ mark s (codes "414"); lead = 0; digits = 13; serial = MarkedUnlessZero (mark s (codes "254")) })
marked_form s Grai = Some (record { start = host s ++ (mark s (codes "8003") ++ codes "0"); lead = 0; digits = 13; serial = Joined })
marked_form s Gdti = Some (record { start = host s ++ mark s (codes "253"); lead = 0; digits = 13; serial = Joined })
marked_form s Gsrn = Some (record { start = host s ++ mark s (codes "8018"); lead = 0; digits = 18; serial = Absent })
marked_form s Gid = None

-- the same keys by their names, without the filler 0 of a GRAI, and with a blank before the serial number
abbrev pub named_form : Kind → Option KeyForm
named_form Sgtin = Some (record { start = codes "gtin "; lead = 1; digits = 14; serial = Marked (codes " ") })
named_form Sscc = Some (record { start = codes "sscc "; lead = 1; digits = 18; serial = Absent })
named_form Sgln = Some (record { start = codes "gln "; lead = 0; digits = 13; serial = MarkedUnlessZero (codes " ") })
named_form Grai = Some (record { start = codes "grai "; lead = 0; digits = 13; serial = Marked (codes " ") })
named_form Gdti = Some (record { start = codes "gdti "; lead = 0; digits = 13; serial = Marked (codes " ") })
named_form Gsrn = Some (record { start = codes "gsrn "; lead = 0; digits = 18; serial = Absent })
named_form Gid = None

-- the form of the key of a scheme, as it is spelled
abbrev pub key_form : Spelling → Kind → Option KeyForm
key_form Element kind = marked_form Element kind
key_form Link kind = marked_form Link kind
key_form Named kind = named_form kind

-- whether a text is the digit 0
abbrev pub is_zero : List ℕ → Bool
is_zero text = (length text == 1) && (slice_index text 0 == 48)

-- the text of a serial number, the component after the reference if there is one
abbrev pub serial_text : SerialForm → List (List ℕ) → List ℕ
serial_text form [] = []
serial_text Absent (serial ∷ more) = []
serial_text Joined (serial ∷ more) = serial
serial_text (Marked m) (serial ∷ more) = m ++ serial
serial_text (MarkedUnlessZero m) (serial ∷ more) = if is_zero serial then [] else m ++ serial

-- the digits of a key before its check digit: the first digits of the reference, company prefix, the other digits of the reference
abbrev pub key_digits : ℕ → List ℕ → List ℕ → List ℕ
key_digits lead company reference = take lead reference ++ (company ++ drop lead reference)

-- the text of a key by the components of a tag URI: filter value, company prefix, reference and, if the scheme has one, serial number
abbrev pub key_of : KeyForm → List (List ℕ) → List ℕ
key_of form (filter ∷ company ∷ reference ∷ serials) = form.start ++ (with_check_digit (key_digits form.lead company reference) ++ serial_text form.serial serials)
key_of form components = []

-- the text of an EPC's key
pub record IsKeyText (s : Spelling) (epc : Parts) (text : List ℕ) : Type 0 where
  pub form : KeyForm
  pub known : key_form s (kind_of_parts epc) ≡ Some form
  pub written : text ≡ key_of form (components_of epc)

-- the EPC's company prefix has this many digits
abbrev pub HasCompanyDigits : ℕ → Parts → Type 0
HasCompanyDigits digits (Partitioned kind filter company_digits company reference last) = company_digits ≡ digits
HasCompanyDigits digits (General manager object_class serial) = ⊥
