-- What a request is of the command that was found.
use Rattle.std.specs.Prelude.{◌≡◌, ◌<◌, ◌≤◌, ℕ, List, IfSome, Option, Some, Bool, codes}
use Rattle.std.specs.Int.{IsInRange}
use Rattle.clap.specs.Words.{Row, Text}
use Rattle.llrp_words.specs.declared.arguments.TheConstants.{MOST_OCTETS}
use Rattle.llrp_words.specs.declared.arguments.Request.{Request}
use Rattle.llrp_words.specs.declared.arguments.epc_words.EpcWords.{EpcWords}
use Rattle.llrp_words.specs.declared.arguments.Request.TheVariants.{Show, Encode, Epc, Fields, Explain, Network, Help, Usage}
use Rattle.llrp_words.specs.Calls.Asked.{encode_in, show_in}
use Rattle.llrp_words.specs.Calls.Said.{said_encode, said_show}
use Rattle.llrp_words.specs.Calls.Arguments.{all_in, json_in, name_in, hex_in, flag_in, HasNumber, HasOptionalNumber, HasOptionalText, IsBounded, IsFlag, IsNetwork}

-- the flag is this one, if it says what a flag may say
abbrev pub HasFlag : Option Text → Bool → Type 0
HasFlag found hex = (asked : Bool) → IsFlag found asked → hex ≡ asked

-- a limit on the octets of a message
abbrev pub IsLimit : ℕ → Type 0
IsLimit limit = (10 ≤ limit) × (limit ≤ MOST_OCTETS)

-- what texts do not say is a number of digits that company prefixes can have, and a filter value
abbrev pub IsUnsaid : EpcWords → Type 0
IsUnsaid words = IfSome words.company_digits (λ count. IsInRange 6 12 count) × IfSome words.filter (λ value. value < 8)

-- these are the options of epc
abbrev pub IsEpc : Option (Text × List Row) → EpcWords → Type 0
IsEpc found words =
    HasOptionalText (codes "TEXT") found words.text × IsFlag (flag_in (codes "forms") found) words.forms × IsFlag (flag_in (codes "list") found) words.list
    × IsFlag (json_in found) words.json × HasOptionalText (codes "to") found words.to × HasOptionalNumber (codes "prefix-digits") found words.company_digits × HasOptionalNumber (codes "filter") found words.filter × HasOptionalText (codes "prefixes") found words.prefixes
    × HasOptionalText (codes "schemes") found words.schemes

-- the limit of what is requested, where it has one, is such a limit, that of watch one of a client, and what texts do not say is as above
abbrev pub HasLimit : Request → Type 0
HasLimit (Show words) = IsLimit words.limit
HasLimit (Encode words) = IsLimit words.limit
HasLimit (Epc words) = IsUnsaid words
HasLimit (Fields all name) = Unit {0}
HasLimit (Explain hex all json only limit) = IsLimit limit
HasLimit (Network command) = IsBounded command
HasLimit (Help text) = Unit {0}
HasLimit (Usage text) = Unit {0}

-- what is requested is the command found, with its arguments
abbrev pub IsRequest : Option (Text × List Row) → Request → Type 0
IsRequest found (Show words) = (name_in found ≡ Some (codes "show")) × (said_show words ≡ show_in found)
IsRequest found (Encode words) = (name_in found ≡ Some (codes "encode")) × (said_encode words ≡ encode_in found)
IsRequest found (Epc words) = (name_in found ≡ Some (codes "epc")) × IsEpc found words
IsRequest found (Fields all name) = (name_in found ≡ Some (codes "fields")) × HasFlag (all_in found) all × HasOptionalText (codes "NAME") found name
IsRequest found (Explain hex all json only limit) =
    (name_in found ≡ Some (codes "explain")) × HasFlag (hex_in found) hex × HasFlag (all_in found) all × HasFlag (json_in found) json × HasNumber (codes "limit") found limit × HasOptionalNumber (codes "only") found only
IsRequest found (Network command) = IsNetwork found command
IsRequest found _ = ⊥

-- what is requested is a text of help or usage
abbrev pub IsText : Request → Type 0
IsText (Help text) = Unit {0}
IsText (Usage text) = Unit {0}
IsText _ = ⊥
