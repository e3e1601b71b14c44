-- What a parse that succeeds is sure to have found.
use Rattle.std.specs.Prelude.{◌≡◌, ◌⊎◌, ℕ, pos, List, Bool, true, false, Option, Some, None, codes}
use Rattle.std.specs.Str.{bytes_eq}
use Rattle.clap.specs.Words.{Row, Text, first_of, without_minus}
use Rattle.clap.specs.Values.{IsSignedIn}
use Rattle.clap.specs.Walk.{one_of}
use Rattle.llrp_words.specs.declared.arguments.TheConstants.{MOST_OCTETS}
use Rattle.llrp_words.specs.Calls.Arguments.{IsFlag, least_longest}

-- the argument has a word
abbrev pub HasWord : Text → List Row → Type 0
HasWord id rows = (word : Text) × (first_of id rows ≡ Some word)

-- The argument has a word that spells a number in a range, and is read as one without a sign.
pub record HasNumberIn (low high : ℕ) (id : Text) (rows : List Row) : Type 0 where
  pub word : Text
  pub given : first_of id rows ≡ Some word
  pub read : one_of id rows ≡ Some (without_minus word)
  pub spells : IsSignedIn (pos low) (pos high) word

-- the argument has a word that spells a number to 65,535
abbrev pub HasNumberWord : Text → List Row → Type 0
HasNumberWord id rows = HasNumberIn 0 65535 id rows

-- the argument has a word that spells a limit on the octets of a message
abbrev pub HasLimitWord : Text → List Row → Type 0
HasLimitWord id rows = HasNumberIn 10 MOST_OCTETS id rows

-- an option that may be given: it has no word, or one that spells a number in a range
abbrev pub MayHaveNumberIn : ℕ → ℕ → Text → List Row → Type 0
MayHaveNumberIn low high id rows = ((one_of id rows ≡ None) × (first_of id rows ≡ None)) ⊎ HasNumberIn low high id rows

-- a flag says that it was given, or that it was not
abbrev pub HasFlagWord : Text → List Row → Type 0
HasFlagWord id rows = (given : Bool) × IsFlag (one_of id rows) given

-- an option that may be given: it has no word, or one that spells a number to 65,535
abbrev pub MayHaveNumberWord : Text → List Row → Type 0
MayHaveNumberWord id rows = ((one_of id rows ≡ None) × (first_of id rows ≡ None)) ⊎ HasNumberWord id rows

-- the numbers of a plan may be there, and its flags are
abbrev pub HasPlan : List Row → Type 0
HasPlan rows =
    MayHaveNumberWord (codes "every") rows × MayHaveNumberWord (codes "polls") rows × MayHaveNumberWord (codes "reports") rows
    × HasFlagWord (codes "check") rows × HasFlagWord (codes "clean") rows × HasFlagWord (codes "json") rows × HasFlagWord (codes "all") rows

-- an option that may be given: it has no word, or one that spells a number from 1 to 4,294,967,295
abbrev pub MayHaveLongCount : Text → List Row → Type 0
MayHaveLongCount id rows = MayHaveNumberIn 1 4294967295 id rows

-- the numbers of watch may be there, and its flags and its limit are
abbrev pub HasWatch : List Row → Type 0
HasWatch rows =
    MayHaveLongCount (codes "id") rows × MayHaveNumberWord (codes "every") rows × MayHaveNumberWord (codes "keepalive") rows × MayHaveNumberWord (codes "again") rows
    × HasFlagWord (codes "text") rows × HasNumberIn least_longest MOST_OCTETS (codes "limit") rows
    × HasFlagWord (codes "verbose") rows × MayHaveLongCount (codes "for") rows × HasFlagWord (codes "messages") rows × HasFlagWord (codes "keys") rows

-- what watch has is there, and one more number may be
abbrev pub HasStop : List Row → Type 0
HasStop rows = HasWatch rows × MayHaveNumberWord (codes "timeout") rows

-- the file and the flags of ask are there, and its number may be
abbrev pub HasAsk : List Row → Type 0
HasAsk rows = HasWord (codes "FILE") rows × HasFlagWord (codes "json") rows × MayHaveNumberWord (codes "timeout") rows × HasFlagWord (codes "go-on") rows × HasFlagWord (codes "raw") rows

-- the tag and the flags of access are there, and its numbers may be
abbrev pub HasAccess : List Row → Type 0
HasAccess rows =
    HasWord (codes "tag") rows × HasFlagWord (codes "verify") rows × MayHaveNumberWord (codes "antenna") rows × MayHaveNumberWord (codes "settle") rows
    × MayHaveNumberWord (codes "timeout") rows × HasFlagWord (codes "json") rows

-- the flags of epc are there, and its numbers may be
abbrev pub HasEpc : List Row → Type 0
HasEpc rows = HasFlagWord (codes "forms") rows × HasFlagWord (codes "list") rows × HasFlagWord (codes "json") rows × MayHaveNumberIn 6 12 (codes "prefix-digits") rows × MayHaveNumberIn 0 7 (codes "filter") rows

-- the port and the flags of sim are there, and its number may be
abbrev pub HasSim : List Row → Type 0
HasSim rows = HasNumberWord (codes "PORT") rows × HasFlagWord (codes "all") rows × MayHaveNumberWord (codes "clients") rows × HasFlagWord (codes "ready") rows × HasFlagWord (codes "keep") rows

-- the flags and the limit of show, encode and explain
abbrev pub HasStreamWords : List Row → Type 0
HasStreamWords rows = HasFlagWord (codes "hex") rows × HasFlagWord (codes "all") rows × HasLimitWord (codes "limit") rows × HasFlagWord (codes "json") rows

-- an option that may be given: it has no word, or one that spells the id of a message
abbrev pub MayHaveId : Text → List Row → Type 0
MayHaveId id rows = MayHaveNumberIn 0 4294967295 id rows

-- those of explain, whose id may be there
abbrev pub HasExplain : List Row → Type 0
HasExplain rows = HasStreamWords rows × MayHaveId (codes "only") rows

-- the flags of show and encode are there
abbrev pub HasEncode : List Row → Type 0
HasEncode rows = HasStreamWords rows × HasFlagWord (codes "keys") rows

abbrev pub HasShow : List Row → Type 0
HasShow rows = HasStreamWords rows × HasFlagWord (codes "keys") rows × HasFlagWord (codes "segments") rows

-- the flag of fields is there
abbrev pub HasFields : List Row → Type 0
HasFields rows = HasFlagWord (codes "all") rows

-- the host, the port, the plan and the flags of inventory are there, and its number may be
abbrev pub HasInventory : List Row → Type 0
HasInventory rows =
    HasWord (codes "HOST") rows × HasNumberWord (codes "PORT") rows × HasPlan rows × MayHaveNumberWord (codes "timeout") rows
    × HasNumberIn least_longest MOST_OCTETS (codes "limit") rows × HasFlagWord (codes "verbose") rows × HasFlagWord (codes "keys") rows

-- one claim where a test holds, and else another
abbrev pub When : Bool → Type 0 → Type 0 → Type 0
When true holds else_holds = holds
When false holds else_holds = else_holds

-- what a command of this name needs that the program runs itself; no other name is one
abbrev pub IsNetworkParse : Text → List Row → Type 0
IsNetworkParse name rows =
    When (bytes_eq name (codes "sim")) (HasSim rows)
    (When (bytes_eq name (codes "watch")) (HasWord (codes "HOST") rows × HasWatch rows)
    (When (bytes_eq name (codes "stop")) (HasWord (codes "HOST") rows × HasStop rows)
    (When (bytes_eq name (codes "ask")) (HasWord (codes "HOST") rows × HasAsk rows)
    (When (bytes_eq name (codes "access")) (HasWord (codes "HOST") rows × HasAccess rows)
    (When (bytes_eq name (codes "loop")) (HasPlan rows) (When (bytes_eq name (codes "inventory")) (HasInventory rows) ⊥))))))

-- what a command of this name needs
abbrev pub IsParse : Text → List Row → Type 0
IsParse name rows =
    When (bytes_eq name (codes "epc")) (HasEpc rows)
    (When (bytes_eq name (codes "show")) (HasShow rows)
    (When (bytes_eq name (codes "encode")) (HasEncode rows)
    (When (bytes_eq name (codes "fields")) (HasFields rows) (When (bytes_eq name (codes "explain")) (HasExplain rows) (IsNetworkParse name rows)))))

-- a command was found, with what it needs
abbrev pub IsFound : Option (Text × List Row) → Type 0
IsFound None = ⊥
IsFound (Some p) = IsParse p.0 p.1
