-- How a call of the library ends: the code that it returns, and the name of that code.
use Rattle.std.specs.Prelude.{ℕ, ◌==◌, List, [], ◌∷◌, Option, find, codes}
use Rattle.tag_epc.specs.declared.fault.WordReason.{WordReason}
use Rattle.tag_epc.specs.declared.fault.WordReason.TheVariants as word
use Rattle.tag_epc.specs.Faults.{word_fault_name}
use Rattle.tag_uri.specs.declared.fault.UriFault.{UriFault}
use Rattle.tag_uri.specs.declared.fault.UriFault.TheVariants as uri
use Rattle.tag_uri.specs.TagText.{fault_name}
use Rattle.llrp_tree.specs.declared.node.NodeFault.{NodeFault}
use Rattle.llrp_tree.specs.declared.node.NodeFault.TheVariants as node
use Rattle.llrp_listing.specs.declared.outcome.Refusal.{Refusal}
use Rattle.llrp_listing.specs.declared.outcome.Refusal.TheVariants as refusal
use Rattle.llrp_listing.specs.Refused.{refusal_name}
use Rattle.llrp_json_read.specs.declared.refusal.Reason.{Reason}
use Rattle.llrp_json_read.specs.declared.refusal.Reason.TheVariants as reason
use Rattle.llrp_c.specs.declared.status.JsonRule.{JsonRule}
use Rattle.llrp_c.specs.declared.status.JsonRule.TheVariants as json
use Rattle.llrp_c.specs.declared.status.KeyRule.{KeyRule}
use Rattle.llrp_c.specs.declared.status.KeyRule.TheVariants as key
use Rattle.llrp_c.specs.declared.status.Status.{Status}
use Rattle.llrp_c.specs.declared.status.Status.TheVariants.{Done, Faulty, Broken, Room, Length, Utf8, Long, Memory, More, Word, Serial, Code, Uri, Line, Level, Name, Fields, Number, Tail, OverLimit, Node, Key, Json}

-- the code of the part of a word that fails
abbrev pub word_code : WordReason → ℕ
word_code word.Header = 16
word_code word.Partition = 17
word_code word.Prefix = 18
word_code word.Reference = 19
word_code word.Zeros = 20

-- the code of the rule that refuses a text
abbrev pub uri_code : UriFault → ℕ
uri_code uri.Start = 32
uri_code uri.Scheme = 33
uri_code uri.Parts = 34
uri_code uri.Digit = 35
uri_code uri.LeadingZero = 36
uri_code uri.Filter = 37
uri_code uri.Digits = 38
uri_code uri.Range = 39
uri_code uri.RawForm = 40
uri_code uri.RawOfLawful = 41

-- the code of the fault of a parameter or a message
abbrev pub node_code : NodeFault → ℕ
node_code node.FieldCount = 64
node_code node.Value = 65
node_code node.Tail = 66
node_code node.Misplaced = 67
node_code node.TooMany = 68
node_code node.Missing = 69
node_code node.TooDeep = 70
node_code node.TooLong = 71

-- the code of a rule that refuses a text in a form, and the rule's name
abbrev pub key_code : KeyRule → ℕ
key_code key.Hex = 80
key_code key.Prefix = 81
key_code key.Length = 82
key_code key.Check = 83
key_code key.Serial = 84

abbrev pub key_name : KeyRule → List ℕ
key_name key.Hex = codes "Hex"
key_name key.Prefix = codes "Prefix"
key_name key.Length = codes "Length"
key_name key.Check = codes "Check"
key_name key.Serial = codes "Serial"

-- the code of a rule that refuses a line of JSON, and the rule's name
abbrev pub json_code : JsonRule → ℕ
json_code json.Json = 96
json_code json.Unknown = 97
json_code json.Missing = 98
json_code json.Twice = 99
json_code json.Mistyped = 100
json_code json.Value = 101

abbrev pub json_name : JsonRule → List ℕ
json_name json.Json = codes "Json"
json_name json.Unknown = codes "Unknown"
json_name json.Missing = codes "Missing"
json_name json.Twice = codes "Twice"
json_name json.Mistyped = codes "Mistyped"
json_name json.Value = codes "Value"

-- the code of a status
abbrev pub code_of : Status → ℕ
code_of Done = 0
code_of Faulty = 1
code_of Broken = 2
code_of Room = 3
code_of Length = 4
code_of Utf8 = 5
code_of Long = 6
code_of Memory = 7
code_of More = 8
code_of (Word reason) = word_code reason
code_of Serial = 21
code_of Code = 22
code_of (Uri fault) = uri_code fault
code_of Line = 48
code_of Level = 49
code_of Name = 50
code_of Fields = 51
code_of Number = 52
code_of Tail = 53
code_of OverLimit = 54
code_of (Node fault) = node_code fault
code_of (Key rule) = key_code rule
code_of (Json rule) = json_code rule

-- the name of a status
abbrev pub status_name : Status → List ℕ
status_name Done = codes "Ok"
status_name Faulty = codes "Faulty"
status_name Broken = codes "Broken"
status_name Room = codes "Room"
status_name Length = codes "Length"
status_name Utf8 = codes "Utf8"
status_name Long = codes "Long"
status_name Memory = codes "Memory"
status_name More = codes "More"
status_name (Word reason) = word_fault_name reason
status_name Serial = codes "Serial"
status_name Code = codes "Code"
status_name (Uri fault) = fault_name fault
status_name Line = codes "Line"
status_name Level = codes "Level"
status_name Name = codes "Name"
status_name Fields = codes "Fields"
status_name Number = codes "Number"
status_name Tail = codes "Tail"
status_name OverLimit = codes "OverLimit"
status_name (Node fault) = refusal_name (refusal.Node fault)
status_name (Key rule) = key_name rule
status_name (Json rule) = json_name rule

-- the status of a refused line
abbrev pub status_of : Refusal → Status
status_of refusal.Line = Line
status_of refusal.Level = Level
status_of refusal.Name = Name
status_of refusal.Fields = Fields
status_of refusal.Number = Number
status_of refusal.Tail = Tail
status_of (refusal.Epc fault) = Uri fault
status_of (refusal.Node fault) = Node fault
status_of refusal.OverLimit = OverLimit

-- the status of a refused line of JSON
abbrev pub status_of_member : Reason → Status
status_of_member reason.Line = Line
status_of_member reason.Json = Json json.Json
status_of_member reason.Unknown = Json json.Unknown
status_of_member reason.Missing = Json json.Missing
status_of_member reason.Twice = Json json.Twice
status_of_member reason.Mistyped = Json json.Mistyped
status_of_member reason.Name = Name
status_of_member reason.Value = Json json.Value
status_of_member (reason.Epc fault) = Uri fault
status_of_member (reason.Node fault) = Node fault
status_of_member reason.OverLimit = OverLimit

-- every status
unfoldable pub statuses : List Status
statuses =
    Done ∷ Faulty ∷ Broken ∷ Room ∷ Length ∷ Utf8 ∷ Long ∷ Memory ∷ More ∷
    Word word.Header ∷ Word word.Partition ∷ Word word.Prefix ∷ Word word.Reference ∷ Word word.Zeros ∷ Serial ∷ Code ∷
    Uri uri.Start ∷ Uri uri.Scheme ∷ Uri uri.Parts ∷ Uri uri.Digit ∷ Uri uri.LeadingZero ∷
    Uri uri.Filter ∷ Uri uri.Digits ∷ Uri uri.Range ∷ Uri uri.RawForm ∷ Uri uri.RawOfLawful ∷
    Line ∷ Level ∷ Name ∷ Fields ∷ Number ∷ Tail ∷ OverLimit ∷
    Node node.FieldCount ∷ Node node.Value ∷ Node node.Tail ∷ Node node.Misplaced ∷
    Node node.TooMany ∷ Node node.Missing ∷ Node node.TooDeep ∷ Node node.TooLong ∷
    Key key.Hex ∷ Key key.Prefix ∷ Key key.Length ∷ Key key.Check ∷ Key key.Serial ∷
    Json json.Json ∷ Json json.Unknown ∷ Json json.Missing ∷ Json json.Twice ∷ Json json.Mistyped ∷ Json json.Value ∷ []

-- the status with a code
unfoldable pub status_with : ℕ → Option Status
status_with code = find (λ status. code_of status == code) statuses
