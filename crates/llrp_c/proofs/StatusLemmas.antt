-- What holds of every status.
use Rattle.std.proofs.Common.{◌≡◌, ◌≤◌, Some, arith, length, refl}
use Rattle.tag_epc.specs.declared.fault.WordReason.{WordReason}
use Rattle.tag_epc.specs.declared.fault.WordReason.TheVariants as word
use Rattle.tag_uri.specs.declared.fault.UriFault.{UriFault}
use Rattle.tag_uri.specs.declared.fault.UriFault.TheVariants as uri
use Rattle.llrp_tree.specs.declared.node.NodeFault.{NodeFault}
use Rattle.llrp_tree.specs.declared.node.NodeFault.TheVariants as node
use Rattle.llrp_c.specs.declared.status.JsonRule.{JsonRule}
use Rattle.llrp_c.specs.declared.status.JsonRule.TheVariants as json
use Rattle.llrp_c.specs.declared.status.KeyRule.{KeyRule}
use Rattle.llrp_c.specs.declared.status.KeyRule.TheVariants as key
use Rattle.llrp_c.specs.declared.status.Status.{Status}
use Rattle.llrp_c.specs.declared.status.Status.TheVariants.{Done, Faulty, Broken, Room, Length, Utf8, Long, Memory, More, Word, Serial, Code, Uri, Line, Level, Name, Fields, Number, Tail, OverLimit, Node, Key, Json}
use Rattle.tag_epc.specs.Faults.{word_fault_name}
use Rattle.tag_uri.specs.TagText.{fault_name}
use Rattle.llrp_listing.specs.declared.outcome.Refusal.TheVariants as refusal
use Rattle.llrp_listing.specs.Refused.{refusal_name}
use Rattle.llrp_c.specs.Status.{code_of, json_name, key_name, status_name, status_with, statuses}

word_apart : (x : WordReason) → status_with (code_of (Word x)) ≡ Some (Word x)
unfolding status_with statuses
word_apart word.Header = refl
word_apart word.Partition = refl
word_apart word.Prefix = refl
word_apart word.Reference = refl
word_apart word.Zeros = refl

uri_apart : (x : UriFault) → status_with (code_of (Uri x)) ≡ Some (Uri x)
unfolding status_with statuses
uri_apart uri.Start = refl
uri_apart uri.Scheme = refl
uri_apart uri.Parts = refl
uri_apart uri.Digit = refl
uri_apart uri.LeadingZero = refl
uri_apart uri.Filter = refl
uri_apart uri.Digits = refl
uri_apart uri.Range = refl
uri_apart uri.RawForm = refl
uri_apart uri.RawOfLawful = refl

node_apart : (x : NodeFault) → status_with (code_of (Node x)) ≡ Some (Node x)
unfolding status_with statuses
node_apart node.FieldCount = refl
node_apart node.Value = refl
node_apart node.Tail = refl
node_apart node.Misplaced = refl
node_apart node.TooMany = refl
node_apart node.Missing = refl
node_apart node.TooDeep = refl
node_apart node.TooLong = refl

key_apart : (x : KeyRule) → status_with (code_of (Key x)) ≡ Some (Key x)
unfolding status_with statuses
key_apart key.Hex = refl
key_apart key.Prefix = refl
key_apart key.Length = refl
key_apart key.Check = refl
key_apart key.Serial = refl

json_apart : (x : JsonRule) → status_with (code_of (Json x)) ≡ Some (Json x)
unfolding status_with statuses
json_apart json.Json = refl
json_apart json.Unknown = refl
json_apart json.Missing = refl
json_apart json.Twice = refl
json_apart json.Mistyped = refl
json_apart json.Value = refl

-- no two statuses have one code
pub codes_apart : (status : Status) → status_with (code_of status) ≡ Some status
unfolding status_with statuses
codes_apart Done = refl
codes_apart Faulty = refl
codes_apart Broken = refl
codes_apart Room = refl
codes_apart Length = refl
codes_apart Utf8 = refl
codes_apart Long = refl
codes_apart Memory = refl
codes_apart More = refl
codes_apart Serial = refl
codes_apart Code = refl
codes_apart Line = refl
codes_apart Level = refl
codes_apart Name = refl
codes_apart Fields = refl
codes_apart Number = refl
codes_apart Tail = refl
codes_apart OverLimit = refl
codes_apart (Word reason) = word_apart reason
codes_apart (Uri fault) = uri_apart fault
codes_apart (Node fault) = node_apart fault
codes_apart (Key rule) = key_apart rule
codes_apart (Json rule) = json_apart rule

-- ---- the length of a name

word_short : (x : WordReason) → length (word_fault_name x) ≤ 16
word_short word.Header = omega arith
word_short word.Partition = omega arith
word_short word.Prefix = omega arith
word_short word.Reference = omega arith
word_short word.Zeros = omega arith

uri_short : (x : UriFault) → length (fault_name x) ≤ 16
uri_short uri.Start = omega arith
uri_short uri.Scheme = omega arith
uri_short uri.Parts = omega arith
uri_short uri.Digit = omega arith
uri_short uri.LeadingZero = omega arith
uri_short uri.Filter = omega arith
uri_short uri.Digits = omega arith
uri_short uri.Range = omega arith
uri_short uri.RawForm = omega arith
uri_short uri.RawOfLawful = omega arith

node_short : (x : NodeFault) → length (refusal_name (refusal.Node x)) ≤ 16
node_short node.FieldCount = omega arith
node_short node.Value = omega arith
node_short node.Tail = omega arith
node_short node.Misplaced = omega arith
node_short node.TooMany = omega arith
node_short node.Missing = omega arith
node_short node.TooDeep = omega arith
node_short node.TooLong = omega arith

key_short : (x : KeyRule) → length (key_name x) ≤ 16
key_short key.Hex = omega arith
key_short key.Prefix = omega arith
key_short key.Length = omega arith
key_short key.Check = omega arith
key_short key.Serial = omega arith

json_short : (x : JsonRule) → length (json_name x) ≤ 16
json_short json.Json = omega arith
json_short json.Unknown = omega arith
json_short json.Missing = omega arith
json_short json.Twice = omega arith
json_short json.Mistyped = omega arith
json_short json.Value = omega arith

-- no name is longer than 16 octets
pub short_name : (status : Status) → length (status_name status) ≤ 16
short_name Done = omega arith
short_name Faulty = omega arith
short_name Broken = omega arith
short_name Room = omega arith
short_name Length = omega arith
short_name Utf8 = omega arith
short_name Long = omega arith
short_name Memory = omega arith
short_name More = omega arith
short_name Serial = omega arith
short_name Code = omega arith
short_name Line = omega arith
short_name Level = omega arith
short_name Name = omega arith
short_name Fields = omega arith
short_name Number = omega arith
short_name Tail = omega arith
short_name OverLimit = omega arith
short_name (Word reason) = word_short reason
short_name (Uri fault) = uri_short fault
short_name (Node fault) = node_short fault
short_name (Key rule) = key_short rule
short_name (Json rule) = json_short rule
