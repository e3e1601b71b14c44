-- What message a line says: its one text of JSON (RFC 8259), as octets of UTF-8.
use Rattle.std.specs.Prelude.{◌≡◌, ◌⊎◌, ◌<◌, ℕ, List, Some, None}
use Rattle.std.specs.Str.{IsUtf8}
use Rattle.json.specs.Json.{Json, document}
use Rattle.llrp_schema.specs.declared.kinds.KindSet.{KindSet}
use Rattle.llrp_tree.specs.Lawful.{message_octets}
use Rattle.llrp_tree.specs.Tree.{MessageTree}
use Rattle.llrp_json_read.specs.declared.refusal.Reason.TheVariants as reason
use Rattle.llrp_json_read.specs.ObjectSays.{SaysMessage}
use Rattle.llrp_json_read.specs.ObjectRefused.{Refused, RefusesMessage, whole}

-- the line is one text of JSON, whose value says a lawful message
abbrev pub SaysLine : KindSet → List ℕ → MessageTree → Type 0
SaysLine p line m = (j : Json) × IsUtf8 line × (document line ≡ Some j) × SaysMessage p j m

-- the line is not one text of JSON, or its value says no lawful message
abbrev pub RefusesLine : KindSet → List ℕ → Refused → Type 0
RefusesLine p line r = ((IsUtf8 line → document line ≡ None) × (r ≡ whole reason.Json)) ⊎ ((j : Json) × IsUtf8 line × (document line ≡ Some j) × RefusesMessage p j r)

-- the line is refused, or the message that it says has more octets than the limit
abbrev pub RefusesLineWithin : KindSet → ℕ → List ℕ → Refused → Type 0
RefusesLineWithin p limit line r = RefusesLine p line r ⊎ ((m : MessageTree) × SaysLine p line m × (limit < message_octets m) × (r ≡ whole reason.OverLimit))
