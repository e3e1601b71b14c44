-- The words of a refusal: the path of the member, and the reason.
use Rattle.std.specs.Prelude.{ℕ, ◌==◌, ◌&&◌, not, nat_lt, nat_le, if◌then◌else◌, ◌/◌, ◌%◌, Bool, List, [], ◌∷◌, ◌++◌, Option, Some, None, codes, decimal}
use Rattle.std.specs.Char.Escape.{encode_utf16}
use Rattle.std.specs.List.{flat_map}
use Rattle.std.specs.Str.{chars}
use Rattle.hex.specs.Hex.{encode_lower}
use Rattle.llrp_listing.specs.declared.outcome.Refusal.TheVariants as refusal
use Rattle.llrp_listing.specs.Refused.{refusal_name}
use Rattle.llrp_json_read.specs.declared.refusal.Reason.{Reason}
use Rattle.llrp_json_read.specs.declared.refusal.Reason.TheVariants as reason
use Rattle.llrp_json_read.specs.ObjectRefused.{Refused}

-- ---- the path of a member, as parameters[1].parameters[0].AntennaID: 91, 93 and 46 are brackets and a point

-- the object with this place below its parent
abbrev pub object_text : ℕ → List ℕ
object_text place = codes "parameters[" ++ (decimal place ++ 93 ∷ [])

-- the objects from the first below the message down to one, each with a point after it; the places come innermost first
abbrev pub objects_text : List ℕ → List ℕ
objects_text [] = []
objects_text (place ∷ outer) = objects_text outer ++ (object_text place ++ 46 ∷ [])

-- a printable character of ASCII, but for a quote (34) and a backslash (92)
abbrev pub is_plain : ℕ → Bool
is_plain c = nat_le 32 c && (nat_lt c 127 && (not (c == 34) && not (c == 92)))

-- a unit of UTF-16 after \u, in four hexadecimal digits (RFC 8259, section 7)
abbrev pub unit_text : ℕ → List ℕ
unit_text unit = codes "\\u" ++ encode_lower (unit / 256 ∷ unit % 256 ∷ [])

-- a character of a name: plain as it is, or its units
abbrev pub character_text : ℕ → List ℕ
character_text c = if is_plain c then c ∷ [] else flat_map unit_text (encode_utf16 c)

-- a member of the object with these places; without one the object itself, which is nothing for the message
abbrev pub path_to : List ℕ → Option (List ℕ) → List ℕ
path_to places (Some name) = objects_text places ++ flat_map character_text (chars name)
path_to [] None = []
path_to (place ∷ outer) None = objects_text outer ++ object_text place

abbrev pub path_text : Refused → List ℕ
path_text r = path_to r.places r.member

-- ---- the reason

-- the word for a reason, and after it that for the fault inside it
abbrev pub reason_name : Reason → List ℕ
reason_name reason.Line = codes "Line"
reason_name reason.Json = codes "Json"
reason_name reason.Unknown = codes "Unknown"
reason_name reason.Missing = codes "Missing"
reason_name reason.Twice = codes "Twice"
reason_name reason.Mistyped = codes "Mistyped"
reason_name reason.Name = codes "Name"
reason_name reason.Value = codes "Value"
reason_name (reason.Epc fault) = refusal_name (refusal.Epc fault)
reason_name (reason.Node fault) = refusal_name (refusal.Node fault)
reason_name reason.OverLimit = codes "OverLimit"
