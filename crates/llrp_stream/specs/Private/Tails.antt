-- What is read of a tail at a time.
use Rattle.std.specs.Prelude.{◌≡◌, ◌≢◌, ℕ, ◌+◌, ◌*◌, ◌-◌, ◌%◌, ◌≤◌, ◌<◌, ◌++◌, Bool, List, length, Option, Some, None, Result, Ok, Err}
use Rattle.tag_bits.specs.Digits.{digits_of_bytes}
use Rattle.std.specs.Str.Lossy.{utf8_valid_len}
use Rattle.llrp_schema.specs.declared.kinds.Tail.{Tail}
use Rattle.llrp_schema.specs.declared.kinds.Tail.TheVariants.{Absent, Words, Text, Bits, Data}
use Rattle.llrp_tree.specs.declared.fault.FrameErr.{FrameErr}
use Rattle.llrp_tree.specs.Lawful.{count_octets, first}
use Rattle.llrp_tree.specs.FirstFault.{tail_length, tail_checks}
use Rattle.llrp_tree.specs.Private.Standing.{FailsFirst}
use Rattle.llrp_stream.specs.declared.engine.tail.TailSize.{TailSize}

-- what is known of a tail before its octets
abbrev pub CountSays : Tail → (fields : List ℕ) → (at stop : ℕ) → (rest : List Bool) → (octets : List ℕ) → Result (Option TailSize) FrameErr → Type 0
CountSays form fields at stop rest octets (Ok None) = (length octets < 2) × (form ≢ Bits) × (form ≢ Data) × (at + 16 ≤ stop)
CountSays form fields at stop rest octets (Ok (Some c)) = (c.count ≡ count_octets form) × (c.count ≤ length octets) × (c.octets ≡ tail_length form fields (stop - at) rest) × (at + 8 * (c.count + c.octets) ≤ stop)
CountSays form fields at stop rest octets (Err e) = FailsFirst (tail_checks form fields at stop rest) e

-- as many of the first octets as are whole words, or whole characters
abbrev pub HasWhole : Tail → List ℕ → ℕ → Type 0
HasWhole Absent octets n = ⊥
HasWhole Words octets n = n ≡ length octets - length octets % 2
HasWhole Text octets n = n ≡ utf8_valid_len octets
HasWhole Bits octets n = n ≡ length octets
HasWhole Data octets n = n ≡ length octets

-- whatever the fields are, of which the first is known where the form counts its bits by it, and whatever comes later, this is read of the count
abbrev pub Counts : Tail → (known at stop : ℕ) → List ℕ → Result (Option TailSize) FrameErr → Type 0
Counts form known at stop octets result = (fields : List ℕ) (later : List Bool) → (form ≡ Bits → known ≡ first fields) → CountSays form fields (8 * at) (8 * stop) (digits_of_bytes octets ++ later) octets result
