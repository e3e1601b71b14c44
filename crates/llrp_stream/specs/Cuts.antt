-- How a stream of bytes is cut into frames by their length fields (LLRP 1.1, section 17).
use Rattle.std.specs.Prelude.{◌≡◌, ℕ, ◌<◌, ◌≤◌, ◌⊎◌, List, [], ◌++◌, length}
use Rattle.std.specs.List.{flat_map, AllByRecursion}
use Rattle.tag_bits.specs.Digits.{digits_of_bytes}
use Rattle.llrp_tree.specs.FirstFault.{number}
use Rattle.llrp_stream.specs.declared.item.End.{End}
use Rattle.llrp_stream.specs.declared.item.End.TheVariants.{Clean, Rest, Broken, Dead}

-- the length in octets that is at bit 16 of a frame
unfoldable pub length_field : List ℕ → ℕ
length_field bytes = number (digits_of_bytes bytes) 16 32

-- a frame: a whole header, and as many octets as its length field says
pub record IsFrame (bytes : List ℕ) : Type 0 where
  pub header : 10 ≤ length bytes
  pub whole : length_field bytes ≡ length bytes

-- less than a frame: no whole length field yet, or fewer octets than it says
abbrev pub IsPartial : List ℕ → Type 0
IsPartial bytes = (length bytes < 6) ⊎ ((10 ≤ length_field bytes) × (length bytes < length_field bytes))

-- no front of a frame: a whole length field that is below a header's length
abbrev pub Breaks : List ℕ → Type 0
Breaks bytes = (6 ≤ length bytes) × (length_field bytes < 10)

-- how the bytes after the last frame end the stream
abbrev pub EndsStream : List ℕ → End → Type 0
EndsStream tail Clean = tail ≡ []
EndsStream tail (Rest n) = (n ≡ length tail) × (0 < n) × IsPartial tail
EndsStream tail Broken = Breaks tail
EndsStream tail Dead = ⊥

-- the lists in a row
abbrev pub joined : List (List ℕ) → List ℕ
joined lists = flat_map (λ list. list) lists

-- the stream is these frames, and bytes that end it so
pub record Cuts (stream : List ℕ) (frames : List (List ℕ)) (end : End) : Type 0 where
  pub tail : List ℕ
  pub whole : stream ≡ joined frames ++ tail
  pub each : AllByRecursion IsFrame frames
  pub ends : EndsStream tail end
