-- What a line says of a segment: frame.time_epoch, tcp.stream, ip.src, ipv6.src, tcp.srcport, tcp.flags, tcp.seq and tcp.payload, as
-- tshark -T fields prints them.
use Rattle.std.specs.Prelude.{◌≡◌, ◌≢◌, ℕ, ◌<◌, ◌^◌, ◌==◌, ◌&&◌, nat_lt, ⊤, Bool, true, if◌then◌else◌, List, [], ◌∷◌, length, Ok}
use Rattle.std.specs.List.{before_first, after_first}
use Rattle.std.specs.Str.{all_ascii_digits}
use Rattle.std.specs.Str.Parse.{IsNumeral, digits_value, without_leading_plus}
use Rattle.hex.specs.Hex.{decode_of}
use Rattle.llrp_capture.specs.declared.row.Row.{Row}
use Rattle.llrp_capture.specs.declared.segment.Sender.{Sender}
use Rattle.llrp_capture.specs.declared.segment.Sender.TheVariants.{Reader, Client}
use Rattle.llrp_capture.specs.declared.segment.Segment.{Segment}
use Rattle.llrp_capture.specs.declared.segment.SegmentErr.{SegmentErr}
use Rattle.llrp_capture.specs.declared.segment.SegmentErr.TheVariants.{Fields, Time, Stream, Port, Flags, Sequence, Payload, Memory}
use Rattle.llrp_capture.specs.Calls.Rows.{fields_of, IsRow}

-- ---- the fields

-- digits, at least one
abbrev pub is_digits : List ℕ → Bool
is_digits text = nat_lt 0 (length text) && all_ascii_digits text

-- seconds and decimals, with a point between them
abbrev pub is_time : List ℕ → Bool
is_time text = is_digits (before_first (λ b. b == 46) text) && is_digits (after_first (λ b. b == 46) text)

-- the number that a text writes; a plus may stand before it
abbrev pub value_of : (radix : ℕ) → List ℕ → ℕ
value_of radix text = digits_value radix (without_leading_plus text)

-- a number of at most this many bits
abbrev pub IsNumber : (radix bits : ℕ) → List ℕ → Type 0
IsNumber radix bits text = IsNumeral radix (without_leading_plus text) × (value_of radix text < 2 ^ bits)

-- the digits after 0x
abbrev pub after_x : List ℕ → List ℕ
after_x text = after_first (λ b. b == 120) text

abbrev pub IsFlags : List ℕ → Type 0
IsFlags text = (before_first (λ b. b == 120) text ≡ 48 ∷ []) × IsNumber 16 16 (after_x text)

-- what comes from the reader's port is the reader's
abbrev pub sender_of : (port source : ℕ) → Sender
sender_of port source = if source == port then Reader else Client

-- ---- the line

pub record Says (port : ℕ) (line : List ℕ) (segment : Segment) : Type 0 where
  pub row : Row
  pub fields : IsRow line row
  pub is_time : is_time row.time.now ≡ true
  pub time : segment.time.now ≡ row.time.now
  pub is_stream : IsNumber 10 32 row.stream.now
  pub stream : segment.stream ≡ value_of 10 row.stream.now
  pub is_port : IsNumber 10 16 row.port.now
  pub from : segment.from ≡ sender_of port (value_of 10 row.port.now)
  pub is_flags : IsFlags row.flags.now
  pub flags : segment.flags ≡ value_of 16 (after_x row.flags.now)
  pub is_sequence : IsNumber 10 32 row.sequence.now
  pub sequence : segment.sequence ≡ value_of 10 row.sequence.now
  pub octets : decode_of row.payload.now ≡ Ok segment.octets.items

-- the line has its fields, and this is false of one of them
abbrev pub Lacks : (Row → Type 0) → List ℕ → Type 0
Lacks P line = (row : Row) × IsRow line row × ¬ P row

-- why a line says no segment
abbrev pub Refuses : SegmentErr → List ℕ → Type 0
Refuses Fields line = length (fields_of line) ≢ 8
Refuses Time line = Lacks (λ row. is_time row.time.now ≡ true) line
Refuses Stream line = Lacks (λ row. IsNumber 10 32 row.stream.now) line
Refuses Port line = Lacks (λ row. IsNumber 10 16 row.port.now) line
Refuses Flags line = Lacks (λ row. IsFlags row.flags.now) line
Refuses Sequence line = Lacks (λ row. IsNumber 10 32 row.sequence.now) line
Refuses Payload line = Lacks (λ row. (octets : List ℕ) × (decode_of row.payload.now ≡ Ok octets)) line
Refuses Memory line = ⊤
