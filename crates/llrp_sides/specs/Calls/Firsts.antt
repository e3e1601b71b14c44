-- The flags of a segment, and the sequence number of its first octet.
use Rattle.std.specs.Prelude.{ℕ, Bool, ◌+◌, ◌/◌, ◌%◌, ◌==◌, ◌||◌, if◌then◌else◌, length, nat_lt}
use Rattle.llrp_capture.specs.declared.segment.Segment.{Segment}

-- flags have SYN, of value 2 (RFC 9293, section 3.1)
abbrev pub is_syn : (flags : ℕ) → Bool
is_syn flags = flags / 2 % 2 == 1

-- flags have RST, of value 4
abbrev pub is_rst : (flags : ℕ) → Bool
is_rst flags = flags / 4 % 2 == 1

-- flags say that no octet follows: they have FIN, of value 1, or RST
abbrev pub is_last : (flags : ℕ) → Bool
is_last flags = (flags / 1 % 2 == 1) || is_rst flags

-- SYN takes the number before it (RFC 9293, section 3.4)
abbrev pub first_of : Segment → ℕ
first_of segment = if is_syn segment.flags then (segment.sequence + 1) % 4294967296 else segment.sequence

-- a segment may begin a side: it has SYN, or octets
abbrev pub may_begin : Segment → Bool
may_begin segment = is_syn segment.flags || nat_lt 0 (length segment.octets.items)
