-- The first fault of a frame: the checks in the order in which a frame is read, and the first of them that fails.
use Rattle.llrp_schema.specs.declared.kinds.KindSet.{KindSet}
use Rattle.llrp_schema.specs.declared.kinds.KindSet.TheVariants.{Profile}
use Rattle.std.specs.Prelude.{◌≡◌, ℕ, zero, suc, ◌+◌, ◌-◌, ◌*◌, ◌/◌, ◌⊎◌, Bool, true, false, ◌&&◌, ◌||◌, if◌then◌else◌, nat_le, ◌==◌, is_some, List, [], ◌∷◌, ◌++◌, length, take, drop, Option, Some, None}
use Rattle.std.specs.Str.{is_utf8}
use Rattle.std.specs.Str.Lossy.{utf8_valid_len}
use Rattle.tag_bits.specs.Digits.{value, digits_of_bytes, field}
use Rattle.llrp_schema.specs.declared.kinds.ParamKind.{ParamKind}
use Rattle.llrp_schema.specs.declared.kinds.Tail.{Tail}
use Rattle.llrp_schema.specs.declared.kinds.Tail.TheVariants.{Absent, Words, Text, Bits, Data}
use Rattle.llrp_schema.specs.Schema.{FieldRule, GroupRule, message_in, tlv_in, tv_in}
use Rattle.llrp_tree.specs.declared.TheConstants.{MAX_DEPTH}
use Rattle.llrp_tree.specs.declared.fault.Reason.{Reason}
use Rattle.llrp_tree.specs.declared.fault.Reason.TheVariants.{Reserved, Version, MessageType, MessageLength, Short, Value, Count, Utf8, ParamType, Misplaced, TooMany, TooDeep, ParamLength, Extra, Missing}
use Rattle.llrp_tree.specs.Tree.{Forest}
use Rattle.llrp_tree.specs.Lawful.{first, count_octets, has_place}
use Rattle.llrp_tree.specs.Spelling.{Head, message, tlv, tv}
use Rattle.llrp_tree.specs.OpenTree.{root_set, Begun, rules, form, groups, set, covers, Due, AField, ATail, Rest, due, in_range, plain_values, takes_more, is_enough, IsOpenTree}
use Rattle.llrp_tree.specs.declared.fault.FrameErr.{FrameErr}
use Rattle.llrp_tree.specs.declared.fault.FrameErr.TheVariants.{Memory, Bad}

-- ---- what is in the digits from a bit on

-- the number of `width` digits after the first `place`
abbrev pub number : List Bool → ℕ → ℕ → ℕ
number rest place width = value (field rest place width)

-- as many octets as are asked for
unfoldable pub octets_at : ℕ → List Bool → List ℕ
octets_at zero rest = []
octets_at (suc n) rest = value (take 8 rest) ∷ octets_at n (drop 8 rest)

-- the octets of a tail after its count, by that count, by the field of the bits that a tail of bits has, or by the bits up to the node's stop
abbrev pub tail_length : Tail → List ℕ → (room : ℕ) → List Bool → ℕ
tail_length Absent fields room rest = 0
tail_length Words fields room rest = 2 * number rest 0 16
tail_length Text fields room rest = number rest 0 16
tail_length Bits fields room rest = (first fields + 7) / 8
tail_length Data fields room rest = room / 8

abbrev pub tail_at : Tail → List ℕ → (room : ℕ) → List Bool → List ℕ
tail_at form fields room rest = octets_at (tail_length form fields room rest) (drop (8 * count_octets form) rest)

abbrev pub tv_kind : KindSet → List Bool → Option ParamKind
tv_kind p rest = tv_in p (number rest 1 7)

abbrev pub tlv_kind : KindSet → List Bool → Option ParamKind
tlv_kind p rest = tlv_in p (number rest 6 10)

abbrev pub tlv_octets : List Bool → ℕ
tlv_octets rest = number rest 16 16

-- the first of the digits, a 0 where there is none
abbrev pub first_digit : List Bool → Bool
first_digit [] = false
first_digit (d ∷ ds) = d

-- ---- checks

-- A test, and the bit and the reason of the fault where it fails.
pub record Check : Type 0 where
  pub holds : Bool
  pub bit : ℕ
  pub reason : Reason

abbrev pub check : Bool → ℕ → Reason → Check
check holds bit reason = record { holds = holds; bit = bit; reason = reason }

abbrev pub first_failing : List Check → Option (ℕ × Reason)
first_failing [] = None
first_failing (c ∷ checks) = if c.holds then first_failing checks else Some (c.bit, c.reason)

-- a field: it ends before the node's stop or there, and its value is in its range
abbrev pub field_checks : FieldRule → (at stop : ℕ) → List Bool → List Check
field_checks r at stop rest =
    check (nat_le (at + r.width) stop) at Short
    ∷ check (in_range r (number rest 0 r.width)) at (if r.reserved then Reserved else Value) ∷ []

-- the bit after a tail
abbrev pub tail_end : Tail → List ℕ → (at stop : ℕ) → List Bool → ℕ
tail_end form fields at stop rest = at + 8 * (count_octets form + tail_length form fields (stop - at) rest)

-- a tail: its count and what it counts end before the node's stop or there, and text is UTF-8 (the fault is at the first octet from which no well-formed sequence begins); data always ends at the stop
abbrev pub tail_checks : Tail → List ℕ → (at stop : ℕ) → List Bool → List Check
tail_checks Absent fields at stop rest = []
tail_checks Words fields at stop rest =
    check (nat_le (at + 16) stop) at Short
    ∷ check (nat_le (tail_end Words fields at stop rest) stop) at Count ∷ []
tail_checks Text fields at stop rest =
    check (nat_le (at + 16) stop) at Short
    ∷ check (nat_le (tail_end Text fields at stop rest) stop) at Count
    ∷ check (is_utf8 (tail_at Text fields (stop - at) rest)) (at + 16 + 8 * utf8_valid_len (tail_at Text fields (stop - at) rest)) Utf8 ∷ []
tail_checks Bits fields at stop rest =
    check (nat_le (tail_end Bits fields at stop rest) stop) (at - 16) Count ∷ []
tail_checks Data fields at stop rest = []

-- a child's kind: it is in the table, a group has it, none of its groups is full, and its level is one that there may be
abbrev pub kind_checks : Option ParamKind → List GroupRule → Forest → (level at type_at : ℕ) → List Check
kind_checks None groups children level at type_at = check false type_at ParamType ∷ []
kind_checks (Some kind) groups children level at type_at =
    check (has_place groups kind) at Misplaced
    ∷ check (takes_more groups kind children) at TooMany
    ∷ check (nat_le level MAX_DEPTH) at TooDeep ∷ []

-- a child with type and value
abbrev pub tv_checks : KindSet → List GroupRule → Forest → (level at : ℕ) → List Bool → List Check
tv_checks p groups children level at rest = kind_checks (tv_kind p rest) groups children level at (at + 1)

-- a child with type, length and value: its head ends before the parent's stop or there, and so does the child
abbrev pub tlv_checks : KindSet → List GroupRule → Forest → (level at stop : ℕ) → List Bool → List Check
tlv_checks p groups children level at stop rest =
    check (nat_le (at + 32) stop) at Short
    ∷ check (number rest 0 6 == 0) at Reserved
    ∷ (kind_checks (tlv_kind p rest) groups children level at (at + 6)
    ++ check (nat_le 4 (tlv_octets rest) && nat_le (at + 8 * tlv_octets rest) stop) (at + 16) ParamLength ∷ [])

-- ---- what is done next in a node

-- a field or the tail is read, the node is closed, octets are left where there is no child, or a child is begun
pub data NextPart : Type 0 where
  ReadField : FieldRule → NextPart
  ReadTail : NextPart
  Close : NextPart
  NoChild : NextPart
  BeginTv : NextPart
  BeginTlv : NextPart

-- a parameter with type and value has no length, and ends after its field
abbrev pub has_ended : Head → Bool → Bool
has_ended (message version kind octets id) at_stop = at_stop
has_ended (tlv kind octets) at_stop = at_stop
has_ended (tv kind) at_stop = true

abbrev pub has_none : List GroupRule → Bool
has_none [] = true
has_none (g ∷ groups) = false

-- a child begins with the digit 1 if it has type and value alone
abbrev pub turn_of : Due → (over has_no_groups digit : Bool) → NextPart
turn_of (AField r) over has_no_groups digit = ReadField r
turn_of ATail over has_no_groups digit = ReadTail
turn_of Rest over has_no_groups digit = if over then Close else (if has_no_groups then NoChild else (if digit then BeginTv else BeginTlv))

unfoldable pub next_part : Begun → ℕ → List Bool → NextPart
next_part b at rest = turn_of (due b) (has_ended b.head (nat_le b.stop at)) (has_none (groups b)) (first_digit rest)

-- the checks of each, in their order
unfoldable pub checks : NextPart → (level : ℕ) → Begun → (at : ℕ) → List Bool → List Check
checks (ReadField r) level b at rest = field_checks r at b.stop rest
checks ReadTail level b at rest = tail_checks (form b) (plain_values (rules b) b.fields) at b.stop rest
checks Close level b at rest = check (is_enough (groups b) b.children) b.stop Missing ∷ []
checks NoChild level b at rest = check false at Extra ∷ []
checks BeginTv level b at rest = tv_checks (set b) (groups b) b.children level at rest
checks BeginTlv level b at rest = tlv_checks (set b) (groups b) b.children level at b.stop rest

-- the first check that fails of those that are made next in the innermost node of an open tree, with the digits after it
unfoldable pub next_fault : List Begun → List Bool → Option (ℕ × Reason)
next_fault [] rest = None
next_fault (b ∷ outer) rest =
    let at = length (covers (b ∷ outer)) in
    first_failing (checks (next_part b at rest) (length (b ∷ outer)) b at rest)

-- ---- the fault of a frame

-- the checks of a header: no reserved bit is set, the version is 1 or 2, the type is in the table, and the length is within the limit
abbrev pub header_checks_in : KindSet → (limit : ℕ) → List Bool → List Check
header_checks_in p limit ds =
    check (number ds 0 3 == 0) 0 Reserved
    ∷ check ((number ds 3 3 == 1) || (number ds 3 3 == 2)) 3 Version
    ∷ check (is_some (message_in p (number ds 6 10))) 6 MessageType
    ∷ check (nat_le (number ds 16 32) limit) 16 MessageLength ∷ []

-- The header passes, and an open tree covers the first digits, whose next checks fail first at the bit, for the reason.
pub record BodyFaultIn (p : KindSet) (ds : List Bool) (limit bit : ℕ) (reason : Reason) : Type 0 where
  pub header : first_failing (header_checks_in p limit ds) ≡ None
  pub tree : List Begun
  pub rest : List Bool
  pub is_open : IsOpenTree tree
  pub root : root_set tree ≡ p
  pub covered : covers tree ++ rest ≡ ds
  pub fails : next_fault tree rest ≡ Some (bit, reason)

-- the bytes of a frame have this first fault, in the header or after it
abbrev pub FirstFaultIn : KindSet → List ℕ → (limit bit : ℕ) → Reason → Type 0
FirstFaultIn p bytes limit bit reason = (first_failing (header_checks_in p limit (digits_of_bytes bytes)) ≡ Some (bit, reason)) ⊎ BodyFaultIn p (digits_of_bytes bytes) limit bit reason

-- the error is the first fault of a frame, or says that memory ran out
abbrev pub IsFirstIn : KindSet → List ℕ → ℕ → FrameErr → Type 0
IsFirstIn p bytes limit Memory = Unit {0}
IsFirstIn p bytes limit (Bad fault) = FirstFaultIn p bytes limit fault.bit fault.reason

-- the same of the profile
abbrev pub IsFirst : List ℕ → ℕ → FrameErr → Type 0
IsFirst bytes limit e = IsFirstIn Profile bytes limit e
