-- How much of a frame decides the next checks of an open tree, and so by which octet a fault is known.
use Rattle.std.specs.Prelude.{◌≡◌, ◌≢◌, ℕ, ◌+◌, ◌*◌, ◌<◌, ◌≤◌, ◌⊎◌, Bool, if◌then◌else◌, nat_le, List, [], ◌∷◌, length, drop, Some, None}
use Rattle.tag_bits.specs.Digits.{digits_of_bytes}
use Rattle.llrp_schema.specs.declared.kinds.Tail.{Tail}
use Rattle.llrp_schema.specs.declared.kinds.Tail.TheVariants.{Absent, Words, Text, Bits, Data}
use Rattle.llrp_tree.specs.declared.fault.Reason.{Reason}
use Rattle.llrp_tree.specs.declared.fault.Reason.TheVariants.{Short, Count, Utf8}
use Rattle.llrp_tree.specs.Lawful.{count_octets}
use Rattle.llrp_schema.specs.declared.kinds.KindSet.{KindSet}
use Rattle.llrp_tree.specs.OpenTree.{root_set, Begun, rules, form, plain_values, covers, IsOpenTree}
use Rattle.llrp_tree.specs.FirstFault.{NextPart, ReadField, ReadTail, Close, NoChild, BeginTv, BeginTlv, next_part, tail_end, first_failing, header_checks_in, next_fault, BodyFaultIn}
use Rattle.llrp_tree.specs.Calls.Standing.{IsAt}

-- ---- what decides the next checks

-- the bit up to which a tail is decided: the end of the tail if that is within the stop, else the end of its count if that is, else where the tail begins; data is decided at its end, which is the stop
abbrev pub deciding_tail : Tail → List ℕ → (at stop : ℕ) → List Bool → ℕ
deciding_tail Absent fields at stop rest = at
deciding_tail Words fields at stop rest = if nat_le (at + 16) stop then (if nat_le (tail_end Words fields at stop rest) stop then tail_end Words fields at stop rest else at + 16) else at
deciding_tail Text fields at stop rest = if nat_le (at + 16) stop then (if nat_le (tail_end Text fields at stop rest) stop then tail_end Text fields at stop rest else at + 16) else at
deciding_tail Bits fields at stop rest = if nat_le (tail_end Bits fields at stop rest) stop then tail_end Bits fields at stop rest else at
deciding_tail Data fields at stop rest = tail_end Data fields at stop rest

-- the bit up to which what is read next is decided: a field, a tail or the head of a child ends there; nothing more is needed where a node is closed or has no children
abbrev pub deciding_of : NextPart → Begun → (at : ℕ) → List Bool → ℕ
deciding_of (ReadField r) b at rest = if nat_le (at + r.width) b.stop then at + r.width else at
deciding_of ReadTail b at rest = deciding_tail (form b) (plain_values (rules b) b.fields) at b.stop rest
deciding_of Close b at rest = at
deciding_of NoChild b at rest = at
deciding_of BeginTv b at rest = at + 8
deciding_of BeginTlv b at rest = if nat_le (at + 32) b.stop then at + 32 else at + 8

-- the bit of the frame up to which the next checks of an open tree are decided; `rest` are the digits after the tree
unfoldable pub deciding : List Begun → List Bool → ℕ
deciding [] rest = 0
deciding (b ∷ outer) rest = let at = length (covers (b ∷ outer)) in deciding_of (next_part b at rest) b at rest

-- A check after the header fails first, and the frame's first octets decide it.
pub record BodyFailsIn (p : KindSet) (limit : ℕ) (frame : List ℕ) (octets : ℕ) : Type 0 where
  pub bit : ℕ
  pub reason : Reason
  pub fault : BodyFaultIn p (digits_of_bytes frame) limit bit reason
  pub decided : deciding fault.tree fault.rest ≤ 8 * octets

-- a frame has a fault, and its first octets decide it: the ten of the header for one there
abbrev pub FailsIn : KindSet → (limit : ℕ) → List ℕ → (octets : ℕ) → Type 0
FailsIn p limit frame octets = ((first_failing (header_checks_in p limit (digits_of_bytes frame)) ≢ None) × (10 ≤ octets)) ⊎ BodyFailsIn p limit frame octets

-- ---- the same by the reason of the fault

-- the end of what fails of a tail: the text for Utf8, the count for Count (that of bits is the field before the tail), and nothing of the tail for Short
abbrev pub failing_tail : Reason → Tail → List ℕ → (at stop : ℕ) → List Bool → ℕ
failing_tail Utf8 form fields at stop rest = tail_end form fields at stop rest
failing_tail Count form fields at stop rest = at + 8 * count_octets form
failing_tail reason form fields at stop rest = at

-- the end of the failing part, by what is read next and the reason: nothing of a field for Short, and else the field; the node for Missing; nothing more for Extra; a child's first octet for Short of its head, and else the head
abbrev pub failing_part : NextPart → Reason → Begun → (at : ℕ) → List Bool → ℕ
failing_part (ReadField r) Short b at rest = at
failing_part (ReadField r) reason b at rest = at + r.width
failing_part ReadTail reason b at rest = failing_tail reason (form b) (plain_values (rules b) b.fields) at b.stop rest
failing_part Close reason b at rest = b.stop
failing_part NoChild reason b at rest = at
failing_part BeginTv reason b at rest = at + 8
failing_part BeginTlv Short b at rest = at + 8
failing_part BeginTlv reason b at rest = at + 32

-- the bit of the frame at which the failing part ends, where the next checks of an open tree fail for the reason
unfoldable pub failing_end : Reason → List Begun → List Bool → ℕ
failing_end reason [] rest = 0
failing_end reason (b ∷ outer) rest = let at = length (covers (b ∷ outer)) in failing_part (next_part b at rest) reason b at rest

-- Where the next checks of an open tree fail, they are decided at the end of the failing part.
abbrev pub FaultsAreDecided : Type 0
FaultsAreDecided = (tree : List Begun) (rest : List Bool) (bit : ℕ) (reason : Reason) → IsOpenTree tree → next_fault tree rest ≡ Some (bit, reason) → deciding tree rest ≡ failing_end reason tree rest

-- Where a frame's first octets do not decide the next checks of an open tree, they decide no fault of the frame.
abbrev pub NoneIsDecidedBefore : Type 0
NoneIsDecidedBefore = (p : KindSet) (limit : ℕ) (frame : List ℕ) (octets : ℕ) (tree : List Begun) (at : ℕ)
    → IsAt (digits_of_bytes frame) tree at
    → root_set tree ≡ p
    → first_failing (header_checks_in p limit (digits_of_bytes frame)) ≡ None
    → 8 * octets < deciding tree (drop at (digits_of_bytes frame))
    → FailsIn p limit frame octets → ⊥
