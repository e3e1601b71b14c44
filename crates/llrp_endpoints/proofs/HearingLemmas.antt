-- Reading as many bytes as were written.
use Rattle.std.proofs.Common.{◌≡◌, ℕ, ◌+◌, ◌-◌, ◌≤◌, List, [], ◌++◌, length, subst, sym, append_assoc, length-append, arith}
use Rattle.std.proofs.lemmas.List.{append-nil}
use Rattle.llrp_listing.specs.Copying.{WasGiven}
use Rattle.llrp_stream.specs.Device.{SourceLog}
use Rattle.llrp_listing.specs.Calls.Copying.{Given}

-- Of this many bytes these were read after others, and this many are left.
pub record Hearing (r0 r1 : SourceLog) (read bytes : List ℕ) (count left reads1 : ℕ) : Type 0 where
  pub counted : length bytes + left ≡ count
  pub given : Given r0 r1 reads1 (read ++ bytes)

pub was_given : (r0 r1 : SourceLog) (reads : ℕ) (bytes : List ℕ) → Given r0 r1 reads bytes → WasGiven r0 r1 bytes
was_given r0 r1 reads bytes g = (reads, g.few, g.gave)

pub hearing_none : (r0 r1 : SourceLog) (read : List ℕ) (count reads : ℕ) → Given r0 r1 reads read → Hearing r0 r1 read [] count count reads
hearing_none r0 r1 read count reads g = record { counted = omega arith; given = subst (λ (x : List ℕ). Given r0 r1 reads x) (sym (append-nil read)) g }

pub hearing_more : (r0 r1 r2 : SourceLog) (read bytes piece : List ℕ) (count left n reads1 reads2 : ℕ) → Hearing r0 r1 read bytes count left reads1 → Given r0 r2 reads2 ((read ++ bytes) ++ piece)
    → length piece ≡ n → n ≤ left → Hearing r0 r2 read (bytes ++ piece) count (left - n) reads2
hearing_more r0 r1 r2 read bytes piece count left n reads1 reads2 h g is within =
    let counted = h.counted in
    let both = length-append bytes piece in
    record { counted = omega arith; given = subst (λ (x : List ℕ). Given r0 r2 reads2 x) (append_assoc read bytes piece) g }
