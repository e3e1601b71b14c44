-- A line with a value alone is closed, and another is opened at its level.
use Rattle.std.proofs.Common.{◌≡◌, ℕ, ◌+◌, ◌<◌, ◌≤◌, List, [], ◌∷◌, length, Bool, None, false, ap, ◌∙◌, refl, arith}
use Rattle.std.specs.Prelude.{nat_le, reverse}
use Rattle.std.proofs.lemmas.Bool.{le-leb}
use Rattle.std.proofs.lemmas.List.{length-reverse}
use Rattle.llrp_tree.specs.declared.node.NodeFault.TheVariants.{Value}
use Rattle.llrp_tree.specs.Checks.{first_failed}
use Rattle.llrp_listing.specs.declared.encode.buffer.EncodeBuffer.{EncodeBuffer}
use Rattle.llrp_listing.specs.declared.encode.buffer.Refused.{Refused}
use Rattle.llrp_listing.specs.declared.encode.open_lines.OpenLines.{OpenLines}
use Rattle.llrp_listing.specs.Private.EncodeBuffer.{ClosedSoFar, ClosedTo, ClosesOne, Fails, FailsOne, Holds, inner, row_count, with_value}
use Rattle.llrp_listing.specs.Private.OpenNodes.{IsHeld, OpenNode, entries, with_child}
use Rattle.llrp_listing.proofs.Closings.{closed_none}
use Rattle.llrp_listing.proofs.LineSteps.{closed_line, stops_at}
use Rattle.llrp_listing.proofs.Zips.{zip_length}

pub held_long : (writer : EncodeBuffer) (at : ℕ) (out more : List ℕ) (ns : List OpenNode) → Holds writer at out more ns → length (inner writer.rows) ≡ length ns
held_long writer at out more ns h = zip_length IsHeld (inner writer.rows) ns h.rows

-- where there is no value, each line has a row
pub plain_long : (rows : OpenLines) → rows.ends_in_value ≡ false → length (inner rows) ≡ row_count rows
plain_long rows e = ap (λ (b : Bool). length (with_value b rows.value (reverse rows.items.items))) e ∙ length-reverse rows.items.items

pub plain_rows : (rows : OpenLines) → rows.ends_in_value ≡ false → inner rows ≡ reverse rows.items.items
plain_rows rows e = ap (λ (b : Bool). with_value b rows.value (reverse rows.items.items)) e

-- nothing had to be closed
pub closed_plain : (writer : EncodeBuffer) (at depth : ℕ) (out more : List ℕ) (ns : List OpenNode) → Holds writer at out more ns → length ns ≡ depth → ClosedTo writer at depth out more ns
closed_plain writer at depth out more ns h e = record { left = ns; holds = h; closed = closed_none (entries ns); are = λ le. e }

-- one line was closed
pub closed_one : (old new : EncodeBuffer) (at depth : ℕ) (out more : List ℕ) (ns : List OpenNode) → ClosesOne old new at → 1 ≤ depth → Holds old at out more ns → length ns ≡ depth + 1 → ClosedTo new at depth out more ns
closed_one old new at depth out more [] one least h e = absurd (omega (arith, e))
closed_one old new at depth out more (n ∷ []) one least h e = absurd (omega (arith, e, least))
closed_one old new at depth out more (n ∷ p ∷ outer) one least h e =
    let kind = h.chain.0.0 in
    let is = h.chain.0.1 in
    let r = one out more n p outer kind h is in
    record { left = with_child kind n p ∷ outer; holds = r.1; closed = closed_line kind n p outer is r.0; are = λ le. omega (arith, e) }

-- it can't be closed
pub fails_one : (old : EncodeBuffer) (at depth limit : ℕ) (out more : List ℕ) (ns : List OpenNode) (e : Refused) → FailsOne old at e → 1 ≤ depth → Holds old at out more ns → length ns ≡ depth + 1 → Fails limit depth ns e
fails_one old at depth limit out more ns e bad least h long =
    let lt : depth < length ns = omega (arith, long) in
    let s : ClosedSoFar old at depth out more ns = record { left = ns; holds = h; closed = closed_none (entries ns); are = λ le. le } in
    stops_at old at depth out more ns e limit bad least s lt

-- a value that fits passes its test
pub fits_test : (value most : ℕ) → value ≤ most → None ≡ first_failed ((nat_le value most, Value) ∷ [])
fits_test value most le = rw (le-leb value most le) refl
