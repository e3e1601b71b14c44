-- What the steps of a side do to it.
use Rattle.std.specs.Prelude.{◌≡◌, ℕ, ◌+◌, List, length, drop, max, Option}
use Rattle.llrp_capture.specs.declared.reassembly.Reassembly.{Reassembly}
use Rattle.llrp_capture.specs.Calls.Pieces.{octet_in, at_place, or_else}
use Rattle.llrp_capture.specs.Private.Windows.{Leads}

-- what waits first is handed on
pub record HandsOn (old : Reassembly) (more : List ℕ) (new : Reassembly) : Type 0 where
  pub leads : Leads old.waiting.items more
  pub here : new.here ≡ old.here + length more
  pub waiting : new.waiting.items ≡ drop (length more) old.waiting.items

-- a part is put among what waits, and what waits first is handed on
pub record TakesPart (ahead : ℕ) (octets : List ℕ) (old : Reassembly) (more : List ℕ) (new : Reassembly) : Type 0 where
  pub covered : List (Option ℕ)
  pub places : (k : ℕ) → at_place covered k ≡ or_else (at_place old.waiting.items k) (octet_in (record { place = ahead; octets = octets }) k)
  pub size : length covered ≡ max (length old.waiting.items) (ahead + length octets)
  pub leads : Leads covered more
  pub here : new.here ≡ old.here + length more
  pub waiting : new.waiting.items ≡ drop (length more) covered

-- places are passed, and what waits then first is handed on
pub record Passes (count : ℕ) (old : Reassembly) (more : List ℕ) (new : Reassembly) : Type 0 where
  pub leads : Leads (drop count old.waiting.items) more
  pub here : new.here ≡ old.here + count + length more
  pub waiting : new.waiting.items ≡ drop (length more) (drop count old.waiting.items)
