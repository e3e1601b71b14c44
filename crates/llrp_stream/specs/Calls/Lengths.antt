-- What the length field at the front of a stream says.
use Rattle.std.specs.Prelude.{◌≡◌, ℕ, ◌<◌, ◌≤◌, List, length}
use Rattle.llrp_stream.specs.declared.header.Front.{Front}
use Rattle.llrp_stream.specs.declared.header.Front.TheVariants.{Short, Broken, Frame}
use Rattle.llrp_stream.specs.Cuts.{Breaks, length_field}

-- the length is that which the front says, and at least a header's
pub record IsLength (front : List ℕ) (octets : ℕ) : Type 0 where
  pub six : 6 ≤ length front
  pub octets_are : octets ≡ length_field front
  pub ten : 10 ≤ octets

-- the length field at the front of a stream says this
abbrev pub IsFront : List ℕ → Front → Type 0
IsFront stream Short = length stream < 6
IsFront stream Broken = Breaks stream
IsFront stream (Frame octets) = IsLength stream octets
