-- What stands first in octets.
use Rattle.std.specs.Prelude.{ℕ, ◌<◌, ◌≤◌, List, length, ⊤}
use Rattle.llrp_stream.specs.Cuts.{Breaks, IsPartial, length_field}
use Rattle.llrp_stream.specs.Calls.Lengths.{IsLength}
use Rattle.llrp_sides.specs.declared.framing.Fit.{Fit}
use Rattle.llrp_sides.specs.declared.framing.Fit.TheVariants.{Fits, Differs, Open}
use Rattle.llrp_sides.specs.declared.framing.Next.{Next}
use Rattle.llrp_sides.specs.declared.framing.Next.TheVariants.{Partial, Frame, Long, Broken}

-- a frame that fits is whole
abbrev pub IsFit : List ℕ → Fit → Type 0
IsFit octets (Fits count) = (0 < count) × (count ≤ length octets)
IsFit octets Differs = ⊤
IsFit octets Open = ⊤

-- the length field says it, where a message has at most limit octets
abbrev pub IsNextIn : (limit : ℕ) → List ℕ → Next → Type 0
IsNextIn limit octets Partial = IsPartial octets
IsNextIn limit octets (Frame count) = IsLength octets count × (count ≤ length octets)
IsNextIn limit octets Long = IsLength octets (length_field octets) × (limit < length_field octets)
IsNextIn limit octets Broken = Breaks octets
