-- What comes next in the octets of a stream.
use Rattle.std.specs.Prelude.{ℕ, ◌<◌, ◌≤◌, List, length, Option, Some, None}
use Rattle.llrp_tree.specs.declared.TheConstants.{MAX_LIMIT}
use Rattle.llrp_stream.specs.Cuts.{Breaks, IsPartial, length_field}
use Rattle.llrp_stream.specs.Calls.Lengths.{IsLength}
use Rattle.llrp_listing.specs.declared.outcome.ToolErr.{ToolErr}
use Rattle.llrp_listing.specs.declared.outcome.ToolErr.TheVariants.{Broken, Strange}
use Rattle.llrp_ask.specs.declared.next.Next.{Next}
use Rattle.llrp_ask.specs.declared.next.Next.TheVariants.{Partial, Frame, Stop}

-- why no frame follows in these octets
abbrev pub MayStop : Option ToolErr → List ℕ → Type 0
MayStop None rest = IsPartial rest
MayStop (Some Broken) rest = Breaks rest
MayStop (Some Strange) rest = MAX_LIMIT < length_field rest
MayStop (Some _) rest = ⊥

-- what comes next in these octets
abbrev pub IsNextIn : List ℕ → Next → Type 0
IsNextIn octets Partial = IsPartial octets
IsNextIn octets (Frame count) = IsLength octets count × (count ≤ length octets)
IsNextIn octets (Stop error) = MayStop (Some error) octets
