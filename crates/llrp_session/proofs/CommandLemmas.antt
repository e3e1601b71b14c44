-- Commands that are within the limit.
use Rattle.std.proofs.Common.{◌≡◌, ℕ, ◌+◌, ◌≤◌, false, arith}
use Rattle.std.specs.Prelude.{nat_lt}
use Rattle.std.proofs.lemmas.Bool.Decides.{nat_tests}
use Rattle.llrp_tree.specs.declared.TheConstants.{MAX_LIMIT}
use Rattle.llrp_tree.specs.Lawful.{tree_octets}
use Rattle.llrp_session.specs.RoSpec.{rospec_of}
use Rattle.llrp_session.specs.Contents.{Command, Add, Delete, Start, Stop, Enable, Disable, GetRospecs, SetKeepalive, GetReport, Close}
use Rattle.llrp_session.specs.Calls.LawfulWords.{AddsRoSpec}
use Rattle.llrp_session.specs.Private.LawfulWords.{FitsMessage}
use Rattle.llrp_session.specs.ClientMachine.{is_over_limit}

within_limit : (limit octets : ℕ) → limit ≤ MAX_LIMIT → nat_lt limit (10 + octets) ≡ false → 10 + octets ≤ MAX_LIMIT
within_limit limit octets le within = grind (arith, nat_tests)

-- a command that is not over the limit has a message
pub fits_within : (limit : ℕ) (k : Command) → limit ≤ MAX_LIMIT → AddsRoSpec k → is_over_limit limit k ≡ false → FitsMessage k
unfolding rospec_of
fits_within limit (Add spec) le adds within = (adds, within_limit limit (tree_octets spec) le within)
fits_within limit (Delete id) le adds within = tt
fits_within limit (Start id) le adds within = tt
fits_within limit (Stop id) le adds within = tt
fits_within limit (Enable id) le adds within = tt
fits_within limit (Disable id) le adds within = tt
fits_within limit GetRospecs le adds within = tt
fits_within limit (SetKeepalive ms) le adds within = tt
fits_within limit GetReport le adds within = tt
fits_within limit Close le adds within = tt
