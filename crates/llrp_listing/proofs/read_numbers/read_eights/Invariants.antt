use Rattle.std.proofs.Common.{length}
use Rattle.llrp_listing.specs.Private.Numeral.{ReadsFront}
use Rattle.llrp_listing.proofs.read_numbers.read_eights.Given as goal

abbrev pub invariant-eights : goal.invariant-eights
invariant-eights l = record { read : ReadsFront l.digits l.rest l.n }

abbrev pub decreases-eights : goal.decreases-eights
decreases-eights l = length l.rest
