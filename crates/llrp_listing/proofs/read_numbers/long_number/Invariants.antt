use Rattle.std.proofs.Common.{drop}
use Rattle.llrp_listing.specs.Private.Numeral.{ReadsFront}
use Rattle.llrp_listing.proofs.read_numbers.long_number.Given as goal

abbrev pub invariant-loop-b : goal.invariant-loop-b
invariant-loop-b l = record { read : ReadsFront l.digits (drop l.b-index l.digits) l.n }
