-- What a verdict says.
use Rattle.std.specs.Prelude.{Bool, true, false}
use Rattle.llrp_listing.specs.declared.outcome.Verdict.{Verdict}
use Rattle.llrp_listing.specs.declared.outcome.Verdict.TheVariants.{Lawful, Faulty}

abbrev pub says_lawful : Verdict → Bool
says_lawful Lawful = true
says_lawful Faulty = false
