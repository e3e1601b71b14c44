use Rattle.std.proofs.Common.{◌≡◌, ◌++◌, length}
use Rattle.llrp_listing.proofs.PrintingLemmas.{other_words}
use Rattle.llrp_json.proofs.values.push_other_words.Given as goal

abbrev pub invariant-loop-rest : goal.invariant-loop-rest
invariant-loop-rest l = l.text ++ other_words l.rest ≡ l.fn.text ++ other_words l.octets

abbrev pub decreases-loop-rest : goal.decreases-loop-rest
decreases-loop-rest l = length l.rest
