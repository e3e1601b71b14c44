use Rattle.std.proofs.Common.{length}
use Rattle.llrp_listing.proofs.TailLemmas.{WordsDone}
use Rattle.llrp_listing.proofs.printing.tails.push_words.Given as goal

abbrev pub invariant-loop-rest : goal.invariant-loop-rest
invariant-loop-rest l = WordsDone l.octets l.rest l.fn.text l.text

abbrev pub decreases-loop-rest : goal.decreases-loop-rest
decreases-loop-rest l = length l.rest
