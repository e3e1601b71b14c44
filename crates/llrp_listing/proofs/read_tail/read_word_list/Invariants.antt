use Rattle.std.proofs.Common.{length}
use Rattle.llrp_listing.proofs.TailWords.{WordsRead}
use Rattle.llrp_listing.proofs.read_tail.read_word_list.Given as goal

abbrev pub invariant-words : goal.invariant-words
invariant-words l = WordsRead l.list l.octets.items l.rest

abbrev pub decreases-words : goal.decreases-words
decreases-words l = length l.rest
