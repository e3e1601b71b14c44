use Rattle.std.proofs.Common.{◌≡◌, List, ℕ, length}
use Rattle.llrp_tree.specs.Tree.{MessageTree}
use Rattle.llrp_listing.specs.Encoding.{AreSpelled}
use Rattle.llrp_texts.proofs.TextLemmas.{Decodes}
use Rattle.llrp_texts.proofs.texts.decoded.Given as goal

-- of all messages that the octets spell, these are decoded, and the rest spells the others
abbrev pub invariant-loop-rest : goal.invariant-loop-rest
invariant-loop-rest l = (ms : List MessageTree) → AreSpelled l.fn.set l.fn.limit ms l.fn.octets → Decodes l.fn.set l.fn.limit ms l.messages.items l.rest

abbrev pub decreases-loop-rest : goal.decreases-loop-rest
decreases-loop-rest l = length l.rest
