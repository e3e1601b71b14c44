use Rattle.std.proofs.Common.{length}
use Rattle.llrp_operations.specs.Private.Conversations.{TakesSome}
use Rattle.llrp_operations.proofs.conversation.Conversation.take_all.Given as goal

abbrev pub invariant-frames : goal.invariant-frames
invariant-frames l = record { so : TakesSome l.octets l.rest l.fn.self l.self l.fn.out.items l.out.items }

abbrev pub decreases-frames : goal.decreases-frames
decreases-frames l = length l.rest
