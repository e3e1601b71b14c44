use Rattle.std.proofs.Common.{take}
use Rattle.llrp_endpoints.specs.Sending.{Adds}
use Rattle.llrp_general.proofs.frames.append_frames.Given as goal

abbrev pub invariant-loop-message : goal.invariant-loop-message
invariant-loop-message l = Adds (take l.message-index l.messages) l.fn.out.items l.out.items
