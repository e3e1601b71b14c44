use Rattle.std.proofs.Common.{◌≡◌, drop}
use Rattle.llrp_operations.specs.Calls.Course.{course_of}
use Rattle.llrp_operations.specs.Calls.Messages.{hear_tags}
use Rattle.llrp_operations.proofs.message.hear_tags.Given as goal

abbrev pub invariant-loop-node : goal.invariant-loop-node
invariant-loop-node l =
    hear_tags l.fn.id l.fn.nodes (course_of l.fn.course l.fn.out.items) ≡ hear_tags l.fn.id (drop l.node-index l.fn.nodes) (course_of l.course l.out.items)
