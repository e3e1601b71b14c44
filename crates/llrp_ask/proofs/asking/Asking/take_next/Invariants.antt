use Rattle.std.proofs.Common.{◌≡◌, length}
use Rattle.llrp_ask.specs.Calls.Asking.{take_steps}
use Rattle.llrp_ask.specs.Calls.Courses.{course_of}
use Rattle.llrp_ask.proofs.asking.Asking.take_next.Given as goal

abbrev pub invariant-loop-step : goal.invariant-loop-step
invariant-loop-step l = take_steps l.self.left.now (course_of l.self l.out.items) ≡ take_steps l.fn.self.left.now (course_of l.fn.self l.fn.out.items)

abbrev pub decreases-loop-step : goal.decreases-loop-step
decreases-loop-step l = length l.self.left.now
