use Rattle.std.proofs.Common.{◌≤◌, ◌++◌, ◌-◌, length}
use Rattle.llrp_tree.specs.Private.HeadOctets.{unfinished, following, AreDeep, Moves}
use Rattle.llrp_tree.proofs.spelling.move_all.Given as goal

abbrev pub invariant-loop-done : goal.invariant-loop-done
invariant-loop-done l = (l.begun.from ≤ length l.begun.octets)
    × AreDeep 0 l.rows.items
    × (l.done ≤ l.room)
    × Moves (unfinished l.initial.begun.octets l.initial.begun.from l.initial.begun.tail.now ++ following l.initial.rows.items) (unfinished l.begun.octets l.begun.from l.begun.tail.now ++ following l.rows.items) l.initial.buf l.buf l.place l.done

abbrev pub decreases-loop-done : goal.decreases-loop-done
decreases-loop-done l = l.room - l.done
