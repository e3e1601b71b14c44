use Rattle.std.proofs.Common.{◌≡◌, length}
use Rattle.llrp.proofs.listening.Listening.say.Given as goal

-- what is read, heard and counted stays
abbrev pub invariant-loop-frame : goal.invariant-loop-frame
invariant-loop-frame g l = record {
  source : l.self.source ≡ l.fn.self.source;
  faults : l.self.faults ≡ l.fn.self.faults;
  stops : l.self.stops ≡ l.fn.self.stops;
}

abbrev pub decreases-loop-frame : goal.decreases-loop-frame
decreases-loop-frame g l = length l.rest
