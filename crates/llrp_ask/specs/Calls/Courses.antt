-- What a client that asks stands for.
use Rattle.std.specs.Prelude.{ℕ, List}
use Rattle.llrp_ask.specs.declared.asking.Asking.{Asking}
use Rattle.llrp_ask.specs.Calls.Asking.{Course}

-- the course of a client that has sent these octets
abbrev pub course_of : Asking → List ℕ → Course
course_of asking sent = record {
  left = asking.left.now;
  phase = asking.phase;
  head = asking.head;
  closing = asking.closing;
  refused = asking.refused;
  goes_on = asking.goes_on;
  sent = sent;
}
