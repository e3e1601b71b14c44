use Rattle.std.proofs.Common.{◌≡◌, ◌++◌, true, take, drop}
use Rattle.llrp_answers.specs.Calls.Answers.{before_form, from_form}
use Rattle.llrp_answers.proofs.file.listed_octets.Given as goal

abbrev pub invariant-loop-i : goal.invariant-loop-i
invariant-loop-i l = record {
  before : before_form true l.text ≡ take l.i l.text ++ before_form l.starts (drop l.i l.text);
  after : from_form true l.text ≡ from_form l.starts (drop l.i l.text);
}
