use Rattle.std.proofs.Common.{◌≡◌, ◌++◌, true, take, drop}
use Rattle.llrp_ask.specs.Calls.File.{before_own, from_own}
use Rattle.llrp_ask.proofs.file.listed_octets.Given as goal

abbrev pub invariant-loop-i : goal.invariant-loop-i
invariant-loop-i l = record {
  before : before_own l.raw true l.text ≡ take l.i l.text ++ before_own l.raw l.starts (drop l.i l.text);
  after : from_own l.raw true l.text ≡ from_own l.raw l.starts (drop l.i l.text);
}
