use Rattle.std.proofs.Common.{◌≡◌, ◌++◌, drop, true}
use Rattle.llrp_endpoints.specs.MarkedLines.{with_heads}
use Rattle.llrp_endpoints.proofs.marks.push_objects.Given as goal

-- what is appended, and what is to come
abbrev pub invariant-loop-octet : goal.invariant-loop-octet
invariant-loop-octet l = l.text ++ with_heads l.begins l.head (drop l.octet-index l.lines) ≡ l.fn.text ++ with_heads true l.head l.lines
