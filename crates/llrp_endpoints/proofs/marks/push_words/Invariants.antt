use Rattle.std.proofs.Common.{◌≡◌, ◌++◌, take}
use Rattle.llrp_endpoints.specs.MarkedLines.{with_last}
use Rattle.llrp_endpoints.proofs.marks.push_words.Given as goal

-- the lines so far were appended
abbrev pub invariant-loop-octet : goal.invariant-loop-octet
invariant-loop-octet l = l.text ≡ l.fn.text ++ with_last l.word (take l.octet-index l.lines)
