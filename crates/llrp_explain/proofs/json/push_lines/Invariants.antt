use Rattle.std.proofs.Common.{◌≡◌, ◌++◌, true, false, length}
use Rattle.llrp_explain.specs.Calls.ExplainJson.{lines_json, lines_of}
use Rattle.llrp_explain.proofs.json.push_lines.Given as goal

abbrev pub invariant-lines : goal.invariant-lines
invariant-lines l = l.json.items ++ lines_json (lines_of l.rest) l.place.first l.place.refused ≡ l.fn.json.items ++ lines_json (lines_of l.text) true false

abbrev pub decreases-lines : goal.decreases-lines
decreases-lines l = length l.rest
