use Rattle.llrp_json_read.proofs.PrintedLines.{ended_line}
use Rattle.llrp_json_read.proofs.printed.is_line.Goals as goal

pub returns-in-Some : goal.returns-in-Some
returns-in-Some c = ended_line c.args.text.now c.as_slice.result.now c.in-Some.front.now c.args.line.now c.eq.result c.as_slice.ensures c.in-Some.ensures.cases.0 c.in-Some.ensures.cases.1 c.eq.ensures
