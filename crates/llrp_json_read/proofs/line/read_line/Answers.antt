use Rattle.json.specs.Value.{value_view}
use Rattle.llrp_json_read.proofs.LineSteps.{line_said}
use Rattle.llrp_json_read.proofs.line.read_line.Goals as goal

pub returns : goal.returns
returns c = line_said c.args.set c.args.line.now (value_view c.in-Ok.value) c.read_message.result c.in-Ok.ensures.ok.0 c.in-Ok.ensures.ok.1 c.read_message.ensures
