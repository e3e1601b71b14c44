use Rattle.llrp_json.specs.JsonLines.{end_json}
use Rattle.llrp_json.proofs.ends.push_broken.Goals as goal

pub returns : goal.returns
unfolding end_json
returns c = c.push_text.ensures
