use Rattle.llrp_json.proofs.SameItems.{items_same}
use Rattle.llrp_json.proofs.SameLines.{streams_same}
use Rattle.llrp_json.proofs.laws.lines_are_apart.Goals as goal

pub returns-clause-line : goal.returns-clause-line
returns-clause-line c = items_same

pub returns-clause-stream : goal.returns-clause-stream
returns-clause-stream c = streams_same
