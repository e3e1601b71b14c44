use Rattle.llrp_json.proofs.HeldItems.{clean_line, dead_line}
use Rattle.llrp_json.proofs.ends.push_end.Goals as goal

pub returns-in-Clean : goal.returns-in-Clean
returns-in-Clean c = clean_line c.args.end c.args.text.now c.in-Clean.is

pub returns-in-Dead : goal.returns-in-Dead
returns-in-Dead c = dead_line c.args.end c.args.text.now c.in-Dead.is
