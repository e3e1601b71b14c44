use Rattle.llrp_endpoints.proofs.ScriptReading.{none_may}
use Rattle.llrp_endpoints.proofs.script.lines.next_entry.Goals as goal

pub returns-else-may_follow : goal.returns-else-may_follow
returns-else-may_follow c = none_may c.args.entries.now c.args.line.now c.in_ok-entry.entry c.in_ok-entry.ensures.0 c.in_ok-entry.ensures.1 (λ may. let t = c.if-may_follow.ensures.1 may in cc)
