use Rattle.llrp_schema.specs.Calls.Schema.{group_rule}
use Rattle.llrp_tree.proofs.ReadingLemmas.{full_is}
use Rattle.llrp_tree.proofs.decode.groups.is_full.Goals as goal

pub returns-in-Some : goal.returns-in-Some
returns-in-Some c = full_is c.args.group.now.most c.in-Some.most c.members.result (group_rule c.args.group.now) c.args.nodes.now c.in-Some.is c.members.ensures.value
