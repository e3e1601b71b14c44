use Rattle.std.proofs.Common.{rules}
use Rattle.llrp_schema.proofs.tables.groups.Goals as goal

pub returns : goal.returns
unfolding Rattle.llrp_schema.specs.Schema.groups_of
returns c = search rules
