use Rattle.std.proofs.Common.{rules}
use Rattle.llrp_schema.proofs.tables.tail.Goals as goal

pub returns : goal.returns
unfolding Rattle.llrp_schema.specs.Schema.tail_of
returns c = search rules
