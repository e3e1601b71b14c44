use Rattle.std.proofs.Common.{rules}
use Rattle.llrp_schema.proofs.tables.number.Goals as goal

pub returns : goal.returns
unfolding Rattle.llrp_schema.specs.Schema.number_of
returns c = search rules
