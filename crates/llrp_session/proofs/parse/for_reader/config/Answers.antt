use Rattle.std.proofs.Common.{arith}
use Rattle.llrp_session.proofs.OnlyRoSpec.{config_fields}
use Rattle.llrp_session.proofs.parse.for_reader.config.Goals as goal

pub field-requires : goal.field-requires
field-requires c = let one = config_fields c.args.message.now c.lawful.ensures c.requires in omega (arith, one)
