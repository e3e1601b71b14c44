use Rattle.std.proofs.Common.{rules}
use Rattle.llrp_schema.proofs.messages.message.Goals as goal

pub returns-in-Keepalive : goal.returns-in-Keepalive
unfolding Rattle.llrp_schema.specs.Schema.message_rule
returns-in-Keepalive c = search rules
