-- The profile's rows are parts of the standard's; the checker computes each.
use Rattle.std.proofs.Common.{refl}
use Rattle.llrp_schema.specs.declared.kinds.MsgKind.{MsgKind}
use Rattle.llrp_schema.specs.declared.kinds.MsgKind.TheVariants.{SetReaderConfig}
use Rattle.llrp_schema.specs.declared.kinds.ParamKind.{ParamKind}
use Rattle.llrp_schema.specs.declared.kinds.ParamKind.TheVariants.{AntennaId}
use Rattle.llrp_schema.specs.Schema.{message_in, number_of, message_rule, param_rule, param_kinds, rule_of, whole_message_kinds, whole_param_kinds}
use Rattle.llrp_schema.specs.Calls.ProfilePart.{IsPartOfMessage, IsPartOfParameter}

pub message_part : (kind : MsgKind) → IsPartOfMessage kind
unfolding message_in number_of rule_of message_rule param_rule param_kinds whole_message_kinds
message_part SetReaderConfig = refl
message_part _ = refl

pub param_part : (kind : ParamKind) → IsPartOfParameter kind
unfolding number_of rule_of param_rule param_kinds whole_param_kinds
param_part AntennaId = refl
param_part _ = refl
