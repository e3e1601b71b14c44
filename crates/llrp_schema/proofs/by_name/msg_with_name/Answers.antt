-- The kinds whose names have this length hold the one that has the name.
use Rattle.std.proofs.Common.{◌∙◌}
use Rattle.llrp_schema.specs.declared.kinds.Kind.TheVariants.{Message}
use Rattle.llrp_schema.specs.Schema.{name_of, message_kinds}
use Rattle.llrp_schema.specs.Calls.Schema.{message_named_in}
use Rattle.llrp_schema.proofs.SchemaLemmas.{find_of_length}
use Rattle.llrp_schema.proofs.by_name.msg_with_name.Goals as goal

pub returns : goal.returns
unfolding message_named_in
returns c = c.first_message.ensures ∙ find_of_length (λ kind. name_of (Message kind)) c.args.name.now c.messages_of_length.result.now message_kinds c.messages_of_length.ensures
