-- The kinds whose names have this length hold the one that has the name.
use Rattle.std.proofs.Common.{ap, sym, ◌∙◌}
use Rattle.llrp_schema.specs.declared.kinds.Kind.TheVariants.{Message}
use Rattle.llrp_schema.specs.Schema.{name_of, whole_message_kinds}
use Rattle.llrp_schema.specs.Calls.Schema.{message_named_in}
use Rattle.llrp_schema.proofs.SchemaLemmas.{find_of_length}
use Rattle.llrp_schema.proofs.by_name.msg_with_name_in.Goals as goal

pub returns-in-Standard : goal.returns-in-Standard
unfolding message_named_in
returns-in-Standard c =
    c.first_message.ensures
    ∙ find_of_length (λ kind. name_of (Message kind)) c.args.name.now c.whole_messages_of_length.result.now whole_message_kinds c.whole_messages_of_length.ensures
    ∙ ap (λ p. message_named_in p c.args.name.now) (sym c.in-Standard.is)
