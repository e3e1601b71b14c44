use Rattle.llrp_words.proofs.arguments.commands.streams_command.Goals as goal

pub returns : goal.returns
returns c =
    let with_first = c.with_command-with_first.ensures _ _ c.top_command.ensures c.show_command.ensures.app c.show_command.ensures.local in
    let with_both = c.with_command-with_both.ensures _ _ with_first c.encode_command.ensures.app c.encode_command.ensures.local in
    let with_epc = c.with_command-with_epc.ensures _ _ with_both c.epc_command.ensures.app c.epc_command.ensures.local in
    let with_fields = c.with_command-with_fields.ensures _ _ with_epc c.fields_command.ensures.app c.fields_command.ensures.local in
    c.with_command.ensures _ _ with_fields c.explain_command.ensures.app c.explain_command.ensures.local
