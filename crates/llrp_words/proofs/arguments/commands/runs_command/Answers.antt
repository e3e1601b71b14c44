use Rattle.llrp_words.proofs.arguments.commands.runs_command.Goals as goal

pub returns : goal.returns
returns c =
    let with_first = c.with_command-with_first.ensures _ _ c.streams_command.ensures c.sim_command.ensures.app c.sim_command.ensures.local in
    let with_both = c.with_command-with_both.ensures _ _ with_first c.inventory_command.ensures.app c.inventory_command.ensures.local in
    c.with_command.ensures _ _ with_both c.loop_command.ensures.app c.loop_command.ensures.local
