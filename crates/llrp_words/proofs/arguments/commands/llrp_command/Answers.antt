use Rattle.llrp_words.specs.Calls.Arguments.{llrp_app}
use Rattle.llrp_words.proofs.arguments.commands.llrp_command.Goals as goal

pub returns : goal.returns
unfolding llrp_app
returns c =
    let with_first = c.with_command-with_first.ensures _ _ c.runs_command.ensures c.watch_command.ensures.app c.watch_command.ensures.local in
    let with_both = c.with_command-with_both.ensures _ _ with_first c.stop_command.ensures.app c.stop_command.ensures.local in
    let with_ask = c.with_command-with_ask.ensures _ _ with_both c.ask_command.ensures.app c.ask_command.ensures.local in
    c.with_command.ensures _ _ with_ask c.access_command.ensures.app c.access_command.ensures.local
