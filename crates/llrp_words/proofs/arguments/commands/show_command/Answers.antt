use Rattle.llrp_words.proofs.arguments.commands.show_command.Goals as goal

pub returns-clause-app : goal.returns-clause-app
returns-clause-app c = c.command.ensures.app
