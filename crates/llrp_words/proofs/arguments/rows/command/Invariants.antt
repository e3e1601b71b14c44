use Rattle.std.proofs.Common.{◌≡◌, false, take}
use Rattle.clap.specs.Words.{app_of}
use Rattle.clap.specs.declared.builder.command.Command.TheViews.{out-Command}
use Rattle.llrp_words.specs.Private.Rows.{app_of_rows}
use Rattle.llrp_words.proofs.arguments.rows.command.Given as goal

abbrev pub invariant-loop-row : goal.invariant-loop-row
invariant-loop-row l = record { app : app_of l.made ≡ app_of_rows l.name (take l.row-index l.rows); local : (out-Command l.made).has_globals ≡ false }
