use Rattle.std.proofs.Common.{◌∙◌, ap₂, Bool}
use Rattle.std.specs.Prelude.{◌||◌}
use Rattle.std.proofs.lemmas.Result.{IfOk-weaker}
use Rattle.clap.specs.Words.{with_rule}
use Rattle.llrp_words.proofs.arguments.commands.stop_command.Goals as goal

pub returns-clause-app : goal.returns-clause-app
returns-clause-app c =
    IfOk-weaker c.arg.result _ _ (λ made added. added.shape c.argument.ensures.local ∙ ap₂ with_rule c.in_ok-as_watch.ensures.app c.argument.ensures.rule) c.arg.ensures

pub returns-clause-local : goal.returns-clause-local
returns-clause-local c =
    IfOk-weaker c.arg.result _ _ (λ made added. added.globals ∙ ap₂ (λ (a b : Bool). a || b) c.in_ok-as_watch.ensures.local c.argument.ensures.local) c.arg.ensures
