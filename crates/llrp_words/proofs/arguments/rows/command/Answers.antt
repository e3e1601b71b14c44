use Rattle.std.proofs.Common.{◌∙◌, ap, ap₂, sym, Bool}
use Rattle.std.specs.Prelude.{◌||◌}
use Rattle.std.proofs.lemmas.List.Sums.{fold_more}
use Rattle.clap.specs.declared.builder.command.Command.{Command}
use Rattle.clap.specs.declared.builder.command.Command.TheOpen.{Command-F}
use Rattle.clap.specs.Words.{AddsArg, App, with_rule, new_app}
use Rattle.clap.specs.Simple.{app_of_fields}
use Rattle.llrp_words.specs.declared.arguments.rows.Row.{Row}
use Rattle.llrp_words.specs.Private.Rows.{rule}
use Rattle.llrp_words.proofs.arguments.rows.command.Goals as goal

pub loop-row-init : goal.loop-row-init
loop-row-init c = record {
  app = ap app_of_fields c.after_help-made.ensures ∙ ap app_of_fields c.about.ensures ∙ c.new.ensures.app;
  local = ap (λ (f : Command-F Command). f.has_globals) c.after_help-made.ensures ∙ ap (λ (f : Command-F Command). f.has_globals) c.about.ensures ∙ c.new.ensures.local;
}

pub loop-row-preserved : goal.loop-row-preserved
loop-row-preserved c =
    let added : AddsArg c.loop-row.made c.argument.result c.in_ok-made.made = c.in_ok-made.ensures in
    record {
      app = added.shape c.argument.ensures.local ∙ ap₂ with_rule c.loop-row.invariant.app c.argument.ensures.rule
          ∙ sym (fold_more (λ (a : App) (row : Row). with_rule a (rule row)) (new_app c.args.name.now) c.args.rows.now c.loop-row.row-index _ c.loop-row-test.true);
      local = added.globals ∙ ap₂ (λ (a b : Bool). a || b) c.loop-row.invariant.local c.argument.ensures.local;
    }
