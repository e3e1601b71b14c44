-- The rows of a command, as its arguments.
use Rattle.std.specs.Prelude.{List, [], ◌∷◌, Some, fold}
use Rattle.clap.specs.Words.{App, Rule, Text, new_app, new_rule, with_rule}
use Rattle.clap.specs.declared.builder.value_parser.ValueParser.TheVariants.{Signed}
use Rattle.llrp_words.specs.declared.arguments.rows.Row.{Row}
use Rattle.llrp_words.specs.declared.arguments.rows.Takes.{Takes}
use Rattle.llrp_words.specs.declared.arguments.rows.Takes.TheVariants as takes
use Rattle.llrp_words.specs.Calls.Arguments.{flag_rule, needed_option_rule, needed_rule, several_rule, text_option_rule, texts_rule}

-- an argument of this name that takes this
abbrev pub rule_by : Text → Takes → Rule
rule_by name takes.Flag = flag_rule name
rule_by name (takes.Text value) = text_option_rule name
rule_by name (takes.NeededText value) = needed_option_rule name
rule_by name (takes.Texts value) = texts_rule name
rule_by name (takes.Number value least most) = record (text_option_rule name) { parser = Some (Signed least most) }
rule_by name (takes.NumberOr value least most default) = record (text_option_rule name) { parser = Some (Signed least most); defaults = default.now ∷ [] }
rule_by name takes.Place = new_rule name
rule_by name takes.NeededPlace = needed_rule name
rule_by name (takes.NeededNumber least most) = record (needed_rule name) { parser = Some (Signed least most) }
rule_by name takes.Places = several_rule name

abbrev pub rule : Row → Rule
rule row = rule_by row.name.now row.takes

-- the command with these rows
abbrev pub app_of_rows : Text → List Row → App
app_of_rows name rows = fold (λ (a : App) (row : Row). with_rule a (rule row)) (new_app name) rows
