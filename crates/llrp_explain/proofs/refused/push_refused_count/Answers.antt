use Rattle.std.proofs.Common.{sym, ◌∙◌}
use Rattle.std.proofs.lemmas.Result.{on_ok_weaker}
use Rattle.llrp_explain.proofs.RefusedParts.{count_refused, bits_refused, no_count_refused}
use Rattle.llrp_explain.proofs.refused.push_refused_count.Goals as goal

pub returns-then-counts : goal.returns-then-counts
returns-then-counts c = on_ok_weaker c.push_refused.result (λ e fields rest v. count_refused c.args.reason c.args.form c.args.bit c.args.level c.args.count fields rest _ _ c.in-Count.is (sym c.is_counted-counts.ensures ∙ c.if-counts.true) v e) c.push_refused.ensures

pub returns-else-counts : goal.returns-else-counts
returns-else-counts c = λ fields rest v. bits_refused c.args.reason c.args.form c.args.bit c.args.level rest c.args.text.now.items c.in-Count.is (sym c.is_counted-counts.ensures ∙ c.if-counts.false)

pub returns-in_default : goal.returns-in_default
returns-in_default c = λ fields rest v. no_count_refused c.args.reason c.args.form c.args.bit c.args.level rest c.args.text.now.items c.in_default.not-Count
