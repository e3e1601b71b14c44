use Rattle.llrp.proofs.PlanLemmas.{plan_read}
use Rattle.llrp.proofs.plan.read_plan.Goals as goal

pub returns-in-Err-Line : goal.returns-in-Err-Line
returns-in-Err-Line g c = (c.in-Ok.text.items, c.in-Ok.ensures.enough, rw (c.asked_set-set.ensures, c.as_slice.ensures.value, c.in-Err-Line.field-0-is) at c.in-Err-Line.ensures.refused)

pub returns-in-Ok-parse_in : goal.returns-in-Ok-parse_in
returns-in-Ok-parse_in g c =
    let found = c.in-Ok-parse_in.ensures.plan in
    plan_read c.args.words (g.R.Source.log c.args.r.now) (g.R.Source.log c.read_rospec.new.r) c.in-Ok.text.items c.as_slice.result.now c.in-Ok-parse_in.plan c.with_options.result found.0 c.asked_set-set.result c.asked_polls-polls.result c.as_slice.ensures.value c.in-Ok.ensures.enough found.1 found.2 found.3 c.asked_set-set.ensures c.asked_polls-polls.ensures c.with_options.ensures
