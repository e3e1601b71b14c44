use Rattle.llrp.proofs.watch_plan.made_plan.Goals as goal

pub returns-in-Err-Line : goal.returns-in-Err-Line
returns-in-Err-Line c = rw (c.as_slice.ensures, c.in-Ok.ensures, c.in-Err-Line.field-0-is) at c.in-Err-Line.ensures.refused
