use Rattle.std.proofs.Common.{rules}
use Rattle.llrp.proofs.labelled_report.LabelledReport.print.Goals as goal

pub returns-clause-printed : goal.returns-clause-printed
returns-clause-printed g c = (c.in_ok-text.text.items, rw c.are_objects.ensures at c.in_ok-text.ensures, search rules)
