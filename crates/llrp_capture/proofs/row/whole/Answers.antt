use Rattle.llrp_capture.proofs.RowLemmas.{two_fields}
use Rattle.llrp_capture.proofs.row.whole.Goals as goal

pub returns-in-Some : goal.returns-in-Some
returns-in-Some c = two_fields c.args.text.now c.in-Some.field-0.0.now c.in-Some.field-0.1.now c.in-Some.ensures
