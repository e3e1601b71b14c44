use Rattle.std.proofs.Common.{arith, sym}
use Rattle.tag_uri.proofs.RowDigits.{no_row-over, no_row-none, no_row-some}
use Rattle.tag_uri.proofs.rules.is_no_row.Goals as goal

pub returns-then-company_digits-gt12 : goal.returns-then-company_digits-gt12
returns-then-company_digits-gt12 g c = no_row-over g.S.Scheme.layout c.args.company_digits c.args.reference_digits g.met.S.Scheme.sound c.if-company_digits-gt12.true

pub returns-in-Some : goal.returns-in-Some
returns-in-Some g c = no_row-some g.S.Scheme.layout c.args.company_digits c.args.reference_digits c.in-Some.row g.met.S.Scheme.sound (omega arith) (sym c.in-Some.ensures)

pub returns-in-None : goal.returns-in-None
returns-in-None g c = no_row-none g.S.Scheme.layout c.args.company_digits c.args.reference_digits g.met.S.Scheme.sound (omega arith) (sym c.in-None.ensures)
