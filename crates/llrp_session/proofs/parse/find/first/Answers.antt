use Rattle.std.proofs.Common.{sym}
use Rattle.llrp_session.proofs.ReadFields.{kind_of_test}
use Rattle.llrp_session.proofs.parse.find.first.Goals as goal

pub returns-then-is_kind-clause-lawful : goal.returns-then-is_kind-clause-lawful
returns-then-is_kind-clause-lawful c = (kind_of_test c.args.kind c.node-item.result (sym c.if-is_kind.ensures), c.lawful.ensures)
