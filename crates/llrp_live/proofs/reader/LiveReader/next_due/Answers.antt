use Rattle.std.proofs.Common.{ap, ◌∙◌}
use Rattle.llrp_session.specs.ReaderMachine.{Reader}
use Rattle.llrp_session.specs.Calls.Due.{next_due}
use Rattle.llrp_live.proofs.reader.LiveReader.next_due.Goals as goal

pub returns : goal.returns
returns c = λ b before bytes items h. c.next_due.ensures ∙ ap (λ (r : Reader). next_due r) h.reader_is
