use Rattle.llrp_session.proofs.LawfulMessages.{reader_sends, client_sends}
use Rattle.llrp_session.proofs.laws.messages.messages_are_lawful.Goals as goal

pub returns-clause-down : goal.returns-clause-down
returns-clause-down c = reader_sends

pub returns-clause-up : goal.returns-clause-up
returns-clause-up c = client_sends
