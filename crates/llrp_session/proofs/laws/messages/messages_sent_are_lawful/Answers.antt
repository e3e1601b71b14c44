use Rattle.llrp_session.proofs.SendableWorlds.{sent_up, sent_down}
use Rattle.llrp_session.proofs.laws.messages.messages_sent_are_lawful.Goals as goal

pub returns-clause-up : goal.returns-clause-up
returns-clause-up c = sent_up

pub returns-clause-down : goal.returns-clause-down
returns-clause-down c = sent_down
