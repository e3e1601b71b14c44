use Rattle.llrp_ask.proofs.FrameLemmas.{on_ok}
use Rattle.llrp_operations.proofs.ConversationLemmas.{sends_said}
use Rattle.llrp_operations.proofs.conversation.Conversation.send.Goals as goal

pub returns : goal.returns
returns c = on_ok c.push_all.result _ _ (λ adds. sends_said c.args.self.now c.target.result c.args.said.now c.args.out.now.items c.push_all.new.out.items c.target.ensures adds) c.push_all.ensures
