use Rattle.llrp_stream.specs.Cuts.{length_field}
use Rattle.llrp_ask.proofs.FrameLemmas.{on_ok}
use Rattle.llrp_operations.proofs.ConversationLemmas.{takes_fault, takes_message}
use Rattle.llrp_operations.proofs.conversation.Conversation.take_frame.Goals as goal

pub decode_frame_in-requires-clause-own_length : goal.decode_frame_in-requires-clause-own_length
unfolding length_field
decode_frame_in-requires-clause-own_length c = c.requires.whole

pub returns-in-Ok : goal.returns-in-Ok
returns-in-Ok c =
    on_ok c.hear.result _ _ (λ took. takes_message c.args.frame.now c.in-Ok.message c.args.self.now c.hear.new.self c.args.out.now.items c.hear.new.out.items c.in-Ok.ensures.0 c.in-Ok.ensures.1 took) c.hear.ensures

pub returns-in-Err-Bad : goal.returns-in-Err-Bad
returns-in-Err-Bad c = takes_fault c.args.frame.now c.in-Err-Bad.field-0-0 c.args.self.now c.args.out.now.items (rw c.in-Err-Bad.field-0-is at c.in-Err-Bad.ensures)
