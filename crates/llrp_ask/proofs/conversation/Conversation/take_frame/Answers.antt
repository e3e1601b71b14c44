use Rattle.std.proofs.Common.{refl}
use Rattle.llrp_stream.specs.Cuts.{length_field}
use Rattle.llrp_ask.proofs.FrameLemmas.{takes_message, takes_fault}
use Rattle.llrp_ask.proofs.conversation.Conversation.take_frame.Goals as goal

pub decode_frame_in-requires-clause-own_length : goal.decode_frame_in-requires-clause-own_length
unfolding length_field
decode_frame_in-requires-clause-own_length g c = c.requires.frame.whole

pub returns-in_ok-hear-in-Ok-clause-took : goal.returns-in_ok-hear-in-Ok-clause-took
returns-in_ok-hear-in-Ok-clause-took g c = takes_message c.args.frame.now _ _ _ _ _ _ c.in_ok-verdict.verdict c.in-Ok.message c.requires.frame c.in_ok-verdict.ensures.ok c.in-Ok.ensures.0 c.in-Ok.ensures.1 c.in_ok-hear-in-Ok.ensures c.still_lawful-self.ensures

pub returns-in-Err-Bad-clause-took : goal.returns-in-Err-Bad-clause-took
returns-in-Err-Bad-clause-took g c = takes_fault c.args.frame.now _ _ _ _ _ _ c.in_ok-verdict.verdict c.in-Err-Bad.field-0-0 c.requires.frame c.in_ok-verdict.ensures.ok (rw c.in-Err-Bad.field-0-is at c.in-Err-Bad.ensures) refl c.still_lawful-self.ensures
