use Rattle.llrp_ask.proofs.FrameLemmas.{front_is_frame, on_ok}
use Rattle.llrp_operations.proofs.ConversationLemmas.{takes_all, takes_more, takes_none, takes_stop}
use Rattle.llrp_operations.proofs.conversation.Conversation.take_all.Goals as goal

pub frames-init : goal.frames-init
frames-init c = record { so = takes_none c.args.octets.now c.args.self.now c.args.out.now.items }

pub take_frame-requires : goal.take_frame-requires
take_frame-requires c = (front_is_frame c.frames.rest.now c.split_at.result.0.now c.split_at.result.1.now c.in-Frame.count c.in-Frame.ensures.0 c.in-Frame.ensures.1 c.split_at.ensures.front c.split_at.ensures.back c.split_at.ensures.front_len).1

pub frames-preserved : goal.frames-preserved
frames-preserved c =
    let cut = front_is_frame c.frames.rest.now c.split_at.result.0.now c.split_at.result.1.now c.in-Frame.count c.in-Frame.ensures.0 c.in-Frame.ensures.1 c.split_at.ensures.front c.split_at.ensures.back c.split_at.ensures.front_len in
    record {
      so = takes_more c.args.octets.now c.frames.rest.now c.split_at.result.0.now c.split_at.result.1.now c.args.self.now c.frames.self c.take_frame.new.self c.args.out.now.items c.frames.out.items c.take_frame.new.out.items c.frames.invariant.so cut.1 cut.0 c.in_ok-take_frame-in-Frame.ensures;
    }

pub returns-in-Partial : goal.returns-in-Partial
returns-in-Partial c =
    on_ok c.hold.result _ _ (λ held. takes_all c.args.octets.now c.frames.rest.now c.args.self.now c.frames.self c.hold.new.self c.args.out.now.items c.frames.out.items c.frames.invariant.so c.in-Partial.ensures held) c.hold.ensures

pub returns-in-Stop : goal.returns-in-Stop
returns-in-Stop c =
    on_ok c.hold-in-Stop.result _ _ (λ held. takes_stop c.args.octets.now c.frames.rest.now c.in-Stop.error c.args.self.now c.frames.self c.lose.new.self c.hold-in-Stop.new.self c.args.out.now.items c.frames.out.items c.frames.invariant.so c.in-Stop.ensures c.lose.ensures held) c.hold-in-Stop.ensures
