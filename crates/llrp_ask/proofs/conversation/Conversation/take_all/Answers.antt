use Rattle.std.proofs.Common.{refl, Some, ◌∙◌}
use Rattle.llrp_ask.proofs.FrameLemmas.{front_is_frame, on_ok, takes_all, takes_more, takes_none}
use Rattle.llrp_stream.proofs.WritingLemmas.{same_failures}
use Rattle.llrp_ask.proofs.conversation.Conversation.take_all.Goals as goal

pub frames-init : goal.frames-init
frames-init g c = record { so = takes_none c.args.octets.now c.args.self.now c.args.out.now.items (g.P.Sink.log c.args.p.now); form = refl; sink = refl }

pub take_frame-requires-clause-frame : goal.take_frame-requires-clause-frame
take_frame-requires-clause-frame g c = (front_is_frame c.frames.rest.now c.split_at.result.0.now c.split_at.result.1.now c.in-Frame.count c.in-Frame.ensures.0 c.in-Frame.ensures.1 c.split_at.ensures.front c.split_at.ensures.back c.split_at.ensures.front_len).1

pub frames-preserved : goal.frames-preserved
frames-preserved g c =
    let i = c.frames.invariant in
    let cut = front_is_frame c.frames.rest.now c.split_at.result.0.now c.split_at.result.1.now c.in-Frame.count c.in-Frame.ensures.0 c.in-Frame.ensures.1 c.split_at.ensures.front c.split_at.ensures.back c.split_at.ensures.front_len in
    let took = c.in_ok-take_frame-in-Frame.ensures.took in
    record {
      so = takes_more c.args.octets.now c.frames.rest.now c.split_at.result.0.now c.split_at.result.1.now c.args.self.now c.frames.self c.take_frame.new.self c.args.out.now.items c.frames.out.items c.take_frame.new.out.items _ _ _ i.so i.form cut.1 cut.0 took;
      form = c.in_ok-take_frame-in-Frame.ensures.form ∙ i.form;
      sink = same_failures _ _ took.text took.written ∙ i.sink;
    }

pub returns-in-Stop-clause-took : goal.returns-in-Stop-clause-took
returns-in-Stop-clause-took g c =
    let i = c.frames.invariant in
    on_ok c.hold-in-Stop.result _ _ (λ held. takes_all c.args.octets.now c.frames.rest.now c.args.self.now c.frames.self c.hold-in-Stop.new.self c.fail.new.self c.args.out.now.items c.frames.out.items _ _ (Some c.in-Stop.error) i.so c.in-Stop.ensures (c.fail.ensures c.frames.out.items) held c.hold-in-Stop.ensures.asking c.hold-in-Stop.ensures.lawful) c.hold-in-Stop.ensures.held
