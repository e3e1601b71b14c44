use Rattle.std.proofs.Common.{refl}
use Rattle.llrp_listing.proofs.EncoderSteps.{hand_result, hand_sink}
use Rattle.llrp_listing.proofs.encode.Encoder.hand_on.Goals as goal

pub returns-clause-stands : goal.returns-clause-stands
returns-clause-stands g c = λ start text s. hand_result (g.W.Sink.log c.pass_all.new.w) c.args.self.now _ c.pass_all.result s c.pass_all.ensures.passed c.pass_all.ensures.failed refl c.pass_all.ensures.limit refl refl

pub returns-clause-sink : goal.returns-clause-sink
returns-clause-sink g c =
    let s = c.requires.stands.2 in
    hand_sink (g.W.Sink.log c.args.w.now) (g.W.Sink.log c.pass_all.new.w) c.args.self.now.writer c.pass_all.new.writer c.pass_all.result s.out s.ns s.rests c.pass_all.ensures.passed
