use Rattle.std.proofs.Common.{◌≡◌, length}
use Rattle.llrp_ask.specs.Private.Conversations.{TakesSome}
use Rattle.llrp_ask.proofs.conversation.Conversation.take_all.Given as goal

abbrev pub invariant-frames : goal.invariant-frames
invariant-frames g l = record {
  so : TakesSome l.octets l.rest l.fn.self l.self l.fn.out.items l.out.items (g.P.Sink.log l.fn.p) (g.P.Sink.log l.p);
  form : l.self.form ≡ l.fn.self.form;
  sink : (g.P.Sink.log l.p).failures ≡ (g.P.Sink.log l.fn.p).failures;
}

abbrev pub decreases-frames : goal.decreases-frames
decreases-frames g l = length l.rest
