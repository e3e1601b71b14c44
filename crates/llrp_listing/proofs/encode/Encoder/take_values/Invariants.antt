use Rattle.std.proofs.Common.{◌≡◌, ◌≤◌, ◌+◌, ◌++◌, ℕ, List, length}
use Rattle.llrp_stream.specs.Device.{SinkLog}
use Rattle.llrp_listing.specs.Private.EncoderState.{Stands}
use Rattle.llrp_listing.proofs.encode.Encoder.take_values.Given as goal

abbrev pub invariant-lines : goal.invariant-lines
invariant-lines g l = record {
  taken : List ℕ;
  parts : l.text ≡ taken ++ l.rest;
  stands : (start : SinkLog) (text : List ℕ) → Stands start (g.W.Sink.log l.fn.w) text l.fn.self → Stands start (g.W.Sink.log l.w) (text ++ taken) l.self;
  number : l.self.number ≤ l.fn.self.number + length taken;
  set : l.self.guess ≡ l.fn.self.guess;
  limit : l.self.writer.limit ≡ l.fn.self.writer.limit;
  sink : (g.W.Sink.log l.w).failures ≡ (g.W.Sink.log l.fn.w).failures;
}

abbrev pub decreases-lines : goal.decreases-lines
decreases-lines g l = length l.rest
