use Rattle.std.proofs.Common.{◌≡◌, ◌≤◌, ◌*◌, ◌-◌, ℕ, List}
use Rattle.llrp_listing.specs.Calls.Copying.{Given}
use Rattle.llrp_listing.specs.Private.EncoderState.{Stands}
use Rattle.llrp_listing.specs.declared.devices.TheConstants.{MOST_READS}
use Rattle.llrp_listing.proofs.encode.Encoder.feed_all.Given as goal

abbrev pub invariant-loop-piece : goal.invariant-loop-piece
invariant-loop-piece g l = record {
  text : List ℕ;
  given : Given (g.R.Source.log l.fn.r) (g.R.Source.log l.r) l.pieces.reads text;
  stands : Stands (g.W.Sink.log l.fn.w) (g.W.Sink.log l.w) text l.self;
  none_left : l.self.writer.from ≡ 0;
  number : l.self.number ≤ 4096 * l.pieces.reads;
  set : l.self.guess ≡ l.fn.self.guess;
  limit : l.self.writer.limit ≡ l.fn.self.writer.limit;
  sink : (g.W.Sink.log l.w).failures ≡ (g.W.Sink.log l.fn.w).failures;
}

abbrev pub decreases-loop-piece : goal.decreases-loop-piece
decreases-loop-piece g l = MOST_READS - l.pieces.reads
