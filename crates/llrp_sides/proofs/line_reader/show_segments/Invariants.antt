use Rattle.std.proofs.Common.{◌≡◌, ◌-◌, List, ℕ, []}
use Rattle.llrp_listing.specs.Calls.Copying.{Given}
use Rattle.llrp_listing.specs.declared.devices.TheConstants.{MOST_READS}
use Rattle.llrp_stream.specs.Device.{Wrote}
use Rattle.llrp_sides.specs.Private.LineSteps.{Stands}
use Rattle.llrp_sides.specs.Private.Sessions.{InStep}
use Rattle.llrp_sides.proofs.line_reader.show_segments.Given as goal

abbrev pub invariant-pieces : goal.invariant-pieces
invariant-pieces g l = record {
  bytes : List ℕ;
  listing : List ℕ;
  given : Given (g.R.Source.log l.fn.r) (g.R.Source.log l.r) l.pieces.reads bytes;
  stands : Stands l.fn.form l.fn.port bytes listing l.lines;
  in_step : InStep l.lines.session;
  empty : l.text ≡ [];
  wrote : Wrote (g.W.Sink.log l.fn.w) (g.W.Sink.log l.w) listing;
  sink : (g.W.Sink.log l.w).failures ≡ (g.W.Sink.log l.fn.w).failures;
}

abbrev pub decreases-pieces : goal.decreases-pieces
decreases-pieces g l = MOST_READS - l.pieces.reads
