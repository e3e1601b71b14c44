use Rattle.std.proofs.Common.{◌≡◌, ◌≤◌, ◌*◌, ◌-◌, List, ℕ, [], length}
use Rattle.llrp_listing.specs.Calls.Copying.{Given}
use Rattle.llrp_listing.specs.declared.devices.TheConstants.{MOST_READS}
use Rattle.llrp_stream.specs.Device.{Wrote}
use Rattle.llrp_json_read.specs.LinesRead.{longest}
use Rattle.llrp_json_read.specs.Private.Lines.{Stands}
use Rattle.llrp_json_read.proofs.run.run_encode_json.Given as goal

abbrev pub invariant-pieces : goal.invariant-pieces
invariant-pieces g l = record {
  text : List ℕ;
  bytes : List ℕ;
  given : Given (g.R.Source.log l.fn.r) (g.R.Source.log l.r) l.pieces.reads text;
  stands : Stands l.fn.set l.fn.limit text l.lines bytes;
  wrote : Wrote (g.W.Sink.log l.fn.w) (g.W.Sink.log l.w) bytes;
  empty : l.frames.items ≡ [];
  number : l.lines.number ≤ 4096 * l.pieces.reads;
  short : length l.lines.line.items ≤ longest l.fn.limit;
  sink : (g.W.Sink.log l.w).failures ≡ (g.W.Sink.log l.fn.w).failures;
}

abbrev pub decreases-pieces : goal.decreases-pieces
decreases-pieces g l = MOST_READS - l.pieces.reads
