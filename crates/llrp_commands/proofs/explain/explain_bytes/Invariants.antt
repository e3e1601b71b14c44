use Rattle.std.proofs.Common.{◌≡◌, ℕ, ◌-◌, ◌*◌, ◌≤◌, List, [], length}
use Rattle.llrp_explain.specs.Calls.Explaining.{ExplainedSoFar}
use Rattle.llrp_listing.specs.Calls.Copying.{Given}
use Rattle.llrp_listing.specs.declared.devices.TheConstants.{MOST_READS}
use Rattle.llrp_stream.specs.Device.{Wrote}
use Rattle.llrp_commands.proofs.explain.explain_bytes.Given as goal

abbrev pub invariant-pieces : goal.invariant-pieces
invariant-pieces g l = record {
  bytes : List ℕ;
  taken : List ℕ;
  given : Given (g.R.Source.log l.fn.r) (g.R.Source.log l.r) l.pieces.reads bytes;
  so_far : ExplainedSoFar l.explainer bytes taken;
  empty : l.explainer.text.items ≡ [];
  wrote : Wrote (g.W.Sink.log l.fn.w) (g.W.Sink.log l.w) taken;
  form : l.explainer.form ≡ l.fn.form;
  only : l.explainer.only ≡ l.fn.only;
  set : l.explainer.set ≡ l.fn.set;
  limit : l.explainer.limit ≡ l.fn.limit;
  room : length bytes ≤ 4096 * l.pieces.reads;
  sink : (g.W.Sink.log l.w).failures ≡ (g.W.Sink.log l.fn.w).failures;
}

abbrev pub decreases-pieces : goal.decreases-pieces
decreases-pieces g l = MOST_READS - l.pieces.reads
