use Rattle.std.proofs.Common.{◌≡◌, ℕ, ◌-◌, ◌*◌, ◌≤◌, List, length}
use Rattle.llrp_listing.specs.Calls.Copying.{Given}
use Rattle.llrp_listing.specs.declared.devices.TheConstants.{MOST_READS}
use Rattle.llrp_commands.specs.Calls.Digits.{SpellsFront}
use Rattle.llrp_commands.proofs.ExplainRuns.{AtEnd}
use Rattle.llrp_commands.proofs.explain.explain_digits.Given as goal

abbrev pub invariant-pieces : goal.invariant-pieces
invariant-pieces g l = record {
  read : List ℕ;
  octets : List ℕ;
  taken : List ℕ;
  given : Given (g.R.Source.log l.fn.r) (g.R.Source.log l.r) l.pieces.reads read;
  spells : SpellsFront read octets l.digits.half;
  so_far : AtEnd l.explainer l.fn.form l.fn.only l.fn.set l.fn.limit (g.W.Sink.log l.fn.w) (g.W.Sink.log l.w) octets taken;
  room : length read ≤ 4096 * l.pieces.reads;
  sink : (g.W.Sink.log l.w).failures ≡ (g.W.Sink.log l.fn.w).failures;
}

abbrev pub decreases-pieces : goal.decreases-pieces
decreases-pieces g l = MOST_READS - l.pieces.reads
