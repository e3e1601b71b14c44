use Rattle.std.proofs.Common.{◌≡◌, ◌-◌, List, ℕ}
use Rattle.llrp_listing.specs.Calls.Copying.{Given}
use Rattle.llrp_listing.specs.declared.devices.TheConstants.{MOST_READS}
use Rattle.llrp.proofs.powers.Question.converse.Given as goal

abbrev pub invariant-loop-said : goal.invariant-loop-said
invariant-loop-said g l = ((bytes : List ℕ) × Given (g.R.Source.log l.fn.source) (g.R.Source.log l.source) l.pieces.reads bytes)
    × ((g.W.Sink.log l.sink).failures ≡ (g.W.Sink.log l.fn.sink).failures)

abbrev pub decreases-loop-said : goal.decreases-loop-said
decreases-loop-said g l = MOST_READS - l.pieces.reads
