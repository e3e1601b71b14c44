use Rattle.std.proofs.Common.{ℕ, List, [], ◌-◌}
use Rattle.llrp_listing.specs.Calls.Copying.{Given}
use Rattle.llrp_listing.specs.Private.Lister.{GoesOn}
use Rattle.llrp_listing.specs.declared.devices.TheConstants.{MOST_READS}
use Rattle.llrp_listing.proofs.show.run_show_with.Given as goal

abbrev pub invariant-loop-lister : goal.invariant-loop-lister
invariant-loop-lister g l = record {
  bytes : List ℕ;
  given : Given (g.R.Source.log l.fn.r) (g.R.Source.log l.r) l.pieces.reads bytes;
  goes : GoesOn g.P.ItemPrinter.is_text (g.P.Listener.begins l.lister.printer) (g.P.Listener.stands l.lister.printer) l.fn.set l.limit bytes [] (g.W.Sink.log l.fn.w) (g.W.Sink.log l.w) l.lister.frames l.lister.lawful;
}

abbrev pub decreases-loop-lister : goal.decreases-loop-lister
decreases-loop-lister g l = MOST_READS - l.pieces.reads
