use Rattle.std.proofs.Common.{◌-◌}
use Rattle.llrp_endpoints.specs.declared.inventory.TheConstants.{MOST_LASTING_READS}
use Rattle.llrp_endpoints.proofs.WatchRuns.{Watches}
use Rattle.llrp_endpoints.proofs.watching.watch.Given as goal

abbrev pub invariant-loop-piece : goal.invariant-loop-piece
invariant-loop-piece g l = Watches (g.R.Source.log l.fn.r) (g.R.Source.log l.r) (g.W.Sink.log l.fn.w) (g.W.Sink.log l.w) (g.V.Watcher.has l.fn.watcher) (g.V.Watcher.has l.watcher) l.pieces.reads l.fn.gathering l.gathering l.out.items l.lines.items

abbrev pub decreases-loop-piece : goal.decreases-loop-piece
decreases-loop-piece g l = MOST_LASTING_READS - l.pieces.reads
