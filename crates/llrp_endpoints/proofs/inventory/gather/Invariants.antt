use Rattle.std.proofs.Common.{◌-◌}
use Rattle.llrp_endpoints.proofs.InventoryLemmas.{Following}
use Rattle.llrp_endpoints.proofs.inventory.gather.Given as goal

abbrev pub invariant-loop-piece : goal.invariant-loop-piece
invariant-loop-piece g l = Following l.most (g.R.Source.log l.fn.r) (g.R.Source.log l.r) (g.W.Sink.log l.fn.w) (g.W.Sink.log l.w) (g.T.Sink.log l.fn.report) (g.T.Sink.log l.report) l.pieces.reads l.fn.gathering l.gathering l.out.items l.lines.items

abbrev pub decreases-loop-piece : goal.decreases-loop-piece
decreases-loop-piece g l = l.most - l.pieces.reads
