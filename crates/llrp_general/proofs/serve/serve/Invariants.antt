use Rattle.std.proofs.Common.{◌-◌}
use Rattle.llrp_listing.specs.declared.devices.TheConstants.{MOST_READS}
use Rattle.llrp_general.proofs.ServeLemmas.{Serving}
use Rattle.llrp_general.proofs.serve.serve.Given as goal

abbrev pub invariant-loop-piece : goal.invariant-loop-piece
invariant-loop-piece g l = Serving (g.R.Source.log l.fn.r) (g.R.Source.log l.r) (g.W.Sink.log l.fn.w) (g.W.Sink.log l.w) l.pieces.reads (g.O.OtherClients.count l.others) l.fn.server l.server

abbrev pub decreases-loop-piece : goal.decreases-loop-piece
decreases-loop-piece g l = MOST_READS - l.pieces.reads
