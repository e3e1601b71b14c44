use Rattle.std.proofs.Common.{◌≡◌, ◌≤◌, ◌<◌, ℕ, List}
use Rattle.llrp_stream.specs.Device.{SourceLog, SinkLog}
use Rattle.llrp_listing.specs.Calls.Copying.{Given}
use Rattle.llrp_endpoints.specs.Private.EndsStand.{HasRoom, ClientStands}
use Rattle.llrp_endpoints.specs.RunLoop.{BothEnds}
use Rattle.llrp_endpoints.proofs.ClientSideLemmas.{ClientSoFar}
use Rattle.llrp_endpoints.proofs.both_ends.client_side.ClientSide.hear.Given as goal

abbrev pub invariant-loop-left : goal.invariant-loop-left
invariant-loop-left g l = record {
  within : l.left ≤ l.count;
  room : HasRoom (g.R.Source.log l.r) l.self.reads;
  report : (g.P.Sink.log l.report).failures ≡ (g.P.Sink.log l.fn.report).failures;
  no_less : l.fn.self.reads ≤ l.self.reads;
  counted : l.left < l.count → l.fn.self.reads < l.self.reads;
  idle : l.left ≡ l.count → l.self ≡ l.fn.self;
  so_far : (e : BothEnds) (s0 : SourceLog) (p0 : SinkLog) (written read : List ℕ) → ClientStands e written read p0 (g.P.Sink.log l.fn.report) l.fn.self.gathering l.fn.self.said.items l.fn.self.lines.items → Given s0 (g.R.Source.log l.fn.r) l.fn.self.reads read
      → ClientSoFar e s0 (g.R.Source.log l.r) p0 (g.P.Sink.log l.report) written read l.count l.left l.self.reads l.self.gathering l.self.said.items l.self.lines.items;
}

abbrev pub decreases-loop-left : goal.decreases-loop-left
decreases-loop-left g l = l.left
