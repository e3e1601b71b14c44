use Rattle.std.proofs.Common.{◌≡◌, ◌<◌, ◌≤◌, ◌≢◌, ℕ, List}
use Rattle.llrp_stream.specs.Device.{SourceLog}
use Rattle.llrp_endpoints.specs.declared.serving.Phase.TheVariants.{New}
use Rattle.llrp_listing.specs.Calls.Copying.{Given}
use Rattle.llrp_endpoints.specs.Private.EndsStand.{HasRoom, ReaderStands}
use Rattle.llrp_endpoints.specs.RunLoop.{BothEnds}
use Rattle.llrp_endpoints.proofs.ReaderSideLemmas.{ReaderSoFar}
use Rattle.llrp_endpoints.proofs.both_ends.reader_side.ReaderSide.hear.Given as goal

abbrev pub invariant-loop-left : goal.invariant-loop-left
invariant-loop-left g l = record {
  within : l.left ≤ l.count;
  room : HasRoom (g.R.Source.log l.r) l.self.reads;
  no_less : l.fn.self.reads ≤ l.self.reads;
  counted : l.left < l.count → l.fn.self.reads < l.self.reads;
  started : l.self.serving.phase ≢ New;
  idle : l.left ≡ l.count → l.self ≡ l.fn.self;
  so_far : (e : BothEnds) (r0 : SourceLog) (written read : List ℕ) → ReaderStands e written read l.fn.self.serving l.fn.self.said.items → Given r0 (g.R.Source.log l.fn.r) l.fn.self.reads read
      → ReaderSoFar e r0 (g.R.Source.log l.r) written read l.count l.left l.self.reads l.self.serving l.self.said.items;
}

abbrev pub decreases-loop-left : goal.decreases-loop-left
decreases-loop-left g l = l.left
