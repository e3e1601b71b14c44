use Rattle.std.proofs.Common.{◌≡◌, ℕ, List, ◌++◌, length}
use Rattle.llrp_schema.specs.declared.kinds.KindSet.{KindSet}
use Rattle.llrp_stream.specs.Device.{SinkLog}
use Rattle.llrp_listing.specs.Private.Lister.{GoesOn}
use Rattle.llrp_listing.proofs.show.Lister.feed.Given as goal

abbrev pub invariant-frames : goal.invariant-frames
invariant-frames g l = record {
  done : List ℕ;
  parts : l.piece ≡ done ++ l.rest;
  sink : (g.W.Sink.log l.w).failures ≡ (g.W.Sink.log l.fn.w).failures;
  goes : (p : KindSet) (limit : ℕ) (bytes gathered : List ℕ) (log : SinkLog) → GoesOn g.P.ItemPrinter.is_text (g.P.Listener.begins l.fn.self.printer) (g.P.Listener.stands l.fn.self.printer) p limit bytes gathered log (g.W.Sink.log l.fn.w) l.fn.self.frames l.fn.self.lawful
      → (left : List ℕ) × GoesOn g.P.ItemPrinter.is_text (g.P.Listener.begins l.self.printer) (g.P.Listener.stands l.self.printer) p limit (bytes ++ done) left log (g.W.Sink.log l.w) l.self.frames l.self.lawful;
}

abbrev pub decreases-frames : goal.decreases-frames
decreases-frames g l = length l.rest
