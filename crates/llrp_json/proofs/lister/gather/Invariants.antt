use Rattle.std.proofs.Common.{◌≡◌, ℕ, List, ◌++◌, length}
use Rattle.llrp_schema.specs.declared.kinds.KindSet.{KindSet}
use Rattle.llrp_stream.specs.Calls.Frames.{limit_of}
use Rattle.llrp_json.specs.Private.PieceLines.{GoesOn}
use Rattle.llrp_json.proofs.lister.gather.Given as goal

abbrev pub invariant-parts : goal.invariant-parts
invariant-parts g l = record {
  done : List ℕ;
  parts : l.piece ≡ done ++ l.rest;
  limit : limit_of l.frames ≡ limit_of l.fn.frames;
  goes : (p : KindSet) (limit : ℕ) (bytes sent : List ℕ) → GoesOn g.P.ItemPrinter.is_text (g.P.Listener.begins l.fn.printer) (g.P.Listener.stands l.fn.printer) p limit bytes sent l.fn.frames
      → GoesOn g.P.ItemPrinter.is_text (g.P.Listener.begins l.printer) (g.P.Listener.stands l.printer) p limit (bytes ++ done) sent l.frames;
}

abbrev pub decreases-parts : goal.decreases-parts
decreases-parts g l = length l.rest
