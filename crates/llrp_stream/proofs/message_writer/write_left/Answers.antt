use Rattle.std.proofs.Common.{◌≡◌, ◌++◌, List, ℕ, take, drop, sym, subst}
use Rattle.std.proofs.lemmas.List.{take-append-drop}
use Rattle.llrp_stream.specs.Device.{Wrote}
use Rattle.llrp_stream.specs.Calls.Writing.{Failed}
use Rattle.llrp_stream.proofs.WritingLemmas.{wrote_more, filled_front, parts_more, fails_after}
use Rattle.llrp_stream.proofs.message_writer.write_left.Goals as goal

pub loop-part-preserved : goal.loop-part-preserved
loop-part-preserved g c =
    let done : List ℕ = c.loop-part.invariant.0 in
    let n = c.fill-count.result in
    let front : take n c.fill-count.new.buf ≡ take n c.loop-part.spelling = filled_front n c.loop-part.spelling _ _ c.fill-count.ensures.count c.fill-count.ensures.filled in (
      done ++ take n c.loop-part.spelling,
      parts_more c.args.spelling.now done c.loop-part.spelling c.fill-count.new.self n c.loop-part.invariant.1 c.fill-count.ensures.left,
      wrote_more (g.W.Sink.log c.args.w.now) (g.W.Sink.log c.loop-part.w) (g.W.Sink.log c.write_all.new.w) done (take n c.loop-part.spelling) c.loop-part.invariant.2
          (subst (λ (x : List ℕ). Wrote (g.W.Sink.log c.loop-part.w) (g.W.Sink.log c.write_all.new.w) x) front c.in_default.ensures),
    )

pub returns-in-Err : goal.returns-in-Err
returns-in-Err g c =
    let done : List ℕ = c.loop-part.invariant.0 in
    let n = c.fill-count.result in
    let front : take n c.fill-count.new.buf ≡ take n c.loop-part.spelling = filled_front n c.loop-part.spelling _ _ c.fill-count.ensures.count c.fill-count.ensures.filled in
    fails_after (g.W.Sink.log c.args.w.now) (g.W.Sink.log c.loop-part.w) (g.W.Sink.log c.write_all.new.w) c.args.spelling.now done c.loop-part.spelling (take n c.loop-part.spelling) (drop n c.loop-part.spelling)
    c.loop-part.invariant.1 (sym (take-append-drop n c.loop-part.spelling)) c.loop-part.invariant.2
    (subst (λ (x : List ℕ). Failed x (g.W.Sink.log c.loop-part.w) (g.W.Sink.log c.write_all.new.w)) front c.in-Err.ensures)
