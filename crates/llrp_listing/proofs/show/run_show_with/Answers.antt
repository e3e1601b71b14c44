use Rattle.std.proofs.Common.{◌+◌, ◌++◌, arith, rules, [], inl, inr}
use Rattle.std.proofs.lemmas.Result.{err_from_is_err_and}
use Rattle.llrp_listing.specs.Copying.{ReadAll}
use Rattle.llrp_listing.specs.Calls.Copying.{Given}
use Rattle.llrp_listing.specs.Private.Lister.{GoesOn, IsBrokenOff}
use Rattle.llrp_listing.proofs.ShowAnswers.{shows_all, shows_broken, shows_none, shows_stopped, fed_finishes, finishes_failures, finishes_held}
use Rattle.llrp_listing.proofs.ShowLemmas.{frames_written, broken_off}
use Rattle.llrp_listing.proofs.show.run_show_with.Goals as goal

pub loop-lister-init : goal.loop-lister-init
loop-lister-init g c =
    record { bytes = []; given = search rules; goes = c.new-lister.ensures (g.W.Sink.log c.args.w.now) }

pub returns-in_err-piece : goal.returns-in_err-piece
returns-in_err-piece g c =
    let p = err_from_is_err_and c.from_residual.result c.from_residual.ensures.1 in
    let bytes = c.loop-lister.invariant.bytes in
    rw (p.1, p.2) (shows_none g.P.ItemPrinter.is_text g.P.ItemPrinter.text_of_end c.args.set c.args.limit _ _ _ _ bytes _ (c.in_err-piece.ensures.next _ _ c.loop-lister.invariant.given)
    (frames_written g.P.ItemPrinter.is_text g.P.ItemPrinter.text_of_end c.requires.one _ _ c.args.set c.args.limit bytes _ _ _ _ c.loop-lister.invariant.goes))

pub returns : goal.returns
returns g c =
    let bytes = c.loop-lister.invariant.bytes in
    let all : ReadAll (g.R.Source.log c.args.r.now) (g.R.Source.log c.next.new.r) bytes = search rules in
    shows_all g.P.ItemPrinter.is_text g.P.ItemPrinter.text_of_end c.args.set c.args.limit _ _ _ _ bytes c.finish-2.result all
    (c.finish-2.ensures c.args.set c.args.limit bytes (g.W.Sink.log c.args.w.now) (inl ([], c.loop-lister.invariant.goes)))

pub finish-requires-clause-some : goal.finish-requires-clause-some
finish-requires-clause-some g c =
    let fed = c.in_ok-goes_on.ensures.feeds c.args.set c.args.limit c.loop-lister.invariant.bytes [] (g.W.Sink.log c.args.w.now) c.loop-lister.invariant.goes in
    finishes_held g.P.ItemPrinter.is_text _ _ _ _ _ _ _ _ _ (fed_finishes g.P.ItemPrinter.is_text g.P.ItemPrinter.text_of_end (g.P.Listener.begins c.feed.new.self.printer) (g.P.Listener.stands c.feed.new.self.printer) c.args.set c.args.limit (c.loop-lister.invariant.bytes ++ c.in-Some.piece.now) _ _ c.feed.new.self.frames c.feed.new.self.lawful _ fed)

pub finish-requires-clause-sink : goal.finish-requires-clause-sink
finish-requires-clause-sink g c =
    let fed = c.in_ok-goes_on.ensures.feeds c.args.set c.args.limit c.loop-lister.invariant.bytes [] (g.W.Sink.log c.args.w.now) c.loop-lister.invariant.goes in
    omega (arith, c.requires.sink, finishes_failures g.P.ItemPrinter.is_text _ _ _ _ _ _ _ _ _ (fed_finishes g.P.ItemPrinter.is_text g.P.ItemPrinter.text_of_end (g.P.Listener.begins c.feed.new.self.printer) (g.P.Listener.stands c.feed.new.self.printer) c.args.set c.args.limit (c.loop-lister.invariant.bytes ++ c.in-Some.piece.now) _ _ c.feed.new.self.frames c.feed.new.self.lawful _ fed))

pub returns-in_err-goes_on : goal.returns-in_err-goes_on
returns-in_err-goes_on g c =
    let p = err_from_is_err_and c.from_residual-in_err-goes_on.result c.from_residual-in_err-goes_on.ensures.1 in
    let bytes = c.loop-lister.invariant.bytes in
    let given : Given (g.R.Source.log c.args.r.now) (g.R.Source.log c.next.new.r) (c.loop-lister.pieces.reads + 1) (bytes ++ c.in-Some.piece.now) = rw c.in-Some.is at (c.in_ok-piece.ensures.next _ _ c.loop-lister.invariant.given) in
    rw (p.1, p.2) (shows_stopped g.P.ItemPrinter.is_text g.P.ItemPrinter.text_of_end c.args.set c.args.limit (c.loop-lister.pieces.reads + 1) _ _ _ _ (bytes ++ c.in-Some.piece.now) _ given.gave (c.in_err-goes_on.ensures.feeds c.args.set c.args.limit bytes [] (g.W.Sink.log c.args.w.now) c.loop-lister.invariant.goes))

pub returns-then-not-goes_on : goal.returns-then-not-goes_on
returns-then-not-goes_on g c =
    let bytes = c.loop-lister.invariant.bytes in
    let now = bytes ++ c.in-Some.piece.now in
    let given : Given (g.R.Source.log c.args.r.now) (g.R.Source.log c.next.new.r) (c.loop-lister.pieces.reads + 1) now = rw c.in-Some.is at (c.in_ok-piece.ensures.next _ _ c.loop-lister.invariant.given) in
    let fed = c.in_ok-goes_on.ensures.feeds c.args.set c.args.limit bytes [] (g.W.Sink.log c.args.w.now) c.loop-lister.invariant.goes in
    let broken : IsBrokenOff g.P.ItemPrinter.is_text (g.P.Listener.stands c.feed.new.self.printer) c.args.set c.args.limit now (g.W.Sink.log c.args.w.now) (g.W.Sink.log c.feed.new.w) c.feed.new.self.frames c.feed.new.self.lawful = rw c.if-not-goes_on.true at fed in
    shows_broken g.P.ItemPrinter.is_text g.P.ItemPrinter.text_of_end c.args.set c.args.limit (c.loop-lister.pieces.reads + 1) _ _ _ _ now c.finish.result given.gave
    (λ more. c.finish.ensures c.args.set c.args.limit (now ++ more) (g.W.Sink.log c.args.w.now) (inr (broken_off g.P.ItemPrinter.is_text (g.P.Listener.stands c.feed.new.self.printer) c.args.set c.args.limit now more _ _ _ _ broken)))

pub loop-lister-preserved : goal.loop-lister-preserved
loop-lister-preserved g c =
    let bytes = c.loop-lister.invariant.bytes in
    let now = bytes ++ c.in-Some.piece.now in
    let fed = c.in_ok-goes_on.ensures.feeds c.args.set c.args.limit bytes [] (g.W.Sink.log c.args.w.now) c.loop-lister.invariant.goes in
    let on : GoesOn g.P.ItemPrinter.is_text (g.P.Listener.begins c.feed.new.self.printer) (g.P.Listener.stands c.feed.new.self.printer) c.args.set c.args.limit now [] (g.W.Sink.log c.args.w.now) (g.W.Sink.log c.feed.new.w) c.feed.new.self.frames c.feed.new.self.lawful = rw c.if-not-goes_on.false at fed in
    record { bytes = now; given = search rules; goes = on }
