use Rattle.std.proofs.Common.{[], arith}
use Rattle.std.proofs.lemmas.Result.{err_from_is_err_and}
use Rattle.llrp_listing.proofs.ShowAnswers.{fed_finishes, finishes_failures, finishes_held, listed_of, stopped_of}
use Rattle.llrp_listing.proofs.show.list_stream_with.Goals as goal

pub feed-requires-clause-on : goal.feed-requires-clause-on
feed-requires-clause-on g c = (c.args.set, c.args.limit, c.requires.least, c.requires.most, [], [], g.W.Sink.log c.args.w.now, c.new-lister.ensures (g.W.Sink.log c.args.w.now))

pub returns-in_err-_goes_on-clause-err : goal.returns-in_err-_goes_on-clause-err
returns-in_err-_goes_on-clause-err g c =
    let p = err_from_is_err_and c.from_residual.result c.from_residual.ensures.1 in
    rw (p.1, p.2) (c.in_err-_goes_on.ensures.feeds c.args.set c.args.limit [] [] (g.W.Sink.log c.args.w.now) (c.new-lister.ensures (g.W.Sink.log c.args.w.now)))

pub finish-requires-clause-some : goal.finish-requires-clause-some
finish-requires-clause-some g c =
    let fed = c.in_ok-_goes_on.ensures.feeds c.args.set c.args.limit [] [] (g.W.Sink.log c.args.w.now) (c.new-lister.ensures (g.W.Sink.log c.args.w.now)) in
    finishes_held g.P.ItemPrinter.is_text _ _ _ _ _ _ _ _ _ (fed_finishes g.P.ItemPrinter.is_text g.P.ItemPrinter.text_of_end (g.P.Listener.begins c.feed.new.self.printer) (g.P.Listener.stands c.feed.new.self.printer) c.args.set c.args.limit c.args.stream.now _ _ c.feed.new.self.frames c.feed.new.self.lawful _ fed)

pub finish-requires-clause-sink : goal.finish-requires-clause-sink
finish-requires-clause-sink g c =
    let fed = c.in_ok-_goes_on.ensures.feeds c.args.set c.args.limit [] [] (g.W.Sink.log c.args.w.now) (c.new-lister.ensures (g.W.Sink.log c.args.w.now)) in
    omega (arith, c.requires.sink, finishes_failures g.P.ItemPrinter.is_text _ _ _ _ _ _ _ _ _ (fed_finishes g.P.ItemPrinter.is_text g.P.ItemPrinter.text_of_end (g.P.Listener.begins c.feed.new.self.printer) (g.P.Listener.stands c.feed.new.self.printer) c.args.set c.args.limit c.args.stream.now _ _ c.feed.new.self.frames c.feed.new.self.lawful _ fed))

pub returns-clause-ok : goal.returns-clause-ok
returns-clause-ok g c =
    let fed = c.in_ok-_goes_on.ensures.feeds c.args.set c.args.limit [] [] (g.W.Sink.log c.args.w.now) (c.new-lister.ensures (g.W.Sink.log c.args.w.now)) in
    listed_of g.P.ItemPrinter.is_text g.P.ItemPrinter.text_of_end c.args.set c.args.limit c.args.stream.now _ _ c.finish.result (c.finish.ensures c.args.set c.args.limit c.args.stream.now (g.W.Sink.log c.args.w.now) (fed_finishes g.P.ItemPrinter.is_text g.P.ItemPrinter.text_of_end (g.P.Listener.begins c.feed.new.self.printer) (g.P.Listener.stands c.feed.new.self.printer) c.args.set c.args.limit c.args.stream.now _ _ c.feed.new.self.frames c.feed.new.self.lawful _ fed))

pub returns-clause-err : goal.returns-clause-err
returns-clause-err g c =
    let fed = c.in_ok-_goes_on.ensures.feeds c.args.set c.args.limit [] [] (g.W.Sink.log c.args.w.now) (c.new-lister.ensures (g.W.Sink.log c.args.w.now)) in
    stopped_of g.P.ItemPrinter.is_text g.P.ItemPrinter.text_of_end c.args.set c.args.limit c.args.stream.now _ _ c.finish.result (c.finish.ensures c.args.set c.args.limit c.args.stream.now (g.W.Sink.log c.args.w.now) (fed_finishes g.P.ItemPrinter.is_text g.P.ItemPrinter.text_of_end (g.P.Listener.begins c.feed.new.self.printer) (g.P.Listener.stands c.feed.new.self.printer) c.args.set c.args.limit c.args.stream.now _ _ c.feed.new.self.frames c.feed.new.self.lawful _ fed))
