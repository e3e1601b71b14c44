use Rattle.std.proofs.Common.{ℕ, [], subst, ◌∙◌}
use Rattle.std.proofs.lemmas.Result.{err_from_is_err_and}
use Rattle.std.specs.Prelude.{MatchResult}
use Rattle.llrp_schema.specs.declared.kinds.KindSet.{KindSet}
use Rattle.llrp_listing.specs.Private.Encoder.{Stopped, StoppedAtEnd, WroteEncoding}
use Rattle.llrp_listing.proofs.Running.{stop_at_end}
use Rattle.llrp_listing.proofs.encode.in_memory.encode_listing.Goals as goal

pub feed-requires-clause-stands : goal.feed-requires-clause-stands
feed-requires-clause-stands g c = let log = g.W.Sink.log c.args.w.now in (log, [], c.new-encoder.ensures.stands log)

pub returns-in_err-feed : goal.returns-in_err-feed
returns-in_err-feed g c =
    let p = err_from_is_err_and c.from_residual.result c.from_residual.ensures.1 in
    let w0 = g.W.Sink.log c.args.w.now in
    let w1 = g.W.Sink.log c.feed.new.w in
    let text = c.args.listing.now in
    let e = c.in_err-feed.field-0.0 in
    let stop = subst (λ (q : KindSet). Stopped q c.args.limit w0 w1 text e) c.new-encoder.ensures.set
    (subst (λ (l : ℕ). Stopped c.new-encoder.result.guess l w0 w1 text e) c.new-encoder.ensures.limit (c.in_err-feed.ensures.stands w0 [] (c.new-encoder.ensures.stands w0))) in
    rw (p.1, p.2) (stop_at_end c.args.set c.args.limit w0 w1 text e stop)

pub finish-requires-clause-stands : goal.finish-requires-clause-stands
finish-requires-clause-stands g c =
    let w0 = g.W.Sink.log c.args.w.now in
    (w0, c.args.listing.now, c.in_ok-feed.ensures.stands w0 [] (c.new-encoder.ensures.stands w0))

pub returns : goal.returns
returns g c =
    let w0 = g.W.Sink.log c.args.w.now in
    let w1 = g.W.Sink.log c.finish.new.w in
    let text = c.args.listing.now in
    let stands = c.in_ok-feed.ensures.stands w0 [] (c.new-encoder.ensures.stands w0) in
    subst (λ (q : KindSet). MatchResult c.finish.result (λ _. WroteEncoding q c.args.limit w0 w1 text) (StoppedAtEnd q c.args.limit w0 w1 text)) (c.in_ok-feed.ensures.set ∙ c.new-encoder.ensures.set)
    (subst (λ (l : ℕ). MatchResult c.finish.result (λ _. WroteEncoding c.feed.new.self.guess l w0 w1 text) (StoppedAtEnd c.feed.new.self.guess l w0 w1 text)) (c.in_ok-feed.ensures.limit ∙ c.new-encoder.ensures.limit) (c.finish.ensures w0 text stands))
