use Rattle.std.proofs.Common.{ℕ, subst, ◌∙◌}
use Rattle.std.proofs.lemmas.Result.{err_from_is_err_and}
use Rattle.std.specs.Prelude.{MatchResult}
use Rattle.llrp_schema.specs.declared.kinds.KindSet.{KindSet}
use Rattle.llrp_listing.specs.Private.Encoder.{StoppedAtEnd, WroteEncoding}
use Rattle.llrp_listing.specs.Encoding.{EncodeStoppedIn}
use Rattle.llrp_listing.proofs.Running.{ends_ok, ends_err}
use Rattle.llrp_listing.proofs.encode.run_encode_in.Goals as goal

pub returns-in_err-feed_all-clause-stopped : goal.returns-in_err-feed_all-clause-stopped
returns-in_err-feed_all-clause-stopped g c =
    let p = err_from_is_err_and c.from_residual.result c.from_residual.ensures.1 in
    let e = c.in_err-feed_all.field-0.0 in
    rw (p.1, p.2)
    (subst (λ (q : KindSet). EncodeStoppedIn q c.args.limit (g.R.Source.log c.args.r.now) (g.R.Source.log c.feed_all.new.r) (g.W.Sink.log c.args.w.now) (g.W.Sink.log c.feed_all.new.w) e) c.new-encoder.ensures.set
    (subst (λ (l : ℕ). EncodeStoppedIn c.new-encoder.result.guess l (g.R.Source.log c.args.r.now) (g.R.Source.log c.feed_all.new.r) (g.W.Sink.log c.args.w.now) (g.W.Sink.log c.feed_all.new.w) e) c.new-encoder.ensures.limit c.in_err-feed_all.ensures.stopped))

pub returns-clause-done : goal.returns-clause-done
returns-clause-done g c =
    let (text, all, stands) = c.in_ok-feed_all.ensures.stands in
    let w0 = g.W.Sink.log c.args.w.now in
    let w1 = g.W.Sink.log c.finish.new.w in
    let m = subst (λ (q : KindSet). MatchResult c.finish.result (λ _. WroteEncoding q c.args.limit w0 w1 text) (StoppedAtEnd q c.args.limit w0 w1 text)) (c.in_ok-feed_all.ensures.set ∙ c.new-encoder.ensures.set)
    (subst (λ (l : ℕ). MatchResult c.finish.result (λ _. WroteEncoding c.feed_all.new.self.guess l w0 w1 text) (StoppedAtEnd c.feed_all.new.self.guess l w0 w1 text)) (c.in_ok-feed_all.ensures.limit ∙ c.new-encoder.ensures.limit) (c.finish.ensures w0 text stands)) in
    ends_ok c.args.set c.args.limit _ _ _ _ text c.finish.result all m

pub returns-clause-stopped : goal.returns-clause-stopped
returns-clause-stopped g c =
    let (text, all, stands) = c.in_ok-feed_all.ensures.stands in
    let w0 = g.W.Sink.log c.args.w.now in
    let w1 = g.W.Sink.log c.finish.new.w in
    let m = subst (λ (q : KindSet). MatchResult c.finish.result (λ _. WroteEncoding q c.args.limit w0 w1 text) (StoppedAtEnd q c.args.limit w0 w1 text)) (c.in_ok-feed_all.ensures.set ∙ c.new-encoder.ensures.set)
    (subst (λ (l : ℕ). MatchResult c.finish.result (λ _. WroteEncoding c.feed_all.new.self.guess l w0 w1 text) (StoppedAtEnd c.feed_all.new.self.guess l w0 w1 text)) (c.in_ok-feed_all.ensures.limit ∙ c.new-encoder.ensures.limit) (c.finish.ensures w0 text stands)) in
    ends_err c.args.set c.args.limit _ _ _ _ text c.finish.result all m

pub finish-requires-clause-stands : goal.finish-requires-clause-stands
finish-requires-clause-stands g c = let x = c.in_ok-feed_all.ensures.stands in (g.W.Sink.log c.args.w.now, x.0, x.2)
