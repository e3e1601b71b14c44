use Rattle.std.proofs.Common.{List, ℕ, subst}
use Rattle.std.proofs.lemmas.Result.{err_from_is_err_and}
use Rattle.llrp_stream.specs.Device.{Wrote}
use Rattle.llrp_listing.proofs.show.hand_on.Goals as goal

pub returns-in_err-write_all-clause-written : goal.returns-in_err-write_all-clause-written
returns-in_err-write_all-clause-written g c = λ was held.
    let p = err_from_is_err_and c.from_residual.result c.from_residual.ensures.1 in
    rw (p.1, p.2) (rw (c.whole.ensures was held) at c.in_err-write_all.ensures)

pub returns-clause-written : goal.returns-clause-written
returns-clause-written g c = λ was held.
    subst (λ (x : List ℕ). Wrote (g.W.Sink.log c.args.w.now) (g.W.Sink.log c.write_all.new.w) x) (c.whole.ensures was held) c.in_ok-write_all.ensures
