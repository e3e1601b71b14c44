use Rattle.std.proofs.Common.{◌≡◌, []}
use Rattle.llrp_stream.specs.declared.item.FeedErr.TheVariants as failure
use Rattle.llrp_stream.proofs.FramesLemmas.{stops_so, err_so}
use Rattle.llrp_stream.proofs.engine.frames.Frames.feed.Goals as goal

pub returns-in-Ok-clause-takes : goal.returns-in-Ok-clause-takes
returns-in-Ok-clause-takes g c = λ was front k. c.in-Ok.ensures.takes was front k

pub returns-in-Ok-clause-broken : goal.returns-in-Ok-clause-broken
returns-in-Ok-clause-broken g c = λ e. absurd (let z = c.in-Ok.ensures.broken e in cc)

pub returns-in-Ok-clause-dead : goal.returns-in-Ok-clause-dead
returns-in-Ok-clause-dead g c = λ e. absurd (let z = c.in-Ok.ensures.dead e in cc)

pub returns-in-Err-clause-takes : goal.returns-in-Err-clause-takes
returns-in-Err-clause-takes g c = λ was front k. err_so (g.L.Listener.begins c.advance.new.listener was) (g.L.Listener.stands c.advance.new.listener was) (g.L.Listener.ends c.advance.new.listener was) (λ now. g.L.Listener.stands c.advance.new.listener now []) c.args.self.now c.advance.new.self c.stop.new.self front c.args.piece.now c.in-Err.error (c.in-Err.ensures.takes was front k)

pub returns-in-Err-clause-broken : goal.returns-in-Err-clause-broken
returns-in-Err-clause-broken g c = λ e. (let z = c.in-Err.ensures.broken e in (z, c.stop.ensures.broken (let same : c.in-Err.error ≡ failure.Broken = cc in same)))

pub returns-in-Err-clause-dead : goal.returns-in-Err-clause-dead
returns-in-Err-clause-dead g c = λ e. (let z = c.in-Err.ensures.dead e in (z, c.stop.ensures.dead (let same : c.in-Err.error ≡ failure.Dead = cc in same)))

pub returns-in-Err-clause-stops : goal.returns-in-Err-clause-stops
returns-in-Err-clause-stops g c = stops_so c.stop.new.self c.in-Err.error c.stop.ensures.raw c.stop.ensures.broken c.stop.ensures.memory c.stop.ensures.dead

pub returns-in-Ok-clause-refuses : goal.returns-in-Ok-clause-refuses
returns-in-Ok-clause-refuses g c = λ was front k r. c.in-Ok.ensures.refuses was front k r
