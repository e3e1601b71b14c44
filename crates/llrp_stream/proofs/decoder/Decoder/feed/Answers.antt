use Rattle.std.proofs.Common.{◌≡◌, [], refl, sym, ap, subst, ◌∙◌}
use Rattle.std.specs.Prelude.{Err}
use Rattle.llrp_stream.specs.declared.item.FeedErr.TheVariants as failure
use Rattle.llrp_stream.specs.declared.state.State.{State}
use Rattle.llrp_stream.specs.Decoding.{DecoderState}
use Rattle.llrp_schema.specs.declared.kinds.KindSet.{KindSet}
use Rattle.llrp_schema.specs.declared.kinds.KindSet.TheVariants.{Profile}
use Rattle.llrp_stream.specs.Calls.Decoding.{StandsIn}
use Rattle.llrp_stream.specs.Feeding.{FeedsIn, TakesIn}
use Rattle.llrp_stream.specs.Private.Keeping.{kept, decoder}
use Rattle.llrp_stream.proofs.DecoderLemmas.{kept_comes, takes_item, kept_fed, kept_failed, feeds_failed, state_broken, state_dead, some_outcome}
use Rattle.llrp_stream.proofs.decoder.Decoder.feed.Goals as goal

pub feed-requires-clause-least : goal.feed-requires-clause-least
feed-requires-clause-least c = c.self.invariant.least

pub feed-requires-clause-most : goal.feed-requires-clause-most
feed-requires-clause-most c = c.self.invariant.most

pub feed-requires-clause-comes : goal.feed-requires-clause-comes
feed-requires-clause-comes c = c.self.invariant.comes

pub invariant_of-self : goal.invariant_of-self
invariant_of-self c =
    kept_fed c.self.inside.frames c.feed.new.self c.self.inside.builder c.feed.new.listener c.item_of.new.builder c.args.piece.now c.in-Ok.came.used c.in-Ok.came.outcome c.self.invariant c.in-Ok.ensures.limit c.item_of.ensures.same c.item_of.ensures.nodes (λ was front k. c.in-Ok.ensures.takes was front k)
    (λ e. absurd (let z = (c.in-Ok.ensures.broken e).0 in cc)) (λ e. absurd (let z = (c.in-Ok.ensures.dead e).0 in cc))

pub invariant_of-self-in-Err : goal.invariant_of-self-in-Err
invariant_of-self-in-Err c = kept_failed c.self.inside.frames c.feed.new.self c.self.inside.builder c.clear.new.self c.in-Err.error c.self.invariant c.in-Err.ensures.limit c.in-Err.ensures.stops c.clear.ensures.nodes

pub returns-in-Ok-clause-stands_in : goal.returns-in-Ok-clause-stands_in
returns-in-Ok-clause-stands_in c =
    rw (sym c.self.view_is)
    (λ p front st.
    subst (λ (q : KindSet). TakesIn q c.self.inside.frames.limit front c.args.piece.now (decoder c.feed.new.self c.item_of.new.builder) c.in-Ok.came.used c.item_of.result) (c.in-Ok.ensures.set ∙ st.set)
    (takes_item c.self.inside.frames.limit c.feed.new.listener c.item_of.new.builder front c.args.piece.now c.feed.new.self c.in-Ok.came.used c.in-Ok.came.outcome c.item_of.result c.in-Ok.ensures.limit c.item_of.ensures.same c.item_of.ensures.nodes c.item_of.ensures.none c.item_of.ensures.bad c.item_of.ensures.whole
    (c.in-Ok.ensures.takes [] front (kept_comes c.self.inside.frames c.self.inside.builder front c.self.invariant st))))

pub returns-in-Ok-clause-stands : goal.returns-in-Ok-clause-stands
returns-in-Ok-clause-stands c = λ front st. returns-in-Ok-clause-stands_in c Profile front st

pub returns-in-Ok-clause-broken : goal.returns-in-Ok-clause-broken
returns-in-Ok-clause-broken c = rw (sym c.self.view_is) (λ e. absurd (let z = (c.in-Ok.ensures.broken (state_broken c.self.inside.frames.state c.self.inside.frames.body c.self.inside.builder e)).0 in cc))

pub returns-in-Ok-clause-dead : goal.returns-in-Ok-clause-dead
returns-in-Ok-clause-dead c = rw (sym c.self.view_is) (λ e. absurd (let z = (c.in-Ok.ensures.dead (state_dead c.self.inside.frames.state c.self.inside.frames.body c.self.inside.builder e)).0 in cc))

pub returns-in-Ok-clause-limit : goal.returns-in-Ok-clause-limit
returns-in-Ok-clause-limit c = rw (sym c.self.view_is) c.in-Ok.ensures.limit

pub returns-in-Ok-clause-within : goal.returns-in-Ok-clause-within
returns-in-Ok-clause-within c = c.in-Ok.ensures.within

pub returns-in-Ok-clause-progress : goal.returns-in-Ok-clause-progress
returns-in-Ok-clause-progress c = λ some. c.in-Ok.ensures.progress (some_outcome c.in-Ok.came.outcome c.item_of.result c.item_of.ensures.none some)

pub returns-in-Err-clause-stands_in : goal.returns-in-Err-clause-stands_in
returns-in-Err-clause-stands_in c = λ p front st.
    let is : StandsIn p (decoder c.self.inside.frames c.self.inside.builder) front = subst (λ (d : DecoderState). StandsIn p d front) (sym c.self.view_is) st in
    subst (λ (d : DecoderState). FeedsIn p d front c.args.piece.now (decoder c.feed.new.self c.clear.new.self) (Err c.in-Err.error)) c.self.view_is
    (feeds_failed p c.self.inside.frames c.feed.new.self c.self.inside.builder c.feed.new.listener c.clear.new.self front c.args.piece.now c.in-Err.error (c.in-Err.ensures.takes [] front (kept_comes c.self.inside.frames c.self.inside.builder front c.self.invariant is)) c.in-Err.ensures.stops)

pub returns-in-Err-clause-stands : goal.returns-in-Err-clause-stands
returns-in-Err-clause-stands c = λ front st. returns-in-Err-clause-stands_in c Profile front st

pub returns-in-Err-clause-broken : goal.returns-in-Err-clause-broken
returns-in-Err-clause-broken c =
    rw (sym c.self.view_is)
    (λ e. (let z = c.in-Err.ensures.broken (state_broken c.self.inside.frames.state c.self.inside.frames.body c.self.inside.builder e) in ((let y = z.0 in let same : c.in-Err.error ≡ failure.Broken = cc in rw same refl), ap (λ (x : State). kept x c.feed.new.self.body c.clear.new.self) z.1)))

pub returns-in-Err-clause-dead : goal.returns-in-Err-clause-dead
returns-in-Err-clause-dead c =
    rw (sym c.self.view_is)
    (λ e. (let z = c.in-Err.ensures.dead (state_dead c.self.inside.frames.state c.self.inside.frames.body c.self.inside.builder e) in ((let y = z.0 in let same : c.in-Err.error ≡ failure.Dead = cc in rw same refl), ap (λ (x : State). kept x c.feed.new.self.body c.clear.new.self) z.1)))

pub returns-in-Err-clause-limit : goal.returns-in-Err-clause-limit
returns-in-Err-clause-limit c = rw (sym c.self.view_is) c.in-Err.ensures.limit

pub returns-in-Ok-clause-set : goal.returns-in-Ok-clause-set
returns-in-Ok-clause-set c = rw (sym c.self.view_is) c.in-Ok.ensures.set

pub returns-in-Err-clause-set : goal.returns-in-Err-clause-set
returns-in-Err-clause-set c = rw (sym c.self.view_is) c.in-Err.ensures.set
