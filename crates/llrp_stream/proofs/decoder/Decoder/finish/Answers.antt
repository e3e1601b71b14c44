use Rattle.std.proofs.Common.{sym}
use Rattle.llrp_schema.specs.declared.kinds.KindSet.TheVariants.{Profile}
use Rattle.llrp_stream.specs.Private.Building.{HasOpen}
use Rattle.llrp_stream.proofs.DecoderLemmas.{kept_comes, state_broken, state_dead}
use Rattle.llrp_stream.proofs.StreamEnd.{front_of}
use Rattle.llrp_stream.proofs.decoder.Decoder.finish.Goals as goal

pub returns-clause-stands_in : goal.returns-clause-stands_in
returns-clause-stands_in c =
    rw (sym c.self.view_is) (λ p front st. c.finish.ensures.stands front (front_of (HasOpen c.self.inside.builder) (HasOpen c.self.inside.builder) c.self.inside.frames front (kept_comes c.self.inside.frames c.self.inside.builder front c.self.invariant st)))

pub returns-clause-stands : goal.returns-clause-stands
returns-clause-stands c = λ front st. returns-clause-stands_in c Profile front st

pub returns-clause-broken : goal.returns-clause-broken
returns-clause-broken c = rw (sym c.self.view_is) (λ e. c.finish.ensures.broken (state_broken c.self.inside.frames.state c.self.inside.frames.body c.self.inside.builder e))

pub returns-clause-dead : goal.returns-clause-dead
returns-clause-dead c = rw (sym c.self.view_is) (λ e. c.finish.ensures.dead (state_dead c.self.inside.frames.state c.self.inside.frames.body c.self.inside.builder e))
