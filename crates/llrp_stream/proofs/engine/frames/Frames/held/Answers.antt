use Rattle.std.proofs.Common.{◌+◌, ◌*◌, arith}
use Rattle.llrp_stream.specs.declared.state.State.TheVariants as state
use Rattle.llrp_stream.proofs.EngineHeld.{holds}
use Rattle.llrp_stream.proofs.engine.frames.Frames.held.Goals as goal

pub returns-in-Header-clause-decided : goal.returns-in-Header-clause-decided
returns-in-Header-clause-decided c = (holds c.args.self.now state.Header c.raw_octets.result c.in-Header.is c.raw_octets.ensures.raw).decided

pub returns-in-Reading-clause-within : goal.returns-in-Reading-clause-within
returns-in-Reading-clause-within c =
    (holds c.args.self.now (state.Reading c.in-Reading.id) (c.raw_octets-in-Reading.result + 2 * (c.len.result + 1)) c.in-Reading.is (omega (arith, c.raw_octets-in-Reading.ensures.raw, c.len.ensures.value))).within

pub returns-in-Reading-clause-front : goal.returns-in-Reading-clause-front
returns-in-Reading-clause-front c =
    (holds c.args.self.now (state.Reading c.in-Reading.id) (c.raw_octets-in-Reading.result + 2 * (c.len.result + 1)) c.in-Reading.is (omega (arith, c.raw_octets-in-Reading.ensures.raw, c.len.ensures.value))).front

pub returns-in-Reading-clause-decided : goal.returns-in-Reading-clause-decided
returns-in-Reading-clause-decided c =
    (holds c.args.self.now (state.Reading c.in-Reading.id) (c.raw_octets-in-Reading.result + 2 * (c.len.result + 1)) c.in-Reading.is (omega (arith, c.raw_octets-in-Reading.ensures.raw, c.len.ensures.value))).decided
