use Rattle.std.proofs.Common.{◌+◌, sym, ◌∙◌, arith}
use Rattle.llrp_stream.specs.declared.state.State.TheVariants as state
use Rattle.llrp_stream.proofs.DecoderLemmas.{holds, weight_is, kept_reading}
use Rattle.llrp_stream.proofs.decoder.Decoder.held.Goals as goal

pub overflow_add-result : goal.overflow_add-result
overflow_add-result c =
    let w = (kept_reading c.self.inside.frames c.self.inside.builder _ c.self.invariant c.in-Reading.is).1 in
    omega (arith, c.raw_octets-in-Reading.ensures.raw, c.weight.ensures, w.few, w.nodes, w.all, w.more, w.within, c.self.invariant.most)

pub returns-in-Header-clause-weight : goal.returns-in-Header-clause-weight
returns-in-Header-clause-weight c =
    rw (sym c.self.view_is) (holds c.self.inside.frames c.self.inside.builder _ c.self.invariant (c.raw_octets.ensures.raw ∙ omega (arith, weight_is c.self.inside.frames c.self.inside.builder state.Header c.in-Header.is))).weight_is

pub returns-in-Header-clause-within : goal.returns-in-Header-clause-within
returns-in-Header-clause-within c =
    rw (sym c.self.view_is) (holds c.self.inside.frames c.self.inside.builder _ c.self.invariant (c.raw_octets.ensures.raw ∙ omega (arith, weight_is c.self.inside.frames c.self.inside.builder state.Header c.in-Header.is))).within

pub returns-in-Header-clause-front : goal.returns-in-Header-clause-front
returns-in-Header-clause-front c =
    rw (sym c.self.view_is) (holds c.self.inside.frames c.self.inside.builder _ c.self.invariant (c.raw_octets.ensures.raw ∙ omega (arith, weight_is c.self.inside.frames c.self.inside.builder state.Header c.in-Header.is))).front

pub returns-in-Header-clause-raw : goal.returns-in-Header-clause-raw
returns-in-Header-clause-raw c =
    rw (sym c.self.view_is) (holds c.self.inside.frames c.self.inside.builder _ c.self.invariant (c.raw_octets.ensures.raw ∙ omega (arith, weight_is c.self.inside.frames c.self.inside.builder state.Header c.in-Header.is))).raw

pub returns-in-Header-clause-skipped : goal.returns-in-Header-clause-skipped
returns-in-Header-clause-skipped c =
    rw (sym c.self.view_is) (holds c.self.inside.frames c.self.inside.builder _ c.self.invariant (c.raw_octets.ensures.raw ∙ omega (arith, weight_is c.self.inside.frames c.self.inside.builder state.Header c.in-Header.is))).skipped

pub returns-in-Header-clause-decided : goal.returns-in-Header-clause-decided
returns-in-Header-clause-decided c =
    rw (sym c.self.view_is) (holds c.self.inside.frames c.self.inside.builder _ c.self.invariant (c.raw_octets.ensures.raw ∙ omega (arith, weight_is c.self.inside.frames c.self.inside.builder state.Header c.in-Header.is))).decided

pub returns-in-Reading-clause-weight : goal.returns-in-Reading-clause-weight
returns-in-Reading-clause-weight c =
    rw (sym c.self.view_is) (
    let w = (kept_reading c.self.inside.frames c.self.inside.builder _ c.self.invariant c.in-Reading.is).1 in
    holds c.self.inside.frames c.self.inside.builder (c.raw_octets-in-Reading.result + c.weight.result) c.self.invariant (omega (arith, c.raw_octets-in-Reading.ensures.raw, c.weight.ensures, w.nodes, w.all, w.more, w.within, c.self.invariant.most, weight_is c.self.inside.frames c.self.inside.builder _ c.in-Reading.is))).weight_is

pub returns-in-Reading-clause-within : goal.returns-in-Reading-clause-within
returns-in-Reading-clause-within c =
    rw (sym c.self.view_is) (
    let w = (kept_reading c.self.inside.frames c.self.inside.builder _ c.self.invariant c.in-Reading.is).1 in
    holds c.self.inside.frames c.self.inside.builder (c.raw_octets-in-Reading.result + c.weight.result) c.self.invariant (omega (arith, c.raw_octets-in-Reading.ensures.raw, c.weight.ensures, w.nodes, w.all, w.more, w.within, c.self.invariant.most, weight_is c.self.inside.frames c.self.inside.builder _ c.in-Reading.is))).within

pub returns-in-Reading-clause-front : goal.returns-in-Reading-clause-front
returns-in-Reading-clause-front c =
    rw (sym c.self.view_is) (
    let w = (kept_reading c.self.inside.frames c.self.inside.builder _ c.self.invariant c.in-Reading.is).1 in
    holds c.self.inside.frames c.self.inside.builder (c.raw_octets-in-Reading.result + c.weight.result) c.self.invariant (omega (arith, c.raw_octets-in-Reading.ensures.raw, c.weight.ensures, w.nodes, w.all, w.more, w.within, c.self.invariant.most, weight_is c.self.inside.frames c.self.inside.builder _ c.in-Reading.is))).front

pub returns-in-Reading-clause-raw : goal.returns-in-Reading-clause-raw
returns-in-Reading-clause-raw c =
    rw (sym c.self.view_is) (
    let w = (kept_reading c.self.inside.frames c.self.inside.builder _ c.self.invariant c.in-Reading.is).1 in
    holds c.self.inside.frames c.self.inside.builder (c.raw_octets-in-Reading.result + c.weight.result) c.self.invariant (omega (arith, c.raw_octets-in-Reading.ensures.raw, c.weight.ensures, w.nodes, w.all, w.more, w.within, c.self.invariant.most, weight_is c.self.inside.frames c.self.inside.builder _ c.in-Reading.is))).raw

pub returns-in-Reading-clause-skipped : goal.returns-in-Reading-clause-skipped
returns-in-Reading-clause-skipped c =
    rw (sym c.self.view_is) (
    let w = (kept_reading c.self.inside.frames c.self.inside.builder _ c.self.invariant c.in-Reading.is).1 in
    holds c.self.inside.frames c.self.inside.builder (c.raw_octets-in-Reading.result + c.weight.result) c.self.invariant (omega (arith, c.raw_octets-in-Reading.ensures.raw, c.weight.ensures, w.nodes, w.all, w.more, w.within, c.self.invariant.most, weight_is c.self.inside.frames c.self.inside.builder _ c.in-Reading.is))).skipped

pub returns-in-Reading-clause-decided : goal.returns-in-Reading-clause-decided
returns-in-Reading-clause-decided c =
    rw (sym c.self.view_is) (
    let w = (kept_reading c.self.inside.frames c.self.inside.builder _ c.self.invariant c.in-Reading.is).1 in
    holds c.self.inside.frames c.self.inside.builder (c.raw_octets-in-Reading.result + c.weight.result) c.self.invariant (omega (arith, c.raw_octets-in-Reading.ensures.raw, c.weight.ensures, w.nodes, w.all, w.more, w.within, c.self.invariant.most, weight_is c.self.inside.frames c.self.inside.builder _ c.in-Reading.is))).decided
