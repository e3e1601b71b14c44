use Rattle.std.proofs.Common.{ℕ, List, length, inr, ap, ◌∙◌, arith}
use Rattle.llrp_stream.specs.declared.state.State.TheVariants as state
use Rattle.llrp_stream.proofs.StreamEnd.{front_at, reading_rest}
use Rattle.llrp_stream.proofs.engine.frames.Frames.finish.Goals as goal

pub returns-in-Between-clause-stands : goal.returns-in-Between-clause-stands
returns-in-Between-clause-stands c = λ front k. (front_at c.args.self.now state.Between front c.in-Between.is k).0

pub returns-in-Header-clause-stands : goal.returns-in-Header-clause-stands
returns-in-Header-clause-stands c = λ front k.
    let f = front_at c.args.self.now state.Header front c.in-Header.is k in
    let same = c.len.ensures.value ∙ ap (λ (x : List ℕ). length x) f.0 in
    (same, omega (arith, same, f.1), f.3)

pub returns-in-Reading-clause-stands : goal.returns-in-Reading-clause-stands
returns-in-Reading-clause-stands c = λ front k.
    let f = reading_rest c.args.self.now.limit c.in-Reading.id c.args.self.now.body front (front_at c.args.self.now (state.Reading c.in-Reading.id) front c.in-Reading.is k) in
    (omega (arith, f.0, c.len-in-Reading.ensures.value), omega (arith, f.0, c.len-in-Reading.ensures.value, f.1), f.2)

pub returns-in-Skipping-clause-stands : goal.returns-in-Skipping-clause-stands
returns-in-Skipping-clause-stands c = λ front k.
    let f = front_at c.args.self.now (state.Skipping c.in-Skipping.count c.in-Skipping.header) front c.in-Skipping.is k in
    (f.0.count_is, omega (arith, f.1), inr (omega (arith, f.0.octets_are, f.1, f.2), omega (arith, f.0.octets_are, f.0.count_is, f.2)))

pub returns-in-Broken-clause-stands : goal.returns-in-Broken-clause-stands
returns-in-Broken-clause-stands c = λ front k. absurd (front_at c.args.self.now state.Broken front c.in-Broken.is k)

pub returns-in-Dead-clause-stands : goal.returns-in-Dead-clause-stands
returns-in-Dead-clause-stands c = λ front k. absurd (front_at c.args.self.now state.Dead front c.in-Dead.is k)
