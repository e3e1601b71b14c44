use Rattle.std.proofs.Common.{◌+◌, ◌-◌, length, refl}
use Rattle.llrp_stream.specs.declared.engine.frames.Frames.{Frames}
use Rattle.llrp_stream.specs.declared.state.State.TheVariants as state
use Rattle.llrp_stream.proofs.FramesLemmas.{skip_more, skip_end}
use Rattle.llrp_stream.proofs.engine.frames.Frames.skip.Goals as goal

pub returns-then-piece-left-clause-skips : goal.returns-then-piece-left-clause-skips
returns-then-piece-left-clause-skips c = λ p limit front s.
    let n = length c.args.piece.now in
    let new : Frames = record { limit = c.args.self.now.limit; state = state.Skipping (c.args.count + n) c.args.header; body = c.args.self.now.body } in
    skip_more p limit c.args.count n c.args.header front c.args.piece.now new c.requires.begun refl c.if-piece-left.true refl s

pub returns-clause-skips : goal.returns-clause-skips
returns-clause-skips c = λ p limit front s.
    let new : Frames = record { limit = c.args.self.now.limit; state = state.Between; body = c.args.self.now.body } in
    skip_end p limit c.args.count (c.args.header.octets - c.args.count) c.args.header front c.args.piece.now new c.requires.begun c.requires.inside refl c.if-piece-left.false refl s

pub returns-then-piece-left-clause-fault : goal.returns-then-piece-left-clause-fault
returns-then-piece-left-clause-fault c = (c.args.count + length c.args.piece.now, refl)
