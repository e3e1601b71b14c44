use Rattle.std.proofs.lemmas.Result.{err_from_is_err_and}
use Rattle.llrp_stream.proofs.engine.frames.Frames.end.Goals as goal

pub finish-requires : goal.finish-requires
finish-requires g c =
    let w = c.requires.some in
    (w.0, w.1, c.args.self.now.limit, w.2, w.3, w.4, c.requires.most)

pub returns-clause-gives : goal.returns-clause-gives
returns-clause-gives g c = λ was front w os le. c.in_ok-finish.ensures was front c.args.self.now.limit w os le c.requires.most

pub returns-in_err-finish-clause-idle : goal.returns-in_err-finish-clause-idle
returns-in_err-finish-clause-idle g c = (let p = err_from_is_err_and c.from_residual.result c.from_residual.ensures.1 in rw p.1 tt)

pub returns-in_err-finish-clause-came : goal.returns-in_err-finish-clause-came
returns-in_err-finish-clause-came g c = (let p = err_from_is_err_and c.from_residual.result c.from_residual.ensures.1 in rw p.1 tt)

pub returns-in_err-finish-clause-fails : goal.returns-in_err-finish-clause-fails
returns-in_err-finish-clause-fails g c = (let p = err_from_is_err_and c.from_residual.result c.from_residual.ensures.1 in rw p.1 p.2)

pub returns-in_err-finish-clause-gives : goal.returns-in_err-finish-clause-gives
returns-in_err-finish-clause-gives g c = (let p = err_from_is_err_and c.from_residual.result c.from_residual.ensures.1 in rw p.1 tt)
