use Rattle.std.proofs.Common.{inl, inr, refl}
use Rattle.llrp_files.proofs.ending.end_without_memory.Goals as goal

pub returns-in-Ok : goal.returns-in-Ok
returns-in-Ok g c = (c.in-Ok.ensures.0, inl c.in-Ok.ensures.1)

pub returns-in-Err : goal.returns-in-Err
returns-in-Err g c = (refl, inr (c.in-Err.ensures.1, c.in-Err.ensures.2, c.in-Err.ensures.3))
