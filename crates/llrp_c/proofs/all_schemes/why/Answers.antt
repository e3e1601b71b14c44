use Rattle.std.proofs.Common.{inl, refl}
use Rattle.llrp_c.proofs.all_schemes.why.Goals as goal

pub returns-in-None : goal.returns-in-None
returns-in-None c = inl (refl, c.in-None.ensures.none, refl)
