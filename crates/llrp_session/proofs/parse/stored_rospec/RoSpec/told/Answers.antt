use Rattle.std.proofs.Common.{subst}
use Rattle.llrp_session.specs.Calls.LawfulWords.{IsToldOf}
use Rattle.llrp_session.proofs.ToldOfLawful.{told_of_lawful}
use Rattle.llrp_session.proofs.parse.stored_rospec.RoSpec.told.Goals as goal

pub returns : goal.returns
returns c = subst IsToldOf c.self.view_is (told_of_lawful c.self.inside.spec (c.self.invariant.0, c.lawful.ensures))
