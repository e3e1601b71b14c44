use Rattle.std.proofs.Common.{[], Bool, Ok, refl, subst}
use Rattle.llrp_endpoints.specs.Gathering.{hurried}
use Rattle.llrp_endpoints.specs.Private.GatheringStands.{Does}
use Rattle.llrp_endpoints.proofs.HurryLemmas.{hurry_stands}
use Rattle.llrp_endpoints.proofs.gathering.Gathering.hurry.Goals as goal

pub returns-in-Ok-clause-hurries : goal.returns-in-Ok-clause-hurries
returns-in-Ok-clause-hurries c = λ b bytes rest d s.
    let o0 = c.args.out.now.items in
    let o1 = c.press.new.out.items in
    hurry_stands b bytes rest d c.args.self.now c.press.new.self o0 o1 s c.in-Ok.ensures.others
    (subst (λ (x : Bool). Does d (hurried d) c.press.new.self o0 o1 [] [] (Ok x)) c.in-Ok.ensures.open (c.in-Ok.ensures.does d [] s.stands.holds s.stands.open_is))

pub returns-in-Err-clause-hurries : goal.returns-in-Err-clause-hurries
returns-in-Err-clause-hurries c = λ b bytes rest d s. (refl, c.in-Err.ensures.does d [] s.stands.holds s.stands.open_is)
