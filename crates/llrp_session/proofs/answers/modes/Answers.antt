use Rattle.llrp_session.proofs.AnswersLawful.{mode_lawful, modes_parts, modes_is, mode_is, of_tail, made_of}
use Rattle.llrp_session.proofs.answers.modes.Goals as goal

pub with_tail-mode-requires : goal.with_tail-mode-requires
with_tail-mode-requires c = of_tail _ _ _ c.in_ok-times.times.items c.in_ok-times.ensures.items mode_lawful

pub parameter-requires : goal.parameter-requires
parameter-requires c =
    modes_parts c.in_ok-parts.parts.items _ c.in_ok-parts.ensures
    (mode_is _ (made_of _ _ _ c.in_ok-times.times.items c.with_tail-mode.result c.in_ok-times.ensures.items c.with_tail-mode.ensures))

pub returns : goal.returns
returns c =
    modes_is c.in_ok-parts.parts.items _ c.parameter.result c.in_ok-parts.ensures
    (mode_is _ (made_of _ _ _ c.in_ok-times.times.items c.with_tail-mode.result c.in_ok-times.ensures.items c.with_tail-mode.ensures))
    c.parameter.ensures
