use Rattle.llrp_session.proofs.AnswersLawful.{fixed_lawful, frequencies_parts, frequencies_is, of_tail, made_of}
use Rattle.llrp_session.proofs.answers.frequencies.Goals as goal

pub with_tail-fixed-requires : goal.with_tail-fixed-requires
with_tail-fixed-requires c = of_tail _ _ _ c.in_ok-frequency.frequency.items c.in_ok-frequency.ensures.items fixed_lawful

pub parameter-requires : goal.parameter-requires
parameter-requires c =
    frequencies_parts c.in_ok-parts.parts.items _ c.in_ok-parts.ensures
    (made_of _ _ _ c.in_ok-frequency.frequency.items c.with_tail-fixed.result c.in_ok-frequency.ensures.items c.with_tail-fixed.ensures)

pub returns : goal.returns
returns c =
    frequencies_is c.in_ok-parts.parts.items _ c.parameter.result c.in_ok-parts.ensures
    (made_of _ _ _ c.in_ok-frequency.frequency.items c.with_tail-fixed.result c.in_ok-frequency.ensures.items c.with_tail-fixed.ensures)
    c.parameter.ensures
