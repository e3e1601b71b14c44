use Rattle.llrp_session.proofs.AnswersLawful.{power_lawful, band_parts, band_is, regulatory_parts, regulatory_is}
use Rattle.llrp_session.proofs.answers.regulatory.Goals as goal

pub leaf-power-requires : goal.leaf-power-requires
leaf-power-requires c = power_lawful

pub parameter-band-requires : goal.parameter-band-requires
parameter-band-requires c = band_parts c.in_ok-parts.parts.items _ _ _ c.in_ok-parts.ensures.items c.leaf-power.ensures c.in_ok-frequencies.ensures c.in_ok-modes.ensures

pub parameter-requires : goal.parameter-requires
parameter-requires c =
    regulatory_parts c.in_ok-parts-2.parts.items _ c.in_ok-parts-2.ensures
    (band_is c.in_ok-parts.parts.items _ _ _ c.parameter-band.result c.in_ok-parts.ensures.items c.leaf-power.ensures c.in_ok-frequencies.ensures c.in_ok-modes.ensures c.parameter-band.ensures)

pub returns : goal.returns
returns c =
    regulatory_is c.in_ok-parts-2.parts.items _ c.parameter.result c.in_ok-parts-2.ensures
    (band_is c.in_ok-parts.parts.items _ _ _ c.parameter-band.result c.in_ok-parts.ensures.items c.leaf-power.ensures c.in_ok-frequencies.ensures c.in_ok-modes.ensures c.parameter-band.ensures)
    c.parameter.ensures
