use Rattle.llrp_session.proofs.AnswersLawful.{sensitivity_lawful, ports_lawful, general_parts, general_is}
use Rattle.llrp_session.proofs.answers.general.Goals as goal

pub leaf-sensitivity-requires : goal.leaf-sensitivity-requires
leaf-sensitivity-requires c = sensitivity_lawful

pub leaf-ports-requires : goal.leaf-ports-requires
leaf-ports-requires c = ports_lawful

pub parameter-requires : goal.parameter-requires
parameter-requires c = general_parts c.in_ok-parts.parts.items _ _ _ _ c.in_ok-parts.ensures.items c.leaf-sensitivity.ensures c.leaf-ports.ensures c.in_ok-first.ensures c.in_ok-second.ensures

pub returns : goal.returns
returns c = general_is c.in_ok-parts.parts.items _ _ _ _ c.parameter.result c.in_ok-parts.ensures.items c.leaf-sensitivity.ensures c.leaf-ports.ensures c.in_ok-first.ensures c.in_ok-second.ensures c.parameter.ensures
