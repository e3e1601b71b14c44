use Rattle.llrp_explain.proofs.HandedDigits.{refused_same}
use Rattle.llrp_explain.proofs.laws.refused_lines_are_decided.Goals as goal

pub returns : goal.returns
returns c = refused_same
