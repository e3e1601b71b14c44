use Rattle.std.proofs.Common.{arith}
use Rattle.llrp_session.proofs.AnswersLawful.{antenna_lawful}
use Rattle.llrp_session.proofs.answers.antenna.Goals as goal

pub leaf-requires : goal.leaf-requires
leaf-requires c = antenna_lawful c.args.number (omega arith)
