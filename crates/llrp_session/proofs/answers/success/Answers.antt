use Rattle.llrp_session.proofs.AnswersLawful.{success_lawful}
use Rattle.llrp_session.proofs.answers.success.Goals as goal

pub leaf-requires : goal.leaf-requires
leaf-requires c = success_lawful
