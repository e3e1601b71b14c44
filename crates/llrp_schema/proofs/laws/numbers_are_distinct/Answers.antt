use Rattle.llrp_schema.proofs.TableLaws.{message_numbers_in, param_numbers_in}
use Rattle.llrp_schema.proofs.laws.numbers_are_distinct.Goals as goal

pub returns-clause-message : goal.returns-clause-message
returns-clause-message c = message_numbers_in

pub returns-clause-parameter : goal.returns-clause-parameter
returns-clause-parameter c = param_numbers_in
