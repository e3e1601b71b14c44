-- A search by name finds exactly the kind with the name, among the kinds of the profile.
use Rattle.llrp_schema.proofs.TableLaws.{message_name_found, param_name_found}
use Rattle.llrp_schema.proofs.laws.names_are_found.Goals as goal

pub returns-clause-message : goal.returns-clause-message
returns-clause-message c = message_name_found

pub returns-clause-parameter : goal.returns-clause-parameter
returns-clause-parameter c = param_name_found
