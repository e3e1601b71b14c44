-- A search in one profile finds both at the name.
use Rattle.llrp_schema.proofs.TableLaws.{names_in}
use Rattle.llrp_schema.proofs.laws.names_are_distinct.Goals as goal

pub returns : goal.returns
returns c = names_in
