use Rattle.llrp_explain.proofs.FieldObjects.{object_is, plain_object_is}
use Rattle.llrp_explain.proofs.laws.objects_have_columns.Goals as goal

pub returns-clause-read : goal.returns-clause-read
returns-clause-read c = object_is

pub returns-clause-plain : goal.returns-clause-plain
returns-clause-plain c = plain_object_is
