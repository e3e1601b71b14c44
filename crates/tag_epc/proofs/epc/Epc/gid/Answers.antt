use Rattle.std.proofs.Common.{rules}
use Rattle.tag_epc.proofs.epc.Epc.gid.Goals as goal

pub returns-clause-exactly : goal.returns-clause-exactly
returns-clause-exactly c = search rules

pub returns-clause-ok : goal.returns-clause-ok
returns-clause-ok c = search rules

pub returns-in_err-parts-clause-err : goal.returns-in_err-parts-clause-err
returns-in_err-parts-clause-err c = search rules

pub returns-in_err-parts-clause-exactly : goal.returns-in_err-parts-clause-exactly
returns-in_err-parts-clause-exactly c = search rules
