use Rattle.std.proofs.Common.{rules}
use Rattle.std.proofs.lemmas.Result.{err_from_is_err_and}
use Rattle.llrp_operations.proofs.ErrandLemmas.{asked_are, lock_refused, read_refused, write_refused}
use Rattle.llrp_operations.proofs.errand.operations_of.Goals as goal

pub returns-in_err-push_said-clause-refused : goal.returns-in_err-push_said-clause-refused
returns-in_err-push_said-clause-refused c =
    let p = err_from_is_err_and c.from_residual.result c.from_residual.ensures.1 in
    rw (p.1, p.2) (read_refused c.args.words c.in_err-push_said.field-0.0 c.in_err-push_said.ensures.refused)

pub returns-in_err-push_said-2-clause-refused : goal.returns-in_err-push_said-2-clause-refused
returns-in_err-push_said-2-clause-refused c =
    let p = err_from_is_err_and c.from_residual-in_err-push_said-2.result c.from_residual-in_err-push_said-2.ensures.1 in
    rw (p.1, p.2) (write_refused c.args.words c.in_err-push_said-2.field-0.0 (c.in_ok-push_said.ensures.said.0, c.in_ok-push_said.ensures.said.1) c.in_err-push_said-2.ensures.refused)

pub returns-in_err-push_said-3-clause-refused : goal.returns-in_err-push_said-3-clause-refused
returns-in_err-push_said-3-clause-refused c =
    let p = err_from_is_err_and c.from_residual-in_err-push_said-3.result c.from_residual-in_err-push_said-3.ensures.1 in
    rw (p.1, p.2) (lock_refused c.args.words c.in_err-push_said-3.field-0.0 (c.in_ok-push_said.ensures.said.0, c.in_ok-push_said.ensures.said.1) (c.in_ok-push_said-2.ensures.said.0, c.in_ok-push_said-2.ensures.said.1) c.in_err-push_said-3.ensures.refused)

pub returns-clause-asked : goal.returns-clause-asked
returns-clause-asked c =
    asked_are c.args.words c.args.old.now c.args.given.now _ _ _ _ _ (search rules) c.in_ok-push_said.ensures.said c.in_ok-push_said-2.ensures.said c.in_ok-push_given.ensures.write c.in_ok-push_said-3.ensures.said
