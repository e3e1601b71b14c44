use Rattle.std.proofs.Common.{refl}
use Rattle.std.proofs.lemmas.Result.{err_from_is_err_and}
use Rattle.llrp_general.proofs.DueLemmas.{behind, did_due, did_some_due, due_fits}
use Rattle.llrp_general.proofs.serving.WholeReader.happen_due.Goals as goal

pub returns-in_err-self-clause-does : goal.returns-in_err-self-clause-does
returns-in_err-self-clause-does c =
    let p = err_from_is_err_and c.from_residual.result c.from_residual.ensures.1 in
    let is = behind c.args.self.now.done c.entries.result.now c.args.self.now.script c.entries.ensures.entries in
    rw (p.1, p.2) (λ n entries b before bytes items lives h may.
    (refl, did_some_due n entries b before bytes items c.args.self.now _ c.taken.result _ c.due-count.result is c.due-count.ensures c.in_err-self.ensures.err (c.taken.ensures b before bytes items lives) h may))

pub invariant_of-self-2 : goal.invariant_of-self-2
invariant_of-self-2 c = record { within = due_fits c.entries.result.now c.args.self.now.script c.args.self.now.done c.due-count.result c.taken.result c.args.self.now.within c.entries.ensures.entries c.due-count.ensures }

pub returns-clause-does : goal.returns-clause-does
returns-clause-does c = λ n entries b before bytes items lives h may.
    did_due n entries b before bytes items c.args.self.now _ c.taken.result _ c.due-count.result _ _ (behind c.args.self.now.done c.entries.result.now c.args.self.now.script c.entries.ensures.entries) c.due-count.ensures c.in_ok-self.ensures.ok refl refl c.in_ok-self.ensures.moment lives (c.taken.ensures b before bytes items lives) h may
