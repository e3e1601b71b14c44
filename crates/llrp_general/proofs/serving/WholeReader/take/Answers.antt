use Rattle.std.proofs.Common.{◌++◌, Bool, Ok, subst}
use Rattle.std.proofs.lemmas.Result.{err_from_is_err_and}
use Rattle.llrp_general.specs.Private.Standing.{Fetched}
use Rattle.llrp_general.proofs.TakeLemmas.{taken_on, taken_in_part}
use Rattle.llrp_general.proofs.serving.WholeReader.take.Goals as goal

pub returns-in_err-fetch-clause-takes : goal.returns-in_err-fetch-clause-takes
returns-in_err-fetch-clause-takes c =
    let p = err_from_is_err_and c.from_residual.result c.from_residual.ensures.1 in
    rw (p.1, p.2) (λ s others bytes messages items f are. c.in_err-fetch.ensures.fetches s others bytes messages items f are)

pub returns-then-branch-clause-takes : goal.returns-then-branch-clause-takes
returns-then-branch-clause-takes c = λ s others bytes messages items f are.
    subst (λ (x : Bool). Fetched s others f.done (bytes ++ c.args.part.now) messages items c.args.item.now c.fetch.new.self c.args.sent.now.items c.fetch.new.sent.items (Ok x)) c.if-branch.true (c.in_ok-fetch.ensures.fetches s others bytes messages items f are)

pub returns-in_err-happen_due-clause-takes : goal.returns-in_err-happen_due-clause-takes
returns-in_err-happen_due-clause-takes c =
    let p = err_from_is_err_and c.from_residual-in_err-happen_due.result c.from_residual-in_err-happen_due.ensures.1 in
    rw (p.1, p.2) (λ s others bytes messages items f are.
    taken_in_part s others items c.args.item.now bytes _ messages c.args.self.now c.fetch.new.self c.happen_due.new.self c.args.sent.now.items c.fetch.new.sent.items c.happen_due.new.sent.items f c.in_ok-fetch.field-0 c.if-branch.false (c.in_ok-fetch.ensures.fetches s others bytes messages items f are) c.in_ok-fetch.ensures.kept c.in_err-happen_due.field-0.0 c.in_err-happen_due.ensures.does are)

pub returns-clause-takes : goal.returns-clause-takes
returns-clause-takes c = λ s others bytes messages items f are.
    taken_on s others items c.args.item.now bytes _ messages c.args.self.now c.fetch.new.self c.happen_due.new.self c.args.sent.now.items c.fetch.new.sent.items c.happen_due.new.sent.items f c.in_ok-fetch.field-0 c.if-branch.false (c.in_ok-fetch.ensures.fetches s others bytes messages items f are) c.in_ok-fetch.ensures.kept c.in_ok-happen_due.ensures.does
