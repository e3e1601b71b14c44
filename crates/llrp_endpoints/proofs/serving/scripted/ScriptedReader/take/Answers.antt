use Rattle.std.proofs.Common.{refl}
use Rattle.std.proofs.lemmas.Result.{err_from_is_err_and}
use Rattle.llrp_endpoints.proofs.ServingSteps.{closes, counted, still_open, stays_open, not_taken, taken_in_part, next_done}
use Rattle.llrp_endpoints.proofs.serving.scripted.ScriptedReader.take.Goals as goal

pub returns-in_err-happen : goal.returns-in_err-happen
returns-in_err-happen c =
    let p = err_from_is_err_and c.from_residual.result c.from_residual.ensures.1 in
    rw (p.1, p.2) (λ reader entries items h. not_taken reader entries items c.args.item c.args.self.now c.args.self.now _ _ _ _ h c.event_of.ensures c.in_err-happen.ensures.err)

pub returns-then-closing : goal.returns-then-closing
returns-then-closing c = λ reader entries items h. closes reader entries items c.args.item c.args.self.now c.args.self.now _ _ _ _ h c.event_of.ensures c.in_ok-happen.ensures.ok (c.if-closing.ensures.0 refl)

pub returns-in_err-happen_due : goal.returns-in_err-happen_due
returns-in_err-happen_due c =
    let p = err_from_is_err_and c.from_residual-in_err-happen_due.result c.from_residual-in_err-happen_due.ensures.1 in
    rw (p.1, p.2) (λ reader entries items h. taken_in_part reader entries items c.args.item c.args.self.now c.args.self.now _ c.happen.new.core _ _ _ _ h c.event_of.ensures c.in_ok-happen.ensures.ok (c.in_err-happen_due.ensures.err _ entries (next_done reader entries items c.args.self.now _ h refl refl refl) (counted _ _ _ h.taken_is c.saturating_add-self.ensures)))

pub returns : goal.returns
returns c = λ reader entries items h. stays_open reader entries items c.args.item c.args.self.now _ c.happen_due.new.self _ _ _ _ h c.event_of.ensures c.in_ok-happen.ensures.ok (still_open _ _ c.closes-closing.ensures.1 c.if-closing.false) (counted _ _ _ h.taken_is c.saturating_add-self.ensures) (c.in_ok-happen_due.ensures.ok _ entries (next_done reader entries items c.args.self.now _ h refl refl refl) (counted _ _ _ h.taken_is c.saturating_add-self.ensures)) c.in_ok-happen_due.ensures.taken
