use Rattle.std.proofs.Common.{refl}
use Rattle.std.proofs.lemmas.Result.{err_from_is_err_and}
use Rattle.llrp_endpoints.proofs.ServingSteps.{ok_by, err_by, fresh_done, connected, not_connected, connected_in_part}
use Rattle.llrp_endpoints.proofs.serving.scripted.ScriptedReader.connect.Goals as goal

pub returns-in_err-happen-clause-err : goal.returns-in_err-happen-clause-err
returns-in_err-happen-clause-err c =
    let p = err_from_is_err_and c.from_residual.result c.from_residual.ensures.1 in
    rw (p.1, p.2) (λ reader entries f. not_connected reader entries c.args.self.now _ _ _ f c.in_err-happen.ensures.err)

pub returns-clause-ok : goal.returns-clause-ok
returns-clause-ok c = ok_by c.happen_due.result (λ h. λ reader entries f. connected reader entries c.args.self.now _ c.happen_due.new.self _ _ _ f c.in_ok-happen.ensures.ok refl (h 0 entries (fresh_done reader entries c.args.self.now _ f refl refl refl) f.none_taken) c.happen_due.ensures.taken) c.happen_due.ensures.ok

pub returns-clause-err : goal.returns-clause-err
returns-clause-err c = err_by c.happen_due.result (λ e h. λ reader entries f. connected_in_part reader entries c.args.self.now c.happen.new.core e _ _ _ f c.in_ok-happen.ensures.ok (h 0 entries (fresh_done reader entries c.args.self.now _ f refl refl refl) f.none_taken)) c.happen_due.ensures.err
