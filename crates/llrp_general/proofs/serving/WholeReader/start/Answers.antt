use Rattle.std.proofs.Common.{refl}
use Rattle.std.proofs.lemmas.Result.{err_from_is_err_and}
use Rattle.llrp_live.specs.Calls.Living.{begun}
use Rattle.llrp_general.proofs.TakeLemmas.{not_connected, started}
use Rattle.llrp_general.proofs.serving.WholeReader.start.Goals as goal

pub returns-in_err-happen : goal.returns-in_err-happen
returns-in_err-happen c =
    let p = err_from_is_err_and c.from_residual.result c.from_residual.ensures.1 in
    rw (p.1, p.2) (λ s f. (refl, not_connected s c.args.self.now c.happen.new.self f c.in_err-happen.ensures.self_unchanged))

pub returns : goal.returns
returns c = λ s f. started s c.args.self.now _ c.happen_due.new.self c.args.sent.now.items c.happen.new.out.items c.happen_due.new.sent.items f (c.in_ok-happen.ensures.happens (begun s.reader s.answers) _ _ _ f.lives) c.happen_due.result c.happen_due.ensures.does refl refl refl c.happen_due.ensures.decoder
