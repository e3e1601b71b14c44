use Rattle.std.proofs.Common.{arith, inl, inr, refl}
use Rattle.llrp_files.proofs.FilesLemmas.{failed_at, files_kept, is_reached, ran_all, ran_at, ran_more, ran_with}
use Rattle.llrp_files.proofs.files.run_files.Goals as goal

pub loop-name-init : goal.loop-name-init
loop-name-init g c = (refl, refl, refl)

pub run_file-taken-requires-clause-errors : goal.run_file-taken-requires-clause-errors
run_file-taken-requires-clause-errors g c = omega (arith, files_kept _ _ _ _ _ _ _ _ _ c.loop-name.invariant, c.requires.errors)

pub returns-then-status-eq-USAGE : goal.returns-then-status-eq-USAGE
returns-then-status-eq-USAGE g c =
    let done = is_reached _ _ (λ name. name.now) _ c.loop-name.name-index _ _ _ _ _ _ (omega arith) c.loop-name.invariant in
    inr (refl, _, _, _, done, ran_with _ _ _ _ _ _ _ _ _ (ran_at _ _ _ _ _ _ _ _ _ c.run_file-taken.ensures c.in-Ok.is) c.if-status-eq-USAGE.true)

pub returns-in-Err : goal.returns-in-Err
returns-in-Err g c =
    (_, _, _, is_reached _ _ (λ name. name.now) _ c.loop-name.name-index _ _ _ _ _ _ (omega arith) c.loop-name.invariant, failed_at _ _ _ _ _ _ _ _ _ c.run_file-taken.ensures c.in-Err.is)

pub loop-name-preserved : goal.loop-name-preserved
loop-name-preserved g c =
    let ran = ran_at _ _ _ _ _ _ _ _ _ c.run_file-taken.ensures c.in-Ok.is in
    ran_more _ _ (λ name. name.now) c.args.names.now c.loop-name.name-index _ _ _ _ _ _ _ _ _ _ (omega arith) c.loop-name.invariant ran c.if-status-eq-USAGE.false c.max-worst.ensures

pub returns : goal.returns
returns g c = inl (ran_all _ _ (λ name. name.now) c.args.names.now c.loop-name.name-index _ _ _ _ _ c.loop-name-test.false c.loop-name.invariant)
