use Rattle.std.proofs.Common.{◌≡◌, ◌∙◌, ◌+◌, ap, sym, refl, subst, rules, take}
use Rattle.std.proofs.lemmas.Result.{err_from_is_err_and}
use Rattle.tag_memory.specs.Calls.Memory.{Memory}
use Rattle.llrp_access.specs.Calls.Operations.{outcome, outcomes, after, after_all}
use Rattle.llrp_access.proofs.OperationLemmas.{one_more, one_more_result}
use Rattle.llrp_access.proofs.operation.perform.Goals as goal

pub loop-operation-init : goal.loop-operation-init
unfolding outcomes after_all
loop-operation-init c = search rules

pub returns-in_err-push-clause-some : goal.returns-in_err-push-clause-some
returns-in_err-push-clause-some c =
    let so = c.loop-operation.invariant in
    let now = c.in_ok-result.ensures.memory ∙ ap (after c.operation-item.result) so.memory ∙ sym (one_more c.args.operations.now c.loop-operation.operation-index c.operation-item.result c.args.memory.now c.loop-operation-test.true c.operation-item.is) in
    let p = err_from_is_err_and c.from_residual-in_err-push.result c.from_residual-in_err-push.ensures.1 in
    rw p.1 (c.loop-operation.operation-index + 1, now)

pub loop-operation-preserved : goal.loop-operation-preserved
loop-operation-preserved c =
    let so = c.loop-operation.invariant in
    let os = c.args.operations.now in
    let i = c.loop-operation.operation-index in
    record {
      results = one_more_result os i c.operation-item.result c.args.memory.now c.loop-operation.results.items c.push.new.self.items c.in_ok-result.result c.loop-operation-test.true c.operation-item.is so.results c.in_ok-push.ensures.items (c.in_ok-result.ensures.result ∙ ap (λ (m : Memory). outcome c.operation-item.result m) so.memory);
      memory = c.in_ok-result.ensures.memory ∙ ap (after c.operation-item.result) so.memory ∙ sym (one_more os i c.operation-item.result c.args.memory.now c.loop-operation-test.true c.operation-item.is);
    }
