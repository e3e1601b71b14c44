use Rattle.std.proofs.lemmas.Result.{err_from_is_err_and}
use Rattle.llrp_endpoints.specs.declared.script.Entry.{Entry}
use Rattle.llrp_endpoints.proofs.ActingLemmas.{did_step, moment_step, some_step}
use Rattle.llrp_endpoints.proofs.serving.events.happen_all.Goals as goal

pub loop-entry-preserved : goal.loop-entry-preserved
loop-entry-preserved c =
    let e : Entry = c.entry-item.result in
    record {
      did = did_step c.args.core.now c.loop-entry.core c.happen.new.core c.args.entries.now c.loop-entry.entry-index e _ c.args.out.now.items c.loop-entry.out.items c.happen.new.out.items c.loop-entry-test.true c.entry-item.is c.event_in.ensures c.loop-entry.invariant.did c.in_ok-happen.ensures.ok;
      moment = moment_step c.args.moment c.loop-entry.moment c.args.entries.now c.loop-entry.entry-index e c.loop-entry-test.true c.entry-item.is c.loop-entry.invariant.moment;
    }

pub returns-in_err-happen-clause-err : goal.returns-in_err-happen-clause-err
returns-in_err-happen-clause-err c =
    let p = err_from_is_err_and c.from_residual.result c.from_residual.ensures.1 in
    rw (p.1, p.2) (some_step c.args.core.now c.loop-entry.core c.args.entries.now c.loop-entry.entry-index c.entry-item.result _ _ c.args.out.now.items c.loop-entry.out.items c.happen.new.out.items c.loop-entry-test.true c.entry-item.is c.event_in.ensures c.loop-entry.invariant.did c.in_err-happen.ensures.err)
