use Rattle.std.proofs.Common.{List, refl, subst, arith}
use Rattle.std.proofs.lemmas.List.{take_all}
use Rattle.std.proofs.lemmas.Result.{err_from_is_err_and}
use Rattle.llrp_endpoints.specs.declared.script.Entry.{Entry}
use Rattle.llrp_endpoints.proofs.ActingLemmas.{moment_step}
use Rattle.llrp_general.specs.Private.Acting.{DoesAll, entry_dates}
use Rattle.llrp_general.proofs.ActingLemmas.{did_entry, did_none, some_entries}
use Rattle.llrp_general.proofs.acting.happen_all.Goals as goal

pub loop-entry-init : goal.loop-entry-init
loop-entry-init c = record { does = did_none c.args.reader.now c.args.sent.now.items; moment = refl }

pub loop-entry-preserved : goal.loop-entry-preserved
loop-entry-preserved c =
    let e : Entry = c.entry-item.result in
    record {
      does = did_entry c.args.entries.now c.loop-entry.entry-index e _ c.args.reader.now c.loop-entry.reader c.happen.new.self c.args.sent.now.items c.loop-entry.sent.items c.happen.new.out.items c.loop-entry-test.true c.entry-item.is c.event_in.ensures c.loop-entry.invariant.does c.in_ok-happen.ensures.happens;
      moment = moment_step c.args.moment c.loop-entry.moment c.args.entries.now c.loop-entry.entry-index e c.loop-entry-test.true c.entry-item.is c.loop-entry.invariant.moment;
    }

pub returns-in_err-happen-clause-err : goal.returns-in_err-happen-clause-err
returns-in_err-happen-clause-err c =
    let p = err_from_is_err_and c.from_residual.result c.from_residual.ensures.1 in
    rw p.1 (some_entries c.args.entries.now c.loop-entry.entry-index c.args.reader.now c.loop-entry.reader c.happen.new.self c.args.sent.now.items c.loop-entry.sent.items c.loop-entry.invariant.does c.in_err-happen.ensures.self_unchanged)

pub returns-clause-ok : goal.returns-clause-ok
returns-clause-ok c = subst (λ (es : List Entry). DoesAll (entry_dates es) c.args.reader.now c.loop-entry.reader c.args.sent.now.items c.loop-entry.sent.items) (take_all c.loop-entry.entry-index c.args.entries.now (omega (arith, c.loop-entry-test.false))) c.loop-entry.invariant.does
