use Rattle.std.proofs.Common.{List, subst, arith}
use Rattle.std.proofs.lemmas.Result.{err_from_is_err_and}
use Rattle.llrp_endpoints.specs.declared.script.Entry.{Entry}
use Rattle.llrp.specs.Calls.Clients.{IsGreater}
use Rattle.llrp.specs.Calls.GeneralClients.{ServesGeneral}
use Rattle.llrp.proofs.ClientLemmas.{greater_of, not_greater}
use Rattle.llrp.proofs.GeneralLemmas.{all_served, first_served, more_served, no_line, no_memory, no_network, none_failed}
use Rattle.llrp.proofs.general_sim.serve_clients.Goals.{then-ended-status, else-ended-status}
use Rattle.llrp.proofs.general_sim.serve_clients.Goals as goal

pub loop-init : goal.loop-init
loop-init g c = record { served = first_served c.args.answers.now.text.items c.args.keep c.args.script.now c.new_reader-core.result (g.E.Sink.log c.args.e.now) c.new_reader-core.ensures }

pub conclude-requires : goal.conclude-requires
conclude-requires g c = omega (arith, none_failed c.args.answers.now.text.items c.args.keep c.args.script.now c.loop.counter c.loop.status c.loop.core (g.E.Sink.log c.args.e.now) (g.E.Sink.log c.loop.e) c.loop.invariant.served, c.requires)

pub returns-in_default : goal.returns-in_default
returns-in_default g c = no_memory c.args.answers.now.text.items c.args.keep c.args.script.now c.args.most c.loop.counter c.loop.status c.loop.core (g.E.Sink.log c.args.e.now) (g.E.Sink.log c.loop.e) (g.E.Sink.log c.conclude.new.e) c.conclude.result c.loop-test.true c.loop.invariant.served c.conclude.ensures

pub conclude-requires-in_default-answers : goal.conclude-requires-in_default-answers
conclude-requires-in_default-answers g c = omega (arith, none_failed c.args.answers.now.text.items c.args.keep c.args.script.now c.loop.counter c.loop.status c.loop.core (g.E.Sink.log c.args.e.now) (g.E.Sink.log c.loop.e) c.loop.invariant.served, c.requires)

pub returns-in_default-answers : goal.returns-in_default-answers
returns-in_default-answers g c = no_memory c.args.answers.now.text.items c.args.keep c.args.script.now c.args.most c.loop.counter c.loop.status c.loop.core (g.E.Sink.log c.args.e.now) (g.E.Sink.log c.loop.e) (g.E.Sink.log c.conclude-in_default-answers.new.e) c.conclude-in_default-answers.result c.loop-test.true c.loop.invariant.served c.conclude-in_default-answers.ensures

pub conclude-requires-in_default-serve_next : goal.conclude-requires-in_default-serve_next
conclude-requires-in_default-serve_next g c = omega (arith, none_failed c.args.answers.now.text.items c.args.keep c.args.script.now c.loop.counter c.loop.status c.loop.core (g.E.Sink.log c.args.e.now) (g.E.Sink.log c.loop.e) c.loop.invariant.served, c.requires)

pub returns-in_default-serve_next : goal.returns-in_default-serve_next
returns-in_default-serve_next g c =
    no_network c.args.answers.now.text.items c.args.keep c.args.script.now c.args.most c.loop.counter c.loop.status c.loop.core (g.E.Sink.log c.args.e.now) (g.E.Sink.log c.loop.e) (g.E.Sink.log c.conclude-in_default-serve_next.new.e) c.conclude-in_default-serve_next.result c.loop-test.true c.loop.invariant.served
    c.conclude-in_default-serve_next.ensures

pub conclude-requires-in-loop : goal.conclude-requires-in-loop
conclude-requires-in-loop g c = omega (arith, none_failed c.args.answers.now.text.items c.args.keep c.args.script.now c.loop.counter c.loop.status c.loop.core (g.E.Sink.log c.args.e.now) (g.E.Sink.log c.loop.e) c.loop.invariant.served, c.requires)

pub returns-in_err-ended : goal.returns-in_err-ended
returns-in_err-ended g c =
    let runs = subst (λ (s : List Entry). ServesGeneral c.in-Ok-answers.answers.pairs.items s c.loop.core c.in-Some.left c.in-Some.outcome) c.in-Ok.ensures c.in-Some.ensures in
    let p = err_from_is_err_and c.from_residual.result c.from_residual.ensures.1 in
    rw (p.1, p.2) (no_line c.args.answers.now.text.items c.args.keep c.args.script.now c.args.most c.loop.counter c.loop.status c.loop.core c.in-Some.left c.in-Ok-answers.answers.pairs.items (g.E.Sink.log c.args.e.now) (g.E.Sink.log c.loop.e) (g.E.Sink.log c.conclude-in-loop.new.e) c.in-Some.outcome c.in_err-ended.field-0.0 c.loop-test.true c.loop.invariant.served c.in-Ok-answers.ensures runs c.in_err-ended.ensures)

pub loop-preserved : goal.loop-preserved
loop-preserved g c =
    let runs = subst (λ (s : List Entry). ServesGeneral c.in-Ok-answers.answers.pairs.items s c.loop.core c.in-Some.left c.in-Some.outcome) c.in-Ok.ensures c.in-Some.ensures in
    let greatest : IsGreater c.loop.status c.in_ok-ended.ended c.if-ended-status.status = elim c.if-ended-status.branch [
      | then-ended-status w ↦ greater_of c.loop.status c.in_ok-ended.ended c.if-ended-status.status (omega (arith, w.if-ended-status.true, w.status-is)) (omega (arith, w.status-is)) w.status-is
      | else-ended-status w ↦ not_greater c.loop.status c.in_ok-ended.ended c.if-ended-status.status (omega (arith, w.status-is)) (omega (arith, w.if-ended-status.false, w.status-is)) w.status-is
    ] in
    record { served = more_served c.args.answers.now.text.items c.args.keep c.args.script.now c.loop.counter c.loop.status c.in_ok-ended.ended c.if-ended-status.status c.loop.core c.in-Some.left c.next_core-core.result c.in-Ok-answers.answers.pairs.items (g.E.Sink.log c.args.e.now) (g.E.Sink.log c.loop.e) (g.E.Sink.log c.conclude-in-loop.new.e) c.in-Some.outcome c.loop.invariant.served c.in-Ok-answers.ensures runs c.next_core-core.ensures c.in_ok-ended.ensures greatest }

pub returns : goal.returns
returns g c = all_served c.args.answers.now.text.items c.args.keep c.args.script.now c.args.most c.loop.counter c.loop.status c.loop.core (g.E.Sink.log c.args.e.now) (g.E.Sink.log c.loop.e) (omega (arith, c.loop-test.false, c.loop.auto.counter-end)) c.loop.invariant.served
