use Rattle.std.proofs.Common.{List, subst, arith}
use Rattle.std.proofs.lemmas.Result.{err_from_is_err_and}
use Rattle.llrp_endpoints.specs.declared.script.Entry.{Entry}
use Rattle.llrp.specs.Calls.Network.{Serves}
use Rattle.llrp.specs.Calls.Clients.{IsGreater, none, one_more}
use Rattle.llrp.proofs.ClientLemmas.{all_served, greater_of, no_line, no_memory, no_network, none_failed, not_greater}
use Rattle.llrp.proofs.clients.serve_clients.Goals.{then-ended-status, else-ended-status}
use Rattle.llrp.proofs.clients.serve_clients.Goals as goal

pub loop-init : goal.loop-init
loop-init g c = record { served = none (g.E.Sink.log c.args.e.now) }

pub conclude-requires : goal.conclude-requires
conclude-requires g c = omega (arith, none_failed c.args.script.now c.loop.counter c.loop.status (g.E.Sink.log c.args.e.now) (g.E.Sink.log c.loop.e) c.loop.invariant.served, c.requires)

pub returns-in_default : goal.returns-in_default
returns-in_default g c = no_memory c.args.script.now c.args.most c.loop.counter c.loop.status (g.E.Sink.log c.args.e.now) (g.E.Sink.log c.loop.e) (g.E.Sink.log c.conclude.new.e) c.conclude.result c.loop-test.true c.loop.invariant.served c.conclude.ensures

pub conclude-requires-in_default-serve_next : goal.conclude-requires-in_default-serve_next
conclude-requires-in_default-serve_next g c = omega (arith, none_failed c.args.script.now c.loop.counter c.loop.status (g.E.Sink.log c.args.e.now) (g.E.Sink.log c.loop.e) c.loop.invariant.served, c.requires)

pub returns-in_default-serve_next : goal.returns-in_default-serve_next
returns-in_default-serve_next g c =
    no_network c.args.script.now c.args.most c.loop.counter c.loop.status (g.E.Sink.log c.args.e.now) (g.E.Sink.log c.loop.e) (g.E.Sink.log c.conclude-in_default-serve_next.new.e) c.conclude-in_default-serve_next.result c.loop-test.true c.loop.invariant.served
    c.conclude-in_default-serve_next.ensures

pub conclude-requires-in-loop : goal.conclude-requires-in-loop
conclude-requires-in-loop g c = omega (arith, none_failed c.args.script.now c.loop.counter c.loop.status (g.E.Sink.log c.args.e.now) (g.E.Sink.log c.loop.e) c.loop.invariant.served, c.requires)

pub returns-in_err-ended : goal.returns-in_err-ended
returns-in_err-ended g c =
    let runs = subst (λ (s : List Entry). Serves s c.in-Some.outcome) c.in-Ok.ensures c.in-Some.ensures in
    let p = err_from_is_err_and c.from_residual.result c.from_residual.ensures.1 in
    rw (p.1, p.2) (no_line c.args.script.now c.args.most c.loop.counter c.loop.status (g.E.Sink.log c.args.e.now) (g.E.Sink.log c.loop.e) (g.E.Sink.log c.conclude-in-loop.new.e) c.in-Some.outcome c.in_err-ended.field-0.0 c.loop-test.true c.loop.invariant.served runs c.in_err-ended.ensures)

pub loop-preserved : goal.loop-preserved
loop-preserved g c =
    let runs = subst (λ (s : List Entry). Serves s c.in-Some.outcome) c.in-Ok.ensures c.in-Some.ensures in
    let greatest : IsGreater c.loop.status c.in_ok-ended.ended c.if-ended-status.status = elim c.if-ended-status.branch [
      | then-ended-status w ↦ greater_of c.loop.status c.in_ok-ended.ended c.if-ended-status.status (omega (arith, w.if-ended-status.true, w.status-is)) (omega (arith, w.status-is)) w.status-is
      | else-ended-status w ↦ not_greater c.loop.status c.in_ok-ended.ended c.if-ended-status.status (omega (arith, w.status-is)) (omega (arith, w.if-ended-status.false, w.status-is)) w.status-is
    ] in
    record { served = one_more c.loop.counter c.loop.status c.in_ok-ended.ended c.if-ended-status.status (g.E.Sink.log c.args.e.now) (g.E.Sink.log c.loop.e) (g.E.Sink.log c.conclude-in-loop.new.e) c.in-Some.outcome c.loop.invariant.served runs c.in_ok-ended.ensures greatest }

pub returns : goal.returns
returns g c = all_served c.args.script.now c.args.most c.loop.counter c.loop.status (g.E.Sink.log c.args.e.now) (g.E.Sink.log c.loop.e) (omega (arith, c.loop-test.false, c.loop.auto.counter-end)) c.loop.invariant.served
