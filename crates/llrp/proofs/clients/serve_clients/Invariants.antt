use Rattle.llrp.specs.Calls.Clients.{ServedClients}
use Rattle.llrp.proofs.clients.serve_clients.Given as goal

abbrev pub invariant-loop : goal.invariant-loop
invariant-loop g l = record {
  served : ServedClients l.script l.counter (g.E.Sink.log l.fn.e) (g.E.Sink.log l.e) l.status;
}
