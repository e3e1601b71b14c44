use Rattle.llrp.specs.Calls.GeneralClients.{ServedGenerals}
use Rattle.llrp.proofs.general_sim.serve_clients.Given as goal

abbrev pub invariant-loop : goal.invariant-loop
invariant-loop g l = record {
  served : ServedGenerals l.answers.text.items l.keep l.script l.counter l.core (g.E.Sink.log l.fn.e) (g.E.Sink.log l.e) l.status;
}
