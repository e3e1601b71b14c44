use Rattle.llrp_operations.proofs.TurnLemmas.{Turns}
use Rattle.llrp_operations.proofs.talk.converse.Given as goal

abbrev pub invariant-turns : goal.invariant-turns
invariant-turns g l = record {
  turns : Turns l._turn l.fn.conversation l.conversation (g.R.Source.log l.fn.r) (g.R.Source.log l.r) (g.W.Sink.log l.fn.w) (g.W.Sink.log l.w) l.out.items;
}
