use Rattle.llrp_ask.proofs.RunLemmas.{Talks}
use Rattle.llrp_ask.proofs.ask.converse.Given as goal

abbrev pub invariant-turns : goal.invariant-turns
invariant-turns g l = record {
  talks : Talks l._turn l.fn.conversation l.conversation (g.R.Source.log l.fn.r) (g.R.Source.log l.r) (g.W.Sink.log l.fn.w) (g.W.Sink.log l.w) (g.P.Sink.log l.fn.p) (g.P.Sink.log l.p) l.out.items;
}
