use Rattle.llrp_general.proofs.ServeLemmas.{Noted}
use Rattle.llrp_general.proofs.serve.note_others.Given as goal

abbrev pub invariant-notes : goal.invariant-notes
invariant-notes g l = Noted (g.W.Sink.log l.fn.w) (g.W.Sink.log l.w) (g.O.OtherClients.count l.fn.others) (g.O.OtherClients.count l.others) l.fn.server l.server
