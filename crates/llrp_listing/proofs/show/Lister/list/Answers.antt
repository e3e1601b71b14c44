use Rattle.std.proofs.Common.{subst}
use Rattle.llrp_stream.specs.declared.engine.frames.Outcome.{Outcome}
use Rattle.llrp_listing.specs.Private.Lister.{Tells}
use Rattle.llrp_listing.proofs.ShowLemmas.{whole_listed}
use Rattle.llrp_listing.proofs.show.Lister.list.Goals as goal

pub returns-in-Whole-clause-lists : goal.returns-in-Whole-clause-lists
returns-in-Whole-clause-lists g c = λ known limit frame was told.
    let stands = g.P.Listener.stands c.args.self.now.printer in
    let ends = g.P.Listener.ends c.args.self.now.printer in
    whole_listed g.P.ItemPrinter.is_text stands (g.P.Listener.stands c.hand_on_pieces.new.printer) ends known limit frame was c.args.self.now.lawful _ _ c.hand_on_pieces.result
    (λ before m now ended. g.met.P.ItemPrinter.message_text c.args.self.now.printer before m now ended)
    (subst (λ (o : Outcome). Tells stands ends known limit frame was o) c.in-Whole.is told) c.hand_on_pieces.ensures

pub returns-in-Bad-clause-lists : goal.returns-in-Bad-clause-lists
returns-in-Bad-clause-lists g c = λ known limit frame was told.
    c.list_fault.ensures.lists known limit frame was (subst (λ (o : Outcome). Tells (g.P.Listener.stands c.args.self.now.printer) (g.P.Listener.ends c.args.self.now.printer) known limit frame was o) c.in-Bad.is told)
