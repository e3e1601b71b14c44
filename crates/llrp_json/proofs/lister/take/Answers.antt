use Rattle.std.proofs.Common.{[], subst}
use Rattle.llrp_stream.specs.declared.engine.frames.Outcome.{Outcome}
use Rattle.llrp_stream.specs.Calls.Frames.{GivesIn}
use Rattle.llrp_json.proofs.PieceLemmas.{takes_bad, takes_whole}
use Rattle.llrp_json.proofs.lister.take.Goals as goal

pub returns-in-Whole : goal.returns-in-Whole
returns-in-Whole g c = λ p limit frame was gives.
    let stands = g.P.Listener.stands c.args.printer.now in
    let ends = g.P.Listener.ends c.args.printer.now in
    takes_whole g.P.ItemPrinter.is_text stands ends p limit frame was (λ before m now ended. g.met.P.ItemPrinter.message_text c.args.printer.now before m now ended)
    (subst (λ (o : Outcome). GivesIn p (stands was) (ends was) (λ now. stands now []) limit frame o) c.in-Whole.is gives)

pub returns-in-Bad : goal.returns-in-Bad
returns-in-Bad g c =
    rw c.in-Bad.is
    (takes_bad g.P.ItemPrinter.is_text (g.P.Listener.stands c.args.printer.now) (g.P.Listener.stands c.push_fault.new.self) (g.P.Listener.ends c.args.printer.now) c.in-Bad.id c.in-Bad.fault c.push_fault.result c.push_fault.ensures)
