use Rattle.std.proofs.Common.{[], ◌++◌, inr}
use Rattle.std.proofs.lemmas.Result.{err_from_is_err_and}
use Rattle.llrp_listing.proofs.ShowLemmas.{end_listed, end_not_gathered, end_stopped}
use Rattle.llrp_listing.proofs.show.Lister.finish.Goals as goal

pub hand_on-requires-clause-some : goal.hand_on-requires-clause-some
hand_on-requires-clause-some g c =
    let held = c.requires.some in
    (held.0 ++ g.P.ItemPrinter.text_of_end c.finish-end.result, ([], inr (c.in_ok-push_end.ensures held.0 (c.give_up.ensures held.0 held.1.0 held.1.1))))

pub returns-in_err-push_end : goal.returns-in_err-push_end
returns-in_err-push_end g c = λ known limit bytes log finishes.
    let p = err_from_is_err_and c.from_residual.result c.from_residual.ensures.1 in
    rw (p.1, p.2)
    (end_not_gathered g.P.ItemPrinter.is_text g.P.ItemPrinter.text_of_end c.requires.one (g.P.Listener.begins c.args.self.now.printer) (g.P.Listener.stands c.args.self.now.printer) (g.P.Listener.stands c.give_up.new.self) known limit bytes log _ c.args.self.now.frames c.args.self.now.lawful c.finish-end.result finishes
    (c.finish-end.ensures.stands, c.finish-end.ensures.broken) c.give_up.ensures)

pub returns-in_err-hand_on : goal.returns-in_err-hand_on
returns-in_err-hand_on g c = λ known limit bytes log finishes.
    let p = err_from_is_err_and c.from_residual-in_err-hand_on.result c.from_residual-in_err-hand_on.ensures.1 in
    rw (p.1, p.2)
    (end_stopped g.P.ItemPrinter.is_text g.P.ItemPrinter.text_of_end c.requires.one (g.P.Listener.begins c.args.self.now.printer) (g.P.Listener.stands c.args.self.now.printer) (g.P.Listener.stands c.give_up.new.self) known limit bytes log _ c.args.self.now.frames c.args.self.now.lawful c.finish-end.result finishes
    (c.finish-end.ensures.stands, c.finish-end.ensures.broken) c.give_up.ensures (g.P.Listener.stands c.push_end.new.self) c.in_ok-push_end.ensures _ _
    (λ text s. c.in_err-hand_on.ensures.written text ([], inr s)))

pub returns : goal.returns
returns g c = λ known limit bytes log finishes.
    end_listed g.P.ItemPrinter.is_text g.P.ItemPrinter.text_of_end c.requires.one (g.P.Listener.begins c.args.self.now.printer) (g.P.Listener.stands c.args.self.now.printer) (g.P.Listener.stands c.give_up.new.self) known limit bytes log _ c.args.self.now.frames c.args.self.now.lawful c.finish-end.result finishes
    (c.finish-end.ensures.stands, c.finish-end.ensures.broken) c.give_up.ensures (g.P.Listener.stands c.push_end.new.self) c.in_ok-push_end.ensures _ _
    (λ text s. c.in_ok-hand_on.ensures.written text ([], inr s)) c.verdict.ensures
