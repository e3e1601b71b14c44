use Rattle.std.proofs.Common.{refl, inl, ◌++◌}
use Rattle.std.proofs.lemmas.Result.{err_from_is_err_and}
use Rattle.llrp_listing.proofs.ShowLemmas.{fault_listed}
use Rattle.llrp_listing.proofs.show.Lister.list_fault.Goals as goal

pub hand_on_pieces-requires-clause-some : goal.hand_on_pieces-requires-clause-some
hand_on_pieces-requires-clause-some g c =
    let was = c.requires.some.0 in
    let pushed = c.in_ok-push_fault.ensures was c.requires.some.1 in
    (was ++ pushed.0, pushed.2)

pub returns-in_err-push_fault-clause-lists : goal.returns-in_err-push_fault-clause-lists
returns-in_err-push_fault-clause-lists g c = λ known limit frame was told.
    let p = err_from_is_err_and c.from_residual.result c.from_residual.ensures.1 in
    rw (p.1, p.2) (inl (refl, refl))

pub returns-clause-lists : goal.returns-clause-lists
returns-clause-lists g c = λ known limit frame was told.
    fault_listed g.P.ItemPrinter.is_text (g.P.Listener.stands c.args.self.now.printer) (g.P.Listener.stands c.push_fault.new.self) (g.P.Listener.stands c.hand_on_pieces.new.printer) (g.P.Listener.ends c.args.self.now.printer) known limit c.args.id c.args.fault frame was c.args.self.now.lawful _ _ c.hand_on_pieces.result
    c.in_ok-push_fault.ensures told c.hand_on_pieces.ensures
