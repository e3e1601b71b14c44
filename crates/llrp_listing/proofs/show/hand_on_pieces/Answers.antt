use Rattle.std.proofs.Common.{[], inr}
use Rattle.llrp_listing.proofs.ShowLemmas.{all_handed}
use Rattle.llrp_listing.proofs.show.hand_on_pieces.Goals as goal

pub returns : goal.returns
returns g c = λ was s.
    all_handed (g.P.Listener.stands c.args.printer.now) (g.P.Listener.stands c.hand_on.new.printer) was _ _ c.hand_on.result s (c.hand_on.ensures.written was ([], inr s)) c.hand_on.ensures.stands
