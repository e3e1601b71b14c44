use Rattle.llrp_listing.proofs.ShowLemmas.{begun}
use Rattle.llrp_listing.proofs.show.Lister.new.Goals as goal

pub returns : goal.returns
returns g c = λ log. begun g.P.ItemPrinter.is_text (g.P.Listener.begins c.args.printer) (g.P.Listener.stands c.args.printer) c.args.set c.args.limit log _ c.new_in.ensures.set c.new_in.ensures.limit c.new_in.ensures.idle c.requires.fresh
