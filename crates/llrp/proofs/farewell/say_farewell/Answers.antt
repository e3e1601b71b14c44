use Rattle.llrp.proofs.WatchLemmas.{leaves}
use Rattle.llrp.proofs.farewell.say_farewell.Goals as goal

pub returns : goal.returns
returns g c = leaves c.args.disables c.args.id (g.W.Sink.log c.args.w.now) (g.W.Sink.log c.encode_listing.new.w) c.encode_listing.result (rw (c.as_slice.ensures, c.in-Ok.ensures) at c.encode_listing.ensures)
