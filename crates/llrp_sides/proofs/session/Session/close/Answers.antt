use Rattle.std.proofs.Common.{refl}
use Rattle.llrp_sides.proofs.SessionLemmas.{closed}
use Rattle.llrp_sides.proofs.session.Session.close.Goals as goal

pub returns : goal.returns
returns c = closed c.args.time.now c.args.place c.args.self.now c.end_pair.new.self _ c.args.text.now c.end_pair.new.text c.requires.in_step c.in_ok-end_pair.ensures c.remove.ensures.items c.close.ensures refl
