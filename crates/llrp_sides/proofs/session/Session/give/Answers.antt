use Rattle.std.proofs.Common.{refl}
use Rattle.llrp_sides.proofs.SessionLemmas.{at_index}
use Rattle.llrp_sides.proofs.session.Session.give.Goals as goal

pub returns : goal.returns
returns c = (
  c.take.new.self,
  c.is_over.ensures,
  record {
    pair = c.index_mut-pair.result.now;
    at = at_index c.args.self.now.pairs.items c.args.place c.index_mut-pair.result.now c.requires c.index_mut-pair.ensures.value;
    takes = c.in_ok-take.ensures;
    items = refl;
    same = refl;
  },
)
