use Rattle.std.proofs.Common.{refl}
use Rattle.llrp_sides.proofs.SessionLemmas.{was_pushed}
use Rattle.llrp_sides.proofs.session.Session.add_pair.Goals as goal

pub returns : goal.returns
returns c = record {
  pair = c.new-pair.result;
  is_new = c.new-pair.ensures.new;
  stream_is = c.new-pair.ensures.stream;
  items = was_pushed c.push.result _ _ _ c.if-is_err.ensures.value c.push.ensures.items;
  same = refl;
}
