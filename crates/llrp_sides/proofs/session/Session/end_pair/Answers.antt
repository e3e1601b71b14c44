use Rattle.std.proofs.Common.{◌∙◌, ◌&&◌, Bool, ap, refl}
use Rattle.llrp_sides.proofs.SessionLemmas.{at_index}
use Rattle.llrp_sides.proofs.session.Session.end_pair.Goals as goal

pub returns : goal.returns
returns c = record {
  pair = c.index_mut-pair.result.now;
  at = at_index c.args.self.now.pairs.items c.args.place c.index_mut-pair.result.now c.requires c.index_mut-pair.ensures.value;
  gone = c.end.new.self;
  ends = c.in_ok-end.ensures;
  items = refl;
  is_lawful = c.both-self.ensures ∙ ap (λ (b : Bool). c.args.self.now.is_lawful && b) c.is_lawful-is_lawful.ensures;
  same = refl;
}
