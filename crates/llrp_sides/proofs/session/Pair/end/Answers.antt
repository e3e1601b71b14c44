use Rattle.std.proofs.Common.{refl}
use Rattle.std.proofs.lemmas.Result.{on_ok_weaker}
use Rattle.llrp_sides.proofs.session.Pair.end.Goals as goal

pub returns : goal.returns
returns c = on_ok_weaker c.end-2.result (λ e. record {
  between = c.end.new.text;
  first = _;
  first_is = (refl, refl, refl);
  client = c.in_ok-end.ensures;
  second = _;
  second_is = (refl, refl, refl);
  reader = e;
}) c.end-2.ensures
