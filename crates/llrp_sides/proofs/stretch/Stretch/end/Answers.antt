use Rattle.llrp_sides.proofs.StretchTakes.{ends_with}
use Rattle.llrp_sides.proofs.stretch.Stretch.end.Goals as goal

pub returns : goal.returns
returns c = λ bytes listing stands. ends_with c.args.stamp bytes listing _ c.ending-end.result c.args.self.now c.args.text.now _ c.ending-end.ensures c.in_ok-list_rest.ensures c.verdict_at.ensures stands
