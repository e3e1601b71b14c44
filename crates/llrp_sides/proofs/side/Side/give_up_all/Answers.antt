use Rattle.llrp_sides.proofs.SideLemmas.{no_more_waits}
use Rattle.llrp_sides.proofs.side.Side.give_up_all.Goals as goal

pub gaps-preserved : goal.gaps-preserved
gaps-preserved c = record {
  sound = c.in-Ok-Some.ensures.sound;
  same = λ more. absurd (no_more_waits c.in-Ok-Some.lost c.in-Ok-Some.field-0 c.args.reassembly.now c.gaps.reassembly c.give_up.new.self _ _ c.in-Ok-Some.field-0-is c.in-Ok-Some.ensures.gives_up (c.gaps.invariant.same more).0 more);
}
