use Rattle.std.proofs.Common.{refl}
use Rattle.llrp_tree.proofs.FrontLemmas.{front_octets, narrow_octets}
use Rattle.llrp_tree.proofs.heads.in_front.Goals as goal

pub returns-then-packed-le64-clause-spelled : goal.returns-then-packed-le64-clause-spelled
returns-then-packed-le64-clause-spelled c = narrow_octets c.args.packed.bits c.args.packed.number _ c.requires.some c.if-packed-le64.true c.requires.whole c.requires.below refl

pub returns-clause-spelled : goal.returns-clause-spelled
returns-clause-spelled c = front_octets c.args.packed.bits c.args.packed.number c.requires.some c.requires.few c.requires.whole c.requires.below
