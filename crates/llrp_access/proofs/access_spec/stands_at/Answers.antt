use Rattle.std.proofs.Common.{◌≡◌, refl}
use Rattle.llrp_access.specs.Calls.Targets.{bits_of}
use Rattle.llrp_access.proofs.BitLemmas.{bit_fails, bit_holds}
use Rattle.llrp_access.proofs.access_spec.stands_at.Goals as goal

pub returns-then-not-agrees_at : goal.returns-then-not-agrees_at
returns-then-not-agrees_at c =
    bit_fails c.args.mask.now c.args.wanted.now (bits_of c.args.words.now) c.args.pointer c.loop-i.i _ _ c.wanted_at.result c.bit_at-bit.result c.agrees_at.result _ c.loop-i-test.true refl c.wanted_at.ensures c.bit_at-bit.ensures c.agrees_at.ensures c.if-not-agrees_at.true c.loop-i.invariant

pub loop-i-preserved : goal.loop-i-preserved
loop-i-preserved c =
    bit_holds c.args.mask.now c.args.wanted.now (bits_of c.args.words.now) c.args.pointer c.loop-i.i _ _ c.wanted_at.result c.bit_at-bit.result c.agrees_at.result _ c.loop-i-test.true refl c.wanted_at.ensures c.bit_at-bit.ensures c.agrees_at.ensures c.if-not-agrees_at.false c.loop-i.invariant
