use Rattle.std.proofs.Common.{refl}
use Rattle.llrp_sides.proofs.SideLemmas.{segment_taken}
use Rattle.llrp_sides.proofs.side.Side.take.Goals as goal

pub returns : goal.returns
returns c =
    let out = c.take_reassembly-reassembly.ensures in
    segment_taken c.args.stamp c.args.segment.now c.first_of-first.result c.as_slice.result.now c.args.self.now c.take_reassembly-reassembly.new.self c.put.new.self _ c.take_reassembly-reassembly.result c.put.new.reassembly c.args.text.now c.put.new.text
    c.first_of-first.ensures c.as_slice.ensures.value out.out out.stretch out.lawful out.passed c.in_ok-put.ensures.puts refl refl refl refl
