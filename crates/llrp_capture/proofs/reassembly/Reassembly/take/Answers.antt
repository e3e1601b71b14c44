use Rattle.llrp_capture.proofs.SideLemmas.{continues}
use Rattle.llrp_capture.proofs.reassembly.Reassembly.take.Goals as goal

pub returns-in-Ok-clause-takes : goal.returns-in-Ok-clause-takes
returns-in-Ok-clause-takes c =
    let t = c.in-Ok.ensures in (
      c.place_of-place.result,
      c.place_of-place.ensures,
      t.0,
      t.1,
      continues c.args.self.now c.take_part.new.self c.place_of-place.result c.part_from-ahead.result.0 c.args.octets.now
          c.part_from-ahead.result.1.now t.0 c.part_from-ahead.ensures.same t.2,
    )
