use Rattle.std.proofs.Common.{◌∷◌, length, refl, ap, subst, arith}
use Rattle.llrp_stream.specs.declared.engine.body_reader.BodyReader.{BodyReader}
use Rattle.llrp_stream.specs.declared.engine.body_reader.Stage.{Stage}
use Rattle.llrp_stream.specs.Calls.Reading.{IsAtStage, IsTailing}
use Rattle.llrp_stream.specs.Private.Reading.{rank}
use Rattle.llrp_stream.proofs.TailPart.{ended, ready_due, tail_work}
use Rattle.llrp_stream.proofs.engine.body_reader.BodyReader.end_tail.Goals as goal

pub returns : goal.returns
returns g c = λ octets was front b outer rd told d.
    let r : BodyReader = c.args.self.now in
    let t : IsTailing 0 r front b outer = subst (λ (x : Stage). IsAtStage x r front b outer) c.requires.stage rd.stage in
    record {
      within = omega arith;
      are = record {
        node = b;
        outer = outer;
        reads = record { level = rd.level; levels = rd.levels; stage = record { ready = ready_due 0 r front b outer t; aligned = t.aligned; reaches = ended 0 r front b outer t refl }; before = rd.before; small = rd.small; bit_small = rd.bit_small };
        told = c.in_ok-ready.ensures was (b ∷ outer) told;
      };
      place = omega arith;
      same = refl;
      set = refl;
      less = tail_work r _ (length octets) 0 refl refl (let k = ap rank c.requires.stage in omega (arith, k));
    }
