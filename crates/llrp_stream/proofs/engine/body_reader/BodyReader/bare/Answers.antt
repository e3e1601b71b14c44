use Rattle.std.proofs.Common.{◌≡◌, ℕ, ◌+◌, ◌*◌, List, [], ◌∷◌, refl, ap, subst, arith, length, drop}
use Rattle.std.proofs.lemmas.List.{drop_all}
use Rattle.llrp_schema.specs.Schema.{FieldRule, fields_of}
use Rattle.llrp_tree.specs.OpenTree.{Begun, due, Rest}
use Rattle.llrp_stream.specs.Calls.Front.{Reaches}
use Rattle.llrp_stream.specs.Calls.Reading.{IsAtStage, IsLeading}
use Rattle.llrp_stream.specs.Private.Reading.{rank}
use Rattle.llrp_stream.specs.declared.engine.body_reader.BodyReader.{BodyReader}
use Rattle.llrp_stream.specs.declared.engine.body_reader.Stage.{Stage}
use Rattle.llrp_stream.proofs.ReadyPart.{resting, aligned, ready_work}
use Rattle.llrp_stream.proofs.engine.body_reader.BodyReader.bare.Goals as goal

pub returns-clause-moves : goal.returns-clause-moves
returns-clause-moves g c = λ octets was front b outer rd told d.
    let r : BodyReader = c.args.self.now in
    let s : IsLeading 0 r front b outer = subst (λ (x : Stage). IsAtStage x r front b outer) c.requires.stage rd.stage in
    let none_due : drop (length b.fields) (fields_of r.top.kind) ≡ [] = drop_all (length b.fields) (fields_of r.top.kind) (let few = ap (λ (fs : List FieldRule). length fs) c.requires.bare.fields in omega arith) in
    let rest : due b ≡ Rest = resting b r.top.kind rd.level.kind (ap (λ (x : Begun). x.tail) s.bare) none_due c.requires.bare.tail in
    let zero : r.bit ≡ 0 = aligned front r.octets b outer r.at r.bit s.reaches rest rd.bit_small in
    let place : 8 * r.at + r.bit ≡ 8 * r.at = omega (arith, zero) in
    record {
      within = omega arith;
      are = record {
        node = b;
        outer = outer;
        reads = record { level = rd.level; levels = rd.levels; stage = record { ready = rest; aligned = zero; reaches = subst (λ (n : ℕ). Reaches r.set front r.octets (b ∷ outer) n) place s.reaches }; before = rd.before; small = rd.small; bit_small = rd.bit_small };
        told = c.in_ok-ready.ensures was (b ∷ outer) told;
      };
      place = omega arith;
      same = refl;
      set = refl;
      less = ready_work r _ (length octets) refl refl (ap rank c.requires.stage) refl;
    }
