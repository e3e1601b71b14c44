use Rattle.std.proofs.Common.{◌≡◌, ℕ, ◌+◌, ◌*◌, List, [], ◌∷◌, Some, ◌⊎◌, inl, inr, sym, ap, subst, ◌∙◌, arith, length, length-drop}
use Rattle.std.proofs.lemmas.List.{append-nil}
use Rattle.llrp_tree.specs.declared.fault.FrameErr.{FrameErr}
use Rattle.llrp_tree.specs.declared.fault.Reason.{Reason}
use Rattle.llrp_stream.specs.Calls.Front.{AreDeciding}
use Rattle.llrp_stream.specs.Calls.Received.{IsRefusedIn, StandAfter}
use Rattle.llrp_tree.specs.OpenTree.{Begun}
use Rattle.llrp_stream.specs.declared.engine.body_reader.BodyReader.{BodyReader}
use Rattle.llrp_stream.specs.declared.engine.body_reader.Stage.{Stage}
use Rattle.llrp_stream.specs.declared.engine.body_reader.Stage.TheVariants.{Leading, Tail, Children}
use Rattle.llrp_stream.specs.Calls.Reading.{IsAtStage, IsDueAt, IsStopped, MayFailFor, Told}
use Rattle.llrp_stream.specs.Private.Received.{IsReadBy}
use Rattle.llrp_stream.specs.Private.Front.{FailsWith}
use Rattle.llrp_stream.proofs.engine.body_reader.BodyReader.take_part.Goals as goal

due_at : (s : Stage) (r : BodyReader) (front : List ℕ) (b : Begun) (outer : List Begun) → IsAtStage s r front b outer → IsDueAt s r.first b
due_at (Leading next) r front b outer st = (st.count, ap (λ (x : Begun). x.tail) st.bare, st.first_is)
due_at (Tail left) r front b outer st = (st.so_far, ap (λ (x : Begun). x.tail) st.is)
due_at Children r front b outer st = st.ready

is_stopped : (r : BodyReader) (front : List ℕ) (t : List Begun) (reason : Reason) → IsReadBy r front t → MayFailFor r.stage reason → IsStopped (Some (record { node = r.top; stage = r.stage; first = r.first })) t reason
is_stopped r front [] reason rd m = rd
is_stopped r front (b ∷ outer) reason rd m = (rd.level, due_at r.stage r front b outer rd.stage, m)

either : (begins stands : List Begun → Type 0) (s : Stage) (t : List Begun) → Told begins stands s t → (begins t) ⊎ (stands t)
either begins stands (Leading next) t told = inl told
either begins stands (Tail left) t told = inl told
either begins stands Children t told = inr told

pub returns-in-Err-Bad : goal.returns-in-Err-Bad
returns-in-Err-Bad g c = λ was front are d.
    let r = c.args.self.now in
    let f = subst (λ (e : FrameErr). FailsWith (g.L.Listener.begins c.step.new.listener was) (g.L.Listener.stands c.step.new.listener was) c.step.new.self r.at r.set front r.octets e) c.in-Err-Bad.field-0-is (c.in-Err-Bad.ensures was front are d) in
    let t = f.1 in
    let all : 8 * length front ≡ 8 * (r.at + length c.args.octets.now) = (let l = ap (λ (x : List ℕ). length x) d in omega (arith, l, length-drop r.at front, are.reads.before)) in
    let after : StandAfter t.0 front r.octets c.args.octets.now c.in-Err-Bad.fault = record {
      place = r.at;
      is = t.3;
      within = are.reads.before;
      later = [];
      are = d ∙ sym (append-nil c.args.octets.now);
      decide = elim t.4 [ inl e ↦ inl e | inr x ↦ inr (subst (λ (n : ℕ). AreDeciding n front r.octets t.0) all x) ];
    } in
    let refused : IsRefusedIn r.set r.octets front r.octets t.0 c.args.octets.now c.in-Err-Bad.fault = record { fault_is = inr (t.2, omega arith); after = after } in
    (f.0, c.hand.ensures.stands was t.0 (either _ _ c.step.new.self.stage t.0 t.1), (t.0, c.args.octets.now, c.hand.ensures.faulty was t.0 t.1 r.set r.octets front r.octets refused (is_stopped c.step.new.self front t.0 c.in-Err-Bad.fault.reason t.5 t.6), t.2, after))
