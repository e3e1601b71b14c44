use Rattle.std.proofs.Common.{◌≡◌, ℕ, List, ◌∷◌, length, drop, Ok, sym, ap, ◌∙◌, subst, arith, length-drop}
use Rattle.std.proofs.lemmas.Result.{err_from_is_err_and}
use Rattle.llrp_tree.specs.OpenTree.{Begun}
use Rattle.llrp_tree.specs.declared.fault.FrameErr.{FrameErr}
use Rattle.llrp_stream.specs.declared.engine.body_reader.BodyReader.{BodyReader}
use Rattle.llrp_stream.specs.declared.engine.body_reader.Stage.{Stage}
use Rattle.llrp_stream.specs.declared.engine.body_reader.Stage.TheVariants.{Children}
use Rattle.llrp_stream.specs.Private.Front.{FailsWith}
use Rattle.llrp_stream.specs.Calls.Reading.{HasReadTo, Are, Told}
use Rattle.llrp_stream.specs.Private.Reading.{Steps}
use Rattle.llrp_stream.proofs.ManyValues.{head_taken, moved_on}
use Rattle.llrp_stream.proofs.MoreOctets.{behind_on}
use Rattle.llrp_stream.proofs.engine.body_reader.BodyReader.child_or_end.Goals as goal

pub close-requires-clause-some : goal.close-requires-clause-some
close-requires-clause-some g c = let w = c.requires.some in (w.0, w.1, w.2, w.3, w.4, w.5)

pub returns-then-over : goal.returns-then-over
returns-then-over g c = λ was front b outer rd told d. c.close.ensures c.args.octets.now was front b outer rd told d

are_here : (begins stands : List Begun → Type 0) (r : BodyReader) (front : List ℕ) (b : Begun) (outer : List Begun) → HasReadTo r front b outer → r.stage ≡ Children → stands (b ∷ outer) → Are begins stands r front
are_here begins stands r front b outer rd s told = record { node = b; outer = outer; reads = rd; told = subst (λ (x : Stage). Told begins stands x (b ∷ outer)) (sym s) told }

pub returns-in_err-head : goal.returns-in_err-head
returns-in_err-head g c = λ was front b outer rd told d.
    let p = err_from_is_err_and c.from_residual.result c.from_residual.ensures.1 in
    rw (p.1, p.2) (c.in_err-head.ensures.fails was front b outer rd told d)

pub split_at-requires : goal.split_at-requires
split_at-requires g c =
    let w = c.requires.some in let was = w.4 in let front = w.0 in let b = w.1 in let outer = w.2 in let rd = w.3 in let told = w.5 in let d = w.6 in
    let h = (head_taken c.in_ok-head.head (g.L.Listener.begins c.begin_known.new.listener was) (g.L.Listener.stands c.begin_known.new.listener was) c.args.self.now c.begin_known.new.self front c.args.octets.now
    (λ lt. c.in_ok-head.ensures.moves lt was front b outer rd told d)
    (λ z. (let e = c.in_ok-head.ensures.none (ap (λ (n : ℕ). Ok n) z) in (e.0, subst (λ l. Are (g.L.Listener.begins l was) (g.L.Listener.stands l was) c.args.self.now front) (sym e.1) (are_here _ _ c.args.self.now front b outer rd c.requires.stage told))))) in
    h.within

pub values-requires-clause-stage : goal.values-requires-clause-stage
values-requires-clause-stage g c = c.in_ok-head.ensures.rests.stage

pub values-requires-clause-stop : goal.values-requires-clause-stop
values-requires-clause-stop g c = c.in_ok-head.ensures.rests.stop

pub values-requires-clause-before : goal.values-requires-clause-before
values-requires-clause-before g c = c.in_ok-head.ensures.rests.before

pub values-requires-clause-some : goal.values-requires-clause-some
values-requires-clause-some g c =
    let w = c.requires.some in let was = w.4 in let front = w.0 in let b = w.1 in let outer = w.2 in let rd = w.3 in let told = w.5 in let d = w.6 in
    let h = (head_taken c.in_ok-head.head (g.L.Listener.begins c.begin_known.new.listener was) (g.L.Listener.stands c.begin_known.new.listener was) c.args.self.now c.begin_known.new.self front c.args.octets.now
    (λ lt. c.in_ok-head.ensures.moves lt was front b outer rd told d)
    (λ z. (let e = c.in_ok-head.ensures.none (ap (λ (n : ℕ). Ok n) z) in (e.0, subst (λ l. Are (g.L.Listener.begins l was) (g.L.Listener.stands l was) c.args.self.now front) (sym e.1) (are_here _ _ c.args.self.now front b outer rd c.requires.stage told))))) in
    (was, front, h.are, behind_on front c.args.octets.now c.args.self.now.at c.in_ok-head.head c.begin_known.new.self.at d h.place ∙ sym c.split_at.ensures.back)

pub returns-in_err-used : goal.returns-in_err-used
returns-in_err-used g c = λ was front b outer rd told d.
    let h = (head_taken c.in_ok-head.head (g.L.Listener.begins c.begin_known.new.listener was) (g.L.Listener.stands c.begin_known.new.listener was) c.args.self.now c.begin_known.new.self front c.args.octets.now
    (λ lt. c.in_ok-head.ensures.moves lt was front b outer rd told d)
    (λ z. (let e = c.in_ok-head.ensures.none (ap (λ (n : ℕ). Ok n) z) in (e.0, subst (λ l. Are (g.L.Listener.begins l was) (g.L.Listener.stands l was) c.args.self.now front) (sym e.1) (are_here _ _ c.args.self.now front b outer rd c.requires.stage told))))) in
    let p = err_from_is_err_and c.from_residual-in_err-used.result c.from_residual-in_err-used.ensures.1 in
    rw (p.1, p.2) (subst (λ (e : FrameErr). FailsWith (g.L.Listener.begins c.values.new.listener was) (g.L.Listener.stands c.values.new.listener was) c.values.new.self c.args.self.now.at c.args.self.now.set front c.args.self.now.octets e) (sym (c.in_err-used.ensures.takes was front h.are (behind_on front c.args.octets.now c.args.self.now.at c.in_ok-head.head c.begin_known.new.self.at d h.place ∙ sym c.split_at.ensures.back))) tt)

pub overflow_add-all : goal.overflow_add-all
overflow_add-all g c =
    let w = c.requires.some in let was = w.4 in let front = w.0 in let b = w.1 in let outer = w.2 in let rd = w.3 in let told = w.5 in let d = w.6 in
    let h = (head_taken c.in_ok-head.head (g.L.Listener.begins c.begin_known.new.listener was) (g.L.Listener.stands c.begin_known.new.listener was) c.args.self.now c.begin_known.new.self front c.args.octets.now
    (λ lt. c.in_ok-head.ensures.moves lt was front b outer rd told d)
    (λ z. (let e = c.in_ok-head.ensures.none (ap (λ (n : ℕ). Ok n) z) in (e.0, subst (λ l. Are (g.L.Listener.begins l was) (g.L.Listener.stands l was) c.args.self.now front) (sym e.1) (are_here _ _ c.args.self.now front b outer rd c.requires.stage told))))) in
    let t = c.in_ok-used.ensures.takes was front h.are (behind_on front c.args.octets.now c.args.self.now.at c.in_ok-head.head c.begin_known.new.self.at d h.place ∙ sym c.split_at.ensures.back) in
    let long = length-drop c.in_ok-head.head c.args.octets.now in
    let rest = ap (λ (x : List ℕ). length x) c.split_at.ensures.back in
    omega (arith, h.within, t.within, long, rest)

pub returns-then-all-gt0 : goal.returns-then-all-gt0
returns-then-all-gt0 g c = λ was front b outer rd told d.
    let h = (head_taken c.in_ok-head.head (g.L.Listener.begins c.begin_known.new.listener was) (g.L.Listener.stands c.begin_known.new.listener was) c.args.self.now c.begin_known.new.self front c.args.octets.now
    (λ lt. c.in_ok-head.ensures.moves lt was front b outer rd told d)
    (λ z. (let e = c.in_ok-head.ensures.none (ap (λ (n : ℕ). Ok n) z) in (e.0, subst (λ l. Are (g.L.Listener.begins l was) (g.L.Listener.stands l was) c.args.self.now front) (sym e.1) (are_here _ _ c.args.self.now front b outer rd c.requires.stage told))))) in
    let t = c.in_ok-used.ensures.takes was front h.are (behind_on front c.args.octets.now c.args.self.now.at c.in_ok-head.head c.begin_known.new.self.at d h.place ∙ sym c.split_at.ensures.back) in
    moved_on _ _ _ _ c.args.self.now c.begin_known.new.self c.values.new.self front c.args.octets.now c.split_at.result.1.now c.in_ok-head.head c.in_ok-used.used c.split_at.ensures.back h c.in_ok-head.ensures.rests.stage t c.in_ok-used.ensures.keeps c.if-all-gt0.true

pub begin_any-requires-clause-stage : goal.begin_any-requires-clause-stage
begin_any-requires-clause-stage g c = c.in_ok-used.ensures.keeps.stage ∙ c.in_ok-head.ensures.rests.stage

pub begin_any-requires-clause-some : goal.begin_any-requires-clause-some
begin_any-requires-clause-some g c =
    let w = c.requires.some in
    let none : (c.in_ok-head.head ≡ 0) × (c.in_ok-used.used ≡ 0) = (omega (arith, c.if-all-gt0.false), omega (arith, c.if-all-gt0.false)) in
    let e = c.in_ok-head.ensures.none (ap (λ (n : ℕ). Ok n) none.0) in
    let f = c.in_ok-used.ensures.none (ap (λ (n : ℕ). Ok n) none.1) in
    (w.0, w.1, w.2, subst (λ (r : BodyReader). HasReadTo r w.0 w.1 w.2) (sym (f.0 ∙ e.0)) w.3, w.4, subst (λ l. g.L.Listener.stands l w.4 (w.1 ∷ w.2)) (sym (f.1 ∙ e.1)) w.5)

pub returns : goal.returns
returns g c = λ was front b outer rd told d.
    let none : (c.in_ok-head.head ≡ 0) × (c.in_ok-used.used ≡ 0) = (omega (arith, c.if-all-gt0.false), omega (arith, c.if-all-gt0.false)) in
    let e = c.in_ok-head.ensures.none (ap (λ (n : ℕ). Ok n) none.0) in
    let f = c.in_ok-used.ensures.none (ap (λ (n : ℕ). Ok n) none.1) in
    let same = f.0 ∙ e.0 in
    let steps = c.begin_any.ensures was front b outer (subst (λ (r : BodyReader). HasReadTo r front b outer) (sym same) rd) (subst (λ l. g.L.Listener.stands l was (b ∷ outer)) (sym (f.1 ∙ e.1)) told) (subst (λ (r : BodyReader). drop r.at front ≡ c.args.octets.now) (sym same) d) in
    subst (λ (r : BodyReader). Steps (g.L.Listener.begins c.begin_any.new.listener was) (g.L.Listener.stands c.begin_any.new.listener was) r c.begin_any.new.self front c.args.octets.now c.begin_any.result) same steps
