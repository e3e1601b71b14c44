use Rattle.std.proofs.Common.{◌≡◌, ℕ, ◌∷◌, Ok, Err, sym, ap, subst, drop, arith}
use Rattle.std.proofs.lemmas.Result.{err_from_is_err_and}
use Rattle.llrp_stream.specs.declared.engine.body_reader.BodyReader.{BodyReader}
use Rattle.llrp_stream.specs.Calls.Reading.{HasReadTo}
use Rattle.llrp_stream.specs.Private.Reading.{Steps}
use Rattle.llrp_stream.proofs.engine.body_reader.BodyReader.begin_any.Goals as goal

pub returns-in_err-head : goal.returns-in_err-head
returns-in_err-head g c = λ was front b outer rd told d.
    let p = err_from_is_err_and c.from_residual.result c.from_residual.ensures.1 in
    rw (p.1, p.2) (c.in_err-head.ensures.fails was front b outer rd told d)

pub returns-then-head-gt0 : goal.returns-then-head-gt0
returns-then-head-gt0 g c = λ was front b outer rd told d. c.in_ok-head.ensures.moves c.if-head-gt0.true was front b outer rd told d

pub begin-requires-clause-some : goal.begin-requires-clause-some
begin-requires-clause-some g c =
    let w = c.requires.some in
    let zero : c.in_ok-head.head ≡ 0 = omega (arith, c.if-head-gt0.false) in
    let e = c.in_ok-head.ensures.none (ap (λ (n : ℕ). Ok n) zero) in
    (w.0, w.1, w.2, subst (λ (r : BodyReader). HasReadTo r w.0 w.1 w.2) (sym e.0) w.3, w.4, subst (λ l. g.L.Listener.stands l w.4 (w.1 ∷ w.2)) (sym e.1) w.5)

pub returns : goal.returns
returns g c = λ was front b outer rd told d.
    let zero : c.in_ok-head.head ≡ 0 = omega (arith, c.if-head-gt0.false) in
    let e = c.in_ok-head.ensures.none (ap (λ (n : ℕ). Ok n) zero) in
    let steps = c.in_ok-step.ensures was front b outer (subst (λ (r : BodyReader). HasReadTo r front b outer) (sym e.0) rd) (subst (λ l. g.L.Listener.stands l was (b ∷ outer)) (sym e.1) told) (subst (λ (r : BodyReader). drop r.at front ≡ c.args.octets.now) (sym e.0) d) in
    subst (λ (r : BodyReader). Steps (g.L.Listener.begins c.begin.new.listener was) (g.L.Listener.stands c.begin.new.listener was) r c.begin.new.self front c.args.octets.now (Ok c.in_ok-step.step)) e.0 steps

pub returns-in_err-step : goal.returns-in_err-step
returns-in_err-step g c = λ was front b outer rd told d.
    let zero : c.in_ok-head.head ≡ 0 = omega (arith, c.if-head-gt0.false) in
    let e = c.in_ok-head.ensures.none (ap (λ (n : ℕ). Ok n) zero) in
    let p = err_from_is_err_and c.from_residual-in_err-step.result c.from_residual-in_err-step.ensures.1 in
    let steps = c.in_err-step.ensures was front b outer (subst (λ (r : BodyReader). HasReadTo r front b outer) (sym e.0) rd) (subst (λ l. g.L.Listener.stands l was (b ∷ outer)) (sym e.1) told) (subst (λ (r : BodyReader). drop r.at front ≡ c.args.octets.now) (sym e.0) d) in
    rw (p.1, p.2) (subst (λ (r : BodyReader). Steps (g.L.Listener.begins c.begin.new.listener was) (g.L.Listener.stands c.begin.new.listener was) r c.begin.new.self front c.args.octets.now (Err c.in_err-step.field-0.0)) e.0 steps)
