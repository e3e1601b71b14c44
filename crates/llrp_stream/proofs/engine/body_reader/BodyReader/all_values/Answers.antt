use Rattle.std.proofs.Common.{◌≡◌, ℕ, ◌-◌, List, length, Ok, sym, ap, subst, arith, length-drop}
use Rattle.std.proofs.lemmas.Result.{err_from_is_err_and}
use Rattle.llrp_stream.specs.declared.engine.body_reader.BodyReader.{BodyReader}
use Rattle.llrp_stream.specs.Private.Reading.{TakesOneValue}
use Rattle.llrp_stream.proofs.ManyValues.{awaits_on, kept_on, one_more, taken_in_all}
use Rattle.llrp_stream.proofs.engine.body_reader.BodyReader.all_values.Goals as goal

pub any_value-requires : goal.any_value-requires
any_value-requires g c =
    let w = c.requires.some in
    let i = c.values.invariant in
    let f = i.6 w.0 w.1 w.2 w.3 in
    record { awaits = awaits_on _ _ c.args.set c.args.self.now c.values.self w.1 c.args.octets.now c.values.rest.now c.args.near c.values.left c.requires.awaits i.0 i.2 i.3 f.takes.are }

pub returns-in_err-used-clause-takes : goal.returns-in_err-used-clause-takes
returns-in_err-used-clause-takes g c =
    let i = c.values.invariant in
    let p = err_from_is_err_and c.from_residual.result c.from_residual.ensures.1 in
    rw (p.1, p.2) (record {
      keeps = kept_on c.args.self.now c.values.self c.any_value.new.self i.0 c.in_err-used.ensures.takes.keeps;
      used = tt;
      takes = λ was front a d. (let f = i.6 was front a d in c.in_err-used.ensures.takes.takes was front f.takes.are f.behind);
    })

pub returns-then-used-eq0-clause-takes : goal.returns-then-used-eq0-clause-takes
returns-then-used-eq0-clause-takes g c =
    let i = c.values.invariant in
    let zero : c.in_ok-used.used ≡ 0 = omega (arith, c.if-used-eq0.true) in
    let e = c.in_ok-used.ensures.none (ap (λ (n : ℕ). Ok n) zero) in
    record {
      keeps = kept_on c.args.self.now c.values.self c.any_value.new.self i.0 c.in_ok-used.ensures.takes.keeps;
      used = (omega (arith, i.1), omega (arith, ap (λ (r : BodyReader). r.at) e.0, i.3, i.1));
      takes = λ was front a d.
          let f = i.6 was front a d in
          let t = taken_in_all _ _ c.args.self.now c.values.self front c.args.octets.now c.values.rest.now c.args.near c.values.left i.4 i.1 f in
          subst (λ l. TakesOneValue (g.L.Listener.begins l was) (g.L.Listener.stands l was) c.args.self.now c.any_value.new.self front c.args.octets.now (c.args.near - c.values.left)) (sym e.1)
          (subst (λ (r : BodyReader). TakesOneValue (g.L.Listener.begins c.values.listener was) (g.L.Listener.stands c.values.listener was) c.args.self.now r front c.args.octets.now (c.args.near - c.values.left)) (sym e.0) t);
    }

pub values-preserved : goal.values-preserved
values-preserved g c =
    let i = c.values.invariant in
    let u = c.in_ok-used.ensures.takes.used in
    let l = ap (λ (x : List ℕ). length x) c.split_at.ensures.back in
    let m = length-drop c.in_ok-used.used c.values.rest.now in (
      kept_on c.args.self.now c.values.self c.any_value.new.self i.0 c.in_ok-used.ensures.takes.keeps,
      omega (arith, i.1, u.0),
      omega (arith, i.2, l, m, u.0),
      omega (arith, i.3, u.0, u.1),
      omega (arith, i.4, i.2, l, m, u.0),
      λ e. absurd (omega (arith, e, i.1, u.0, c.if-used-eq0.false)),
      λ was front are d.
          let h = i.6 was front are d in
          let x = c.in_ok-used.ensures.takes.takes was front h.takes.are h.behind in
          one_more _ _ _ _ c.args.self.now c.values.self c.any_value.new.self front c.args.octets.now c.values.rest.now c.split_at.result.1.now c.in_ok-used.used (omega (arith, i.4, i.1)) h x c.split_at.ensures.back,
    )
