use Rattle.llrp_schema.specs.declared.kinds.KindSet.{KindSet}
use Rattle.std.proofs.Common.{◌≡◌, ℕ, ◌-◌, ◌<◌, true, false, List, length, drop, Ok, sym, ap, ◌∙◌, subst, arith, length-drop}
use Rattle.std.proofs.lemmas.Result.{err_from_is_err_and}
use Rattle.llrp_tree.specs.OpenTree.{Begun}
use Rattle.llrp_stream.specs.declared.engine.body_reader.BodyReader.{BodyReader}
use Rattle.llrp_stream.specs.declared.engine.body_reader.Step.{Step}
use Rattle.llrp_stream.specs.declared.engine.body_reader.Step.TheVariants.{Waits, Goes, Ends}
use Rattle.llrp_stream.specs.Private.Front.{FailsHanded}
use Rattle.llrp_stream.specs.Private.Reading.{Steps, work}
use Rattle.llrp_stream.proofs.MoreOctets.{behind_on}
use Rattle.llrp_stream.proofs.engine.body_reader.BodyReader.read.Goals as goal

at_step : (begins stands : List Begun → Type 0) (old new : BodyReader) (front octets : List ℕ) (x y : Step) → x ≡ y → Steps begins stands old new front octets (Ok x) → Steps begins stands old new front octets (Ok y)
at_step begins stands old new front octets x y e s = subst (λ (z : Step). Steps begins stands old new front octets (Ok z)) e s

pub take_part-requires : goal.take_part-requires
take_part-requires g c =
    let w = c.requires in
    let f = c.parts.invariant w.0 w.1 w.2 w.3 in
    (w.0, w.1, f.are, f.behind)

pub returns-in_err-take_part : goal.returns-in_err-take_part
returns-in_err-take_part g c = λ was front are d.
    let f = c.parts.invariant was front are d in
    let p = err_from_is_err_and c.from_residual.result c.from_residual.ensures.1 in
    rw (p.1, p.2) (subst (λ (q : KindSet). FailsHanded (g.L.Listener.stands c.take_part.new.listener was) (g.L.Listener.faulty c.take_part.new.listener was) q front c.args.self.now.octets c.in_err-take_part.field-0.0) f.set (subst (λ (n : ℕ). FailsHanded (g.L.Listener.stands c.take_part.new.listener was) (g.L.Listener.faulty c.take_part.new.listener was) c.parts.self.set front n c.in_err-take_part.field-0.0) f.same (c.in_err-take_part.ensures was front f.are f.behind)))

pub overflow_sub-result : goal.overflow_sub-result
overflow_sub-result g c = let w = c.requires in (c.parts.invariant w.0 w.1 w.2 w.3).within

pub overflow_sub-result-in-Ends : goal.overflow_sub-result-in-Ends
overflow_sub-result-in-Ends g c = let w = c.requires in (c.parts.invariant w.0 w.1 w.2 w.3).within

pub returns-in-Waits : goal.returns-in-Waits
returns-in-Waits g c = λ was front are d.
    let f = c.parts.invariant was front are d in
    let s = at_step _ _ c.parts.self c.take_part.new.self front c.parts.rest.now c.in_ok-take_part.field-0 Waits c.in-Waits.is (c.in_ok-take_part.ensures was front f.are f.behind) in
    (λ e. record { within = omega (arith, f.within); left = omega (arith, s.few, f.within); short = omega (arith, s.short, f.place, f.same); are = s.are; place = omega (arith, s.place, f.place, f.within); same = s.same ∙ f.same; set = s.set ∙ f.set; undecided = s.undecided }, λ e. absurd (let z : false ≡ true = e in cc))

pub returns-in-Ends : goal.returns-in-Ends
returns-in-Ends g c = λ was front are d.
    let f = c.parts.invariant was front are d in
    let s = at_step _ _ c.parts.self c.take_part.new.self front c.parts.rest.now c.in_ok-take_part.field-0 Ends c.in-Ends.is (c.in_ok-take_part.ensures was front f.are f.behind) in
    (λ e. absurd (let z : true ≡ false = e in cc), λ e. (s.0, s.2 ∙ f.same, s.3 ∙ f.set))

pub split_at-requires : goal.split_at-requires
split_at-requires g c =
    let w = c.requires in
    let f = c.parts.invariant w.0 w.1 w.2 w.3 in
    (at_step _ _ c.parts.self c.take_part.new.self w.1 c.parts.rest.now c.in_ok-take_part.field-0 (Goes c.in-Goes.used) c.in-Goes.is (c.in_ok-take_part.ensures w.0 w.1 f.are f.behind)).within

less_work : (n : BodyReader) (rest back : List ℕ) (used k : ℕ) → back ≡ drop used rest → work n (length rest - used) < k → work n (length back) < k
less_work n rest back used k e lt = subst (λ (m : ℕ). work n m < k) (sym (ap (λ (x : List ℕ). length x) e ∙ length-drop used rest)) lt

pub parts-smaller : goal.parts-smaller
parts-smaller g c =
    let w = c.requires in
    let f = c.parts.invariant w.0 w.1 w.2 w.3 in
    let s = at_step _ _ c.parts.self c.take_part.new.self w.1 c.parts.rest.now c.in_ok-take_part.field-0 (Goes c.in-Goes.used) c.in-Goes.is (c.in_ok-take_part.ensures w.0 w.1 f.are f.behind) in
    less_work c.take_part.new.self c.parts.rest.now c.split_at.result.1.now c.in-Goes.used (work c.parts.self (length c.parts.rest.now)) c.split_at.ensures.back s.less

pub parts-preserved : goal.parts-preserved
parts-preserved g c = λ was front are d.
    let f = c.parts.invariant was front are d in
    let s = at_step _ _ c.parts.self c.take_part.new.self front c.parts.rest.now c.in_ok-take_part.field-0 (Goes c.in-Goes.used) c.in-Goes.is (c.in_ok-take_part.ensures was front f.are f.behind) in
    let l = ap (λ (x : List ℕ). length x) c.split_at.ensures.back in
    let m = length-drop c.in-Goes.used c.parts.rest.now in
    record {
      are = s.are;
      behind = behind_on front c.parts.rest.now c.parts.self.at c.in-Goes.used c.take_part.new.self.at f.behind s.place ∙ sym c.split_at.ensures.back;
      place = omega (arith, s.place, f.place, s.within);
      within = omega (arith, f.within);
      same = s.same ∙ f.same;
      set = s.set ∙ f.set;
    }
