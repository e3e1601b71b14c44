-- Parameters of type and value in a row, as the engine takes them.
use Rattle.std.proofs.Common.{◌≡◌, ℕ, ◌+◌, ◌-◌, ◌<◌, ◌≤◌, ◌⊎◌, inl, inr, false, List, length, drop, refl, sym, ap, ◌∙◌, subst, arith, zero, suc, length-drop}
use Rattle.std.specs.Prelude.{Result, Ok, Err, OnOk, IfOk, IfErr}
use Rattle.llrp_schema.specs.declared.kinds.Kind.{Kind}
use Rattle.llrp_schema.specs.declared.kinds.Kind.TheVariants.{Parameter}
use Rattle.llrp_schema.specs.declared.kinds.KindSet.{KindSet}
use Rattle.llrp_schema.specs.declared.kinds.KindSet.TheVariants.{Profile, Standard}
use Rattle.llrp_schema.specs.Schema.{is_tv, number_of, rule_of, param_rule, set_of_kind}
use Rattle.llrp_tree.specs.declared.fault.FrameErr.{FrameErr}
use Rattle.llrp_tree.specs.declared.fault.FrameErr.TheVariants.{Memory}
use Rattle.llrp_tree.specs.OpenTree.{Begun}
use Rattle.llrp_tree.specs.Private.Standing.{is_tv_kind}
use Rattle.llrp_stream.specs.declared.engine.body_reader.BodyReader.{BodyReader}
use Rattle.llrp_stream.specs.Calls.Reading.{Are}
use Rattle.llrp_stream.specs.Private.Reading.{AwaitsValues, KeepsNode, Moves, TakesOneValue, TakenSoFar, TakesValues, rank, report_of, work}
use Rattle.llrp_stream.proofs.MoreOctets.{behind_on}
use Rattle.llrp_stream.proofs.SeenLemmas.{seen_are}
use Rattle.llrp_stream.proofs.ChildPart.{resting}
use Rattle.arrayvec.specs.ArrayVec.{ArrayVec}
use Rattle.llrp_stream.specs.declared.engine.stack.StackNode.{StackNode}
use Rattle.llrp_stream.specs.declared.engine.body_reader.Stage.TheVariants.{Children}

report_long : (set : KindSet) → is_tv_kind (Parameter (report_of set)) ≡ false
unfolding is_tv number_of rule_of param_rule
report_long Profile = refl
report_long Standard = refl

-- the TagReportData of a set is of that set
report_there : (set : KindSet) → set_of_kind (Parameter (report_of set)) ≡ set
unfolding set_of_kind rule_of param_rule
report_there Profile = refl
report_there Standard = refl

pub set_of_report : (set : KindSet) (k : Kind) → k ≡ Parameter (report_of set) → set_of_kind k ≡ set
set_of_report set k e = ap set_of_kind e ∙ report_there set

pub long_report : (set : KindSet) (k : Kind) → k ≡ Parameter (report_of set) → is_tv_kind k ≡ false
long_report set k e = ap is_tv_kind e ∙ report_long set

pub kept : (r : BodyReader) → KeepsNode r r
kept r = record { stage = refl; kind = refl; stop = refl; outer = refl }

pub kept_on : (a b c : BodyReader) → KeepsNode a b → KeepsNode b c → KeepsNode a c
kept_on a b c x y = record { stage = y.stage ∙ x.stage; kind = y.kind ∙ x.kind; stop = y.stop ∙ x.stop; outer = y.outer ∙ x.outer }

module _ (begins0 stands0 begins stands : List ℕ → List Begun → Type 0) where
  -- one was taken, or memory ran out
  pub one_taken : (old new : BodyReader) (octets : List ℕ) (left n : ℕ) (result : Result ℕ FrameErr) → n ≤ left → KeepsNode old new
      → OnOk result ((was front : List ℕ) → Are (begins0 was) (stands0 was) old front → drop old.at front ≡ octets → TakesOneValue (begins was) (stands was) old new front octets n)
      → IfOk result (λ used. used ≡ n) → IfErr result (λ error. error ≡ Memory) → IfOk result (λ used. new.at ≡ old.at + used)
      → TakesValues begins0 stands0 begins stands old new octets left result
  one_taken old new octets left n (Ok used) fits k t e m p = record {
    keeps = k;
    used = (omega (arith, fits, e), p);
    takes = λ was front a d. subst (λ (x : ℕ). TakesOneValue (begins was) (stands was) old new front octets x) (sym e) (t was front a d);
  }
  one_taken old new octets left n (Err error) fits k t e m p = record { keeps = k; used = tt; takes = λ was front a d. m }

-- none was taken
pub none_taken : (begins stands : List ℕ → List Begun → Type 0) (r : BodyReader) (octets : List ℕ) (left : ℕ) → TakesValues begins stands begins stands r r octets left (Ok 0)
none_taken begins stands r octets left = record {
  keeps = kept r;
  used = (omega arith, omega arith);
  takes = λ was front a d. record { within = omega arith; are = a; place = omega arith; same = refl; set = refl };
}

pub some_taken : (result : Result ℕ FrameErr) (n : ℕ) → IfOk result (λ used. used ≡ 1 + n) → result ≡ Ok 0 → ⊥
some_taken (Ok zero) n e f = absurd (omega (arith, e))
some_taken (Ok (suc m)) n e f = absurd cc
some_taken (Err error) n e f = absurd cc

-- ---- one after another

-- what is left, after some were taken
pub awaits_on : (begins stands : List Begun → Type 0) (set : KindSet) (old r : BodyReader) (front octets rest : List ℕ) (near left : ℕ) → AwaitsValues set old octets near → KeepsNode old r → left ≤ length rest → r.at + left ≡ old.at + near
    → Are begins stands r front → AwaitsValues set r rest left
awaits_on begins stands set old r front octets rest near left a k within at are = record {
  stage = k.stage ∙ a.stage;
  stop = omega (arith, k.stop, a.stop);
  kind = k.kind ∙ a.kind;
  second = ap (λ x. length x.items) k.outer ∙ a.second;
  within = within;
  near = omega (arith, k.stop, a.near, at);
  seen = (are.node.children, seen_are r front are.node are.outer are.reads);
}

-- one more was taken
pub one_more : (begins stands b2 s2 : List Begun → Type 0) (old mid new : BodyReader) (front octets rest back : List ℕ) (used : ℕ) → length rest ≤ length octets → TakenSoFar b2 s2 old mid front octets rest → TakesOneValue begins stands mid new front rest used → back ≡ drop used rest → TakenSoFar begins stands old new front octets back
one_more begins stands b2 s2 old mid new front octets rest back used le s t e =
    let l = length-drop used rest in
    let m = ap (λ (x : List ℕ). length x) e in
    record {
      takes = record { within = omega arith; are = t.are; place = omega (arith, l, m, t.place, t.within, s.takes.place, le); same = t.same ∙ s.takes.same; set = t.set ∙ s.takes.set };
      behind = behind_on front rest mid.at used new.at s.behind t.place ∙ sym e;
    }

-- how many octets were taken in all
pub taken_in_all : (begins stands : List Begun → Type 0) (old new : BodyReader) (front octets rest : List ℕ) (near left : ℕ) → length rest + near ≡ length octets + left → left ≤ near → TakenSoFar begins stands old new front octets rest → TakesOneValue begins stands old new front octets (near - left)
taken_in_all begins stands old new front octets rest near left e le t =
    let same : length octets - length rest ≡ near - left = omega (arith, e, le) in
    subst (λ (n : ℕ). TakesOneValue begins stands old new front octets n) same t.takes

-- ---- a head, and the parameters of type and value after it

-- no more is left to do, where only octets were taken
work_at_most : (r n : BodyReader) (left used : ℕ) → used ≤ left → r.bit ≡ 0 → n.bit ≡ 0 → KeepsNode r n → work n (left - used) ≤ work r left
unfolding work
work_at_most r n left used fit b m k = let e = ap rank k.stage in let f = ap (λ (x : ArrayVec StackNode). length x.items) k.outer in omega arith

work_less : (r n : BodyReader) (left used : ℕ) → 0 < used → used ≤ left → r.bit ≡ 0 → n.bit ≡ 0 → KeepsNode r n → work n (left - used) < work r left
unfolding work
work_less r n left used some fit b m k = let e = ap rank k.stage in let f = ap (λ (x : ArrayVec StackNode). length x.items) k.outer in omega arith

module _ (begins stands : List Begun → Type 0) where
  aligned_at : (r : BodyReader) (front : List ℕ) → Are begins stands r front → r.stage ≡ Children → r.bit ≡ 0
  aligned_at r front a s = (resting r front a.node a.outer a.reads s).aligned

-- What a head is: it was taken, and then there is less to do; or there was none, and nothing changed.
pub record HeadTaken (begins stands : List Begun → Type 0) (old mid : BodyReader) (front octets : List ℕ) (head : ℕ) : Type 0 where
  pub within : head ≤ length octets
  pub are : Are begins stands mid front
  pub place : mid.at ≡ old.at + head
  pub same : mid.octets ≡ old.octets
  pub set : mid.set ≡ old.set
  pub less : ((0 < head) × (work mid (length octets - head) < work old (length octets))) ⊎ ((head ≡ 0) × (mid ≡ old))

pub head_taken : (head : ℕ) (begins stands : List Begun → Type 0) (old mid : BodyReader) (front octets : List ℕ) → (0 < head → Moves begins stands old mid front octets head) → (head ≡ 0 → (mid ≡ old) × Are begins stands old front) → HeadTaken begins stands old mid front octets head
head_taken zero begins stands old mid front octets f e =
    let x = e refl in
    record {
      within = omega arith;
      are = subst (λ (r : BodyReader). Are begins stands r front) (sym x.0) x.1;
      place = omega (arith, ap (λ (r : BodyReader). r.at) x.0);
      same = ap (λ (r : BodyReader). r.octets) x.0;
      set = ap (λ (r : BodyReader). r.set) x.0;
      less = inr (refl, x.0);
    }
head_taken (suc n) begins stands old mid front octets f e =
    let m = f (omega arith) in
    record { within = m.within; are = m.are; place = m.place; same = m.same; set = m.set; less = inl (omega arith, m.less) }

pub moved_on : (b0 s0 begins stands : List Begun → Type 0) (old mid new : BodyReader) (front octets rest : List ℕ) (head used : ℕ) → rest ≡ drop head octets → HeadTaken b0 s0 old mid front octets head → mid.stage ≡ Children → TakesOneValue begins stands mid new front rest used → KeepsNode mid new → 0 < head + used → Moves begins stands old new front octets (head + used)
moved_on b0 s0 begins stands old mid new front octets rest head used e h s t k some =
    let long : length rest ≡ length octets - head = ap (λ (x : List ℕ). length x) e ∙ length-drop head octets in
    let bit = aligned_at b0 s0 mid front h.are s in
    let last = aligned_at begins stands new front t.are (k.stage ∙ s) in
    let fits = t.within in
    let left : length octets - (head + used) ≡ length rest - used = omega (arith, long) in
    record {
      within = omega (arith, h.within, long, fits);
      are = t.are;
      place = omega (arith, t.place, h.place);
      same = t.same ∙ h.same;
      set = t.set ∙ h.set;
      less = elim h.less [
        | inl x ↦ (let m = work_at_most mid new (length rest) used fits bit last k in let y = subst (λ (n : ℕ). work mid n < work old (length octets)) (sym long) x.1 in let z = ap (λ (n : ℕ). work new n) left in omega (arith, m, y, z))
        | inr x ↦ (let m = work_less mid new (length rest) used (omega (arith, some, x.0)) fits bit last k in let y = ap (λ (r : BodyReader). work r (length octets)) x.1 in let w = ap (λ (n : ℕ). work mid n) (let q : length rest ≡ length octets = omega (arith, long, x.0) in q) in let z = ap (λ (n : ℕ). work new n) left in omega (arith, m, y, z, w))
      ];
    }
