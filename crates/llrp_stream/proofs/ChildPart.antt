-- A child that begins, and a node that is closed, as steps of the open tree that is read.
use Rattle.std.proofs.Common.{◌≡◌, ℕ, suc, ◌+◌, ◌-◌, ◌*◌, ◌<◌, ◌≤◌, ◌⊎◌, inl, inr, Bool, true, false, List, [], ◌∷◌, ◌++◌, length, drop, Option, refl, sym, ap, subst, ◌∙◌, arith, length-drop}
use Rattle.std.specs.Prelude.{nat_le, reverse}
use Rattle.std.proofs.lemmas.List.{reverse-append, length-reverse}
use Rattle.tag_bits.specs.Digits.{digits_of_bytes}
use Rattle.llrp_schema.specs.declared.kinds.Kind.{Kind}
use Rattle.llrp_schema.specs.declared.kinds.ParamKind.{ParamKind}
use Rattle.llrp_schema.specs.Schema.{set_of_kind, groups_of, is_tv}
use Rattle.llrp_tree.specs.declared.fault.FrameErr.{FrameErr}
use Rattle.llrp_tree.specs.declared.fault.FrameErr.TheVariants.{Bad}
use Rattle.llrp_tree.specs.declared.fault.Reason.TheVariants.{Missing}
use Rattle.llrp_tree.specs.Tree.{Forest}
use Rattle.llrp_tree.specs.Spelling.{Head, message, tlv, tv}
use Rattle.llrp_tree.specs.OpenTree.{root_of, Begun, kind_of_head, groups, due, Rest, is_enough, IsHead, IsOpenTree}
use Rattle.llrp_tree.specs.FirstFault.{first_digit, has_none, tv_kind, Close, has_ended}
use Rattle.llrp_tree.specs.Calls.Standing.{IsAt, begin_node, leading}
use Rattle.llrp_tree.specs.Private.Standing.{Closes, KindPasses, TlvPasses, is_tv_kind}
use Rattle.llrp_tree.proofs.Steps.{closed}
use Rattle.llrp_tree.proofs.LastPart.{closing_turn}
use Rattle.llrp_tree.proofs.BodyLemmas.{over_at, missing_first, head_of_tree as head_in}
use Rattle.llrp_tree.proofs.ChildLemmas.{tv_begun, tlv_begun}
use Rattle.llrp_tree.proofs.Totality.{child_closes, parent_ready}
use Rattle.llrp_stream.specs.declared.engine.stack.StackNode.{StackNode}
use Rattle.llrp_stream.specs.declared.engine.body_reader.BodyReader.{BodyReader}
use Rattle.llrp_stream.specs.declared.engine.body_reader.Stage.{Stage}
use Rattle.llrp_stream.specs.declared.engine.body_reader.Stage.TheVariants.{Children}
use Rattle.llrp_stream.specs.Calls.Front.{Reaches}
use Rattle.llrp_stream.specs.Private.Front.{TellsAt, TellsFor}
use Rattle.llrp_stream.specs.Calls.Received.{with_child}
use Rattle.llrp_stream.specs.Calls.Reading.{HasReadTo, IsAtStage, IsResting, IsLevel, AreLevels, with_begun}
use Rattle.llrp_stream.specs.Private.Reading.{HasHead, HeadFails}
use Rattle.llrp_stream.proofs.Reached.{stands_in, reaches_in, seen}
use Rattle.std.proofs.lemmas.Bool.{lt-leb}
use Rattle.llrp_stream.specs.Calls.Front.{IsUndecided}
use Rattle.llrp_stream.proofs.WaitLemmas.{child_decided, child_waits, decided}
use Rattle.llrp_stream.proofs.FaultTrees.{decided_for, tells_at, extra_tells_at, tv_tells_at, tlv_tells_at}

pub levels_length : (ls : List StackNode) (kind : Kind) (outer : List Begun) → AreLevels ls kind outer → length ls ≡ length outer
levels_length [] kind [] a = refl
levels_length [] kind (b ∷ outer) a = absurd a
levels_length (l ∷ ls) kind [] a = absurd a
levels_length (l ∷ ls) kind (b ∷ outer) a = ap suc (levels_length ls (kind_of_head b.head) outer a.1)

pub pushed : (ls : List StackNode) (l : StackNode) (kind : Kind) (b : Begun) (outer : List Begun) → IsLevel l b (with_begun b.children kind) → AreLevels (reverse ls) (kind_of_head b.head) outer → AreLevels (reverse (ls ++ l ∷ [])) kind (b ∷ outer)
pushed ls l kind b outer i a = rw (reverse-append ls (l ∷ [])) (i, a)

-- the innermost of the levels of begun nodes
pub record Popped (ls : List StackNode) (l : StackNode) (kind : Kind) (outer : List Begun) : Type 0 where
  pub parent : Begun
  pub others : List Begun
  pub is : outer ≡ parent ∷ others
  pub level : IsLevel l parent (with_begun parent.children kind)
  pub levels : AreLevels (reverse ls) (kind_of_head parent.head) others

first_level : (ls : List StackNode) (l : StackNode) (kind : Kind) (outer : List Begun) → AreLevels (l ∷ reverse ls) kind outer → Popped ls l kind outer
first_level ls l kind [] a = absurd a
first_level ls l kind (p ∷ outer) a = record { parent = p; others = outer; is = refl; level = a.0; levels = a.1 }

pub popped : (olds ls : List StackNode) (l : StackNode) (kind : Kind) (outer : List Begun) → olds ≡ ls ++ l ∷ [] → AreLevels (reverse olds) kind outer → Popped ls l kind outer
popped olds ls l kind outer e a = first_level ls l kind outer (subst (λ (x : List StackNode). AreLevels x kind outer) (ap (λ (x : List StackNode). reverse x) e ∙ reverse-append ls (l ∷ [])) a)

pub none_left : (olds : List StackNode) (kind : Kind) (outer : List Begun) → length olds ≡ 0 → AreLevels (reverse olds) kind outer → outer ≡ []
none_left [] kind [] e a = refl
none_left [] kind (b ∷ outer) e a = absurd a
none_left (l ∷ ls) kind outer e a = absurd (omega (arith, e))

-- the node that a begun one is in has all its leading parts
-- a node that has a length and is not at its stop goes on
under_at : (h : Head) (k : Kind) (stop at : ℕ) (outer : List Begun) → kind_of_head h ≡ k → IsHead h stop outer → at < stop → is_tv_kind k ≡ false → has_ended h (nat_le stop at) ≡ false
under_at (message v t n id) k stop at outer e i lt long = lt-leb stop at lt
under_at (tlv t n) k stop at outer e i lt long = lt-leb stop at lt
under_at (tv t) k stop at [] e i lt long = absurd i
under_at (tv t) k stop at (p ∷ outer) e i lt long = absurd (let z : is_tv t ≡ false = ap is_tv_kind e ∙ long in let y : is_tv t ≡ true = i.kind_is_tv in let x : true ≡ false = sym y ∙ z in cc)

with_child_is : (before : Forest) (h : Head) (vs : List ℕ) (tail : Option (List ℕ)) (cs : Forest) → closed before h vs tail cs ≡ with_child before h vs tail cs
with_child_is before (message v k n id) vs tail cs = refl
with_child_is before (tlv k n) vs tail cs = refl
with_child_is before (tv k) vs tail cs = refl

pub same_due : (p : Begun) (cs : Forest) → due p ≡ Rest → due (begin_node p.head p.stop p.fields p.tail cs) ≡ Rest
unfolding due
same_due p cs d = d

module _ (r : BodyReader) (front : List ℕ) (b : Begun) (outer : List Begun) (rd : HasReadTo r front b outer) (s : r.stage ≡ Children) where
  pub resting : IsResting r front b outer
  resting = subst (λ (x : Stage). IsAtStage x r front b outer) s rd.stage

  pub stands_now : (more : List ℕ) → length (front ++ more) ≡ r.octets → IsAt (digits_of_bytes (front ++ more)) (b ∷ outer) (8 * r.at)
  stands_now more e = stands_in front more r.octets (b ∷ outer) (8 * r.at) resting.reaches e

  pub outer_length : length r.outer.items ≡ length outer
  outer_length = sym (length-reverse r.outer.items) ∙ levels_length (reverse r.outer.items) (kind_of_head b.head) outer rd.levels

  -- ---- a child

  module _ (octets : List ℕ) (d : drop r.at front ≡ octets) (lt : r.at < r.top.stop) (long : is_tv_kind r.top.kind ≡ false) where
    here : (more : List ℕ) → drop (8 * r.at) (digits_of_bytes (front ++ more)) ≡ digits_of_bytes octets ++ digits_of_bytes more
    here more = ap (λ (n : ℕ). drop n (digits_of_bytes (front ++ more))) (let z : 8 * r.at ≡ 8 * r.at + 0 = omega arith in z) ∙ seen front more octets r.at 0 rd.before d

    before_stop : 8 * r.at < b.stop
    before_stop = omega (arith, rd.level.stop)

    not_over : has_ended b.head (nat_le b.stop (8 * r.at)) ≡ false
    not_over = under_at b.head r.top.kind b.stop (8 * r.at) outer rd.level.kind (head_in b outer resting.reaches.is_open) before_stop long

    head_there : HasHead r.top.kind r.at r.top.stop octets
        → (has_none (groups b) ≡ true) ⊎ ((8 * r.at + 8 ≤ 8 * length front) × ((8 * r.at + 32 ≤ 8 * length front) ⊎ ((b.stop < 8 * r.at + 32) ⊎ ((more : List ℕ) → length (front ++ more) ≡ r.octets → first_digit (drop (8 * r.at) (digits_of_bytes (front ++ more))) ≡ true))))
    head_there x =
        let lo : length octets ≡ length front - r.at = sym (ap (λ (x : List ℕ). length x) d) ∙ length-drop r.at front in
        elim x [
          | inl g ↦ inl (ap (λ (k : Kind). has_none (groups_of k)) rd.level.kind ∙ g)
          | inr w ↦ inr (
            omega (arith, w.0, lo, rd.before),
            elim w.1 [
              | inl four ↦ inl (omega (arith, four, lo, rd.before))
              | inr y ↦ elim y [
                | inl lt ↦ inr (inl (omega (arith, lt, rd.level.stop)))
                | inr one ↦ inr (inr (λ more long_is. ap first_digit (here more) ∙ one (digits_of_bytes more)))
              ]
            ],
          )
        ]

    pub head_tells : (e : FrameErr) → ((later : List Bool) → HeadFails (set_of_kind r.top.kind) (groups_of r.top.kind) b.children (length outer + 1) (8 * r.at) (8 * r.top.stop) (digits_of_bytes octets ++ later) e) → HasHead r.top.kind r.at r.top.stop octets → TellsFor r.set (b ∷ outer) front r.octets e
    head_tells e f there = record {
      tree = b ∷ outer;
      is = inl refl;
      root = resting.reaches.root;
      tells = λ more long_is.
          let ds : List Bool = digits_of_bytes (front ++ more) in
          let P : ℕ → List Bool → Type 0 = λ n rest. HeadFails (set_of_kind r.top.kind) (groups_of r.top.kind) b.children (length outer + 1) (8 * r.at) n rest e in
          let g : P b.stop (drop (8 * r.at) ds) = subst (λ (n : ℕ). P n (drop (8 * r.at) ds)) (sym rd.level.stop) (subst (λ (x : List Bool). P (8 * r.top.stop) x) (sym (here more)) (f (digits_of_bytes more))) in
          let st = stands_now more long_is in
          elim g [
            | inl x ↦ extra_tells_at ds b outer (8 * r.at) r.top.kind rd.level.kind resting.ready st not_over e x.0 x.1
            | inr y ↦ elim y [
              | inl x ↦ tv_tells_at ds b outer (8 * r.at) r.top.kind rd.level.kind resting.ready st not_over e x.0 x.1 x.2
              | inr x ↦ tlv_tells_at ds b outer (8 * r.at) r.top.kind rd.level.kind resting.ready st not_over e x.0 x.1 x.2
            ]
          ];
      decided = decided_for (b ∷ outer) front r.octets e (child_decided front r.octets b outer (8 * r.at) resting.reaches resting.ready not_over (head_there there));
    }

    room_of : length octets ≡ length front - r.at
    room_of = sym (ap (λ (x : List ℕ). length x) d) ∙ length-drop r.at front

    pub child_undecided : length octets < 4 → has_none (groups_of r.top.kind) ≡ false → ((later : List Bool) → (octets ≡ []) ⊎ ((first_digit (digits_of_bytes octets ++ later) ≡ false) × (8 * r.at + 32 ≤ 8 * r.top.stop))) → IsUndecided front r.octets (b ∷ outer)
    child_undecided few some f =
        let lo = room_of in
        child_waits front r.octets b outer (8 * r.at) resting.reaches resting.ready not_over (ap (λ (k : Kind). has_none (groups_of k)) rd.level.kind ∙ some) (omega (arith, lo, few, rd.before)) (λ more long_is.
        elim (f (digits_of_bytes more)) [
          | inl e ↦ inl (let z = ap (λ (x : List ℕ). length x) e in omega (arith, z, lo, rd.before))
          | inr w ↦ inr (ap first_digit (here more) ∙ w.0, omega (arith, w.1, rd.level.stop))
        ])

    pub short_reaches : (k : ParamKind) → 1 ≤ length octets → ((later : List Bool) → (first_digit (digits_of_bytes octets ++ later) ≡ true) × KindPasses (tv_kind (set_of_kind r.top.kind) (digits_of_bytes octets ++ later)) (groups_of r.top.kind) b.children (length outer + 1) k)
        → Reaches r.set front r.octets (leading (tv k) b.stop [] ∷ b ∷ outer) (8 * r.at + 8)
    short_reaches k one f =
        reaches_in front r.octets (leading (tv k) b.stop [] ∷ b ∷ outer) (8 * r.at + 8) resting.reaches.fits (let z = room_of in omega (arith, rd.before)) resting.reaches.root (λ more long_is.
        let ds : List Bool = digits_of_bytes (front ++ more) in
        let P : List Bool → Type 0 = λ rest. (first_digit rest ≡ true) × KindPasses (tv_kind (set_of_kind r.top.kind) rest) (groups_of r.top.kind) b.children (length outer + 1) k in
        let g : P (drop (8 * r.at) ds) = subst P (sym (here more)) (f (digits_of_bytes more)) in
        tv_begun ds b.head b.stop b.fields b.tail b.children outer (8 * r.at) r.top.kind (length outer) rd.level.kind refl resting.ready (stands_now more long_is) before_stop long k g.0 g.1)

    pub long_reaches : (k : ParamKind) (n : ℕ) → 4 ≤ length octets → ((later : List Bool) → TlvPasses (set_of_kind r.top.kind) (groups_of r.top.kind) b.children (length outer + 1) (8 * r.at) (8 * r.top.stop) (digits_of_bytes octets ++ later) k n)
        → Reaches r.set front r.octets (leading (tlv k n) (8 * r.at + 8 * n) [] ∷ b ∷ outer) (8 * r.at + 32)
    long_reaches k n four f =
        reaches_in front r.octets (leading (tlv k n) (8 * r.at + 8 * n) [] ∷ b ∷ outer) (8 * r.at + 32) resting.reaches.fits (let z = room_of in omega (arith, rd.before)) resting.reaches.root (λ more long_is.
        let ds : List Bool = digits_of_bytes (front ++ more) in
        let P : ℕ → List Bool → Type 0 = λ m rest. TlvPasses (set_of_kind r.top.kind) (groups_of r.top.kind) b.children (length outer + 1) (8 * r.at) m rest k n in
        let g : P b.stop (drop (8 * r.at) ds) = subst (λ (m : ℕ). P m (drop (8 * r.at) ds)) (sym rd.level.stop) (subst (λ (x : List Bool). P (8 * r.top.stop) x) (sym (here more)) (f (digits_of_bytes more))) in
        tlv_begun ds b.head b.stop b.fields b.tail b.children outer (8 * r.at) r.top.kind (length outer) rd.level.kind refl resting.ready (stands_now more long_is) before_stop long k n g)

  -- ---- a closing

  module _ (done : (is_tv_kind r.top.kind ≡ true) ⊎ (r.top.stop ≤ r.at)) where
    at_end : (is_tv_kind r.top.kind ≡ true) ⊎ (b.stop ≤ 8 * r.at)
    at_end = elim done [ inl t ↦ inl t | inr le ↦ inr (omega (arith, le, rd.level.stop)) ]

    pub over_is : has_ended b.head (nat_le b.stop (8 * r.at)) ≡ true
    over_is = over_at b.head r.top.kind b.stop (8 * r.at) rd.level.kind at_end outer (head_in b outer resting.reaches.is_open)

    pub missing_tell : (e : FrameErr) → is_enough (groups b) b.children ≡ false → e ≡ Bad (record { bit = 8 * r.top.stop; reason = Missing }) → TellsFor r.set (b ∷ outer) front r.octets e
    missing_tell e few told = record {
      tree = b ∷ outer;
      is = inl refl;
      root = resting.reaches.root;
      tells = λ more long_is.
          let ds : List Bool = digits_of_bytes (front ++ more) in
          let is : e ≡ Bad (record { bit = b.stop; reason = Missing }) = told ∙ ap (λ (n : ℕ). Bad (record { bit = n; reason = Missing })) (sym rd.level.stop) in
          subst (TellsAt ds (b ∷ outer)) (sym is) (tells_at ds b outer (8 * r.at) Close (Bad (record { bit = b.stop; reason = Missing })) (stands_now more long_is) (closing_turn b (8 * r.at) (drop (8 * r.at) ds) resting.ready over_is) (missing_first b (length (b ∷ outer)) (8 * r.at) (drop (8 * r.at) ds) few));
      decided = decided_for (b ∷ outer) front r.octets e (decided front r.octets b outer (8 * r.at) resting.reaches (λ more long_is. (Close, closing_turn b (8 * r.at) (drop (8 * r.at) (digits_of_bytes (front ++ more))) resting.ready over_is, resting.reaches.within)));
    }

    pub closed_reaches : (p : Begun) (os : List Begun) → outer ≡ p ∷ os → is_enough (groups b) b.children ≡ true
        → Reaches r.set front r.octets (begin_node p.head p.stop p.fields p.tail (with_child p.children b.head b.fields b.tail b.children) ∷ os) (8 * r.at)
    closed_reaches p os e enough =
        reaches_in front r.octets (begin_node p.head p.stop p.fields p.tail (with_child p.children b.head b.fields b.tail b.children) ∷ os) (8 * r.at) resting.reaches.fits (omega (arith, rd.before)) (subst (λ (x : List Begun). root_of b.head x ≡ r.set) e resting.reaches.root) (λ more long_is.
        let ds : List Bool = digits_of_bytes (front ++ more) in
        let c : Closes ds b (p ∷ os) (8 * r.at) = record { stands = subst (λ (x : List Begun). IsAt ds (b ∷ x) (8 * r.at)) e (stands_now more long_is); ready = resting.ready; over = over_is; enough = enough } in
        subst (λ (x : Forest). IsAt ds (begin_node p.head p.stop p.fields p.tail x ∷ os) (8 * r.at)) (with_child_is p.children b.head b.fields b.tail b.children)
        (child_closes ds p.head p.stop p.fields p.tail p.children b.fields b.tail b.children os (8 * r.at) b.head b.stop c))

    pub parent_due : (p : Begun) (os : List Begun) (cs : Forest) → outer ≡ p ∷ os → due (begin_node p.head p.stop p.fields p.tail cs) ≡ Rest
    parent_due p os cs e = same_due p cs (parent_ready b.head b.stop p os (head_in b (p ∷ os) (subst (λ (x : List Begun). IsOpenTree (b ∷ x)) e resting.reaches.is_open)))
