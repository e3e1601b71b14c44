use Rattle.std.proofs.Common.{zero, suc, ◌≡◌, ℕ, ◌+◌, ◌-◌, ◌*◌, ◌<◌, true, false, List, [], ◌∷◌, Option, refl, sym, ap, ◌∙◌, subst, arith, length}
use Rattle.std.specs.Prelude.{nat_le, unwrap_or}
use Rattle.llrp_schema.specs.declared.kinds.Kind.{Kind}
use Rattle.llrp_schema.specs.declared.kinds.Kind.TheVariants.{Parameter}
use Rattle.llrp_schema.specs.declared.kinds.ParamKind.{ParamKind}
use Rattle.llrp_schema.specs.Schema.{fields_of, groups_of}
use Rattle.llrp_tree.specs.Tree.{Forest, and}
use Rattle.llrp_tree.specs.Lawful.{AllLawful, IsLawfulTree}
use Rattle.llrp_tree.specs.Spelling.{Head, message, tlv, tv}
use Rattle.llrp_tree.specs.OpenTree.{Begun, kind_of_head, groups, is_enough, plain_values, IsHead, IsOpenTree}
use Rattle.llrp_tree.specs.FirstFault.{has_ended}
use Rattle.llrp_tree.specs.Calls.Standing.{begin_node}
use Rattle.llrp_tree.specs.declared.fault.FrameErr.{FrameErr}
use Rattle.llrp_tree.specs.declared.fault.Reason.TheVariants.{Missing, Utf8}
use Rattle.llrp_stream.specs.Private.Front.{IsOfNoText}
use Rattle.llrp_stream.specs.Calls.Front.{Reaches}
use Rattle.llrp_stream.specs.Calls.Received.{with_child, with_closed}
use Rattle.llrp_stream.specs.Calls.Reading.{IsResting, IsAtStage, Told}
use Rattle.llrp_stream.specs.Private.Reading.{rank, work}
use Rattle.llrp_stream.specs.declared.engine.body_reader.BodyReader.{BodyReader}
use Rattle.llrp_stream.specs.declared.engine.body_reader.Stage.{Stage}
use Rattle.llrp_stream.proofs.SeenLemmas.{seen_are, seen_closed}
use Rattle.llrp_stream.proofs.Bounds.{covered_length}
use Rattle.llrp_stream.proofs.MoreOctets.{fails_with}
use Rattle.llrp_stream.proofs.ChildPart.{popped, none_left, resting, missing_tell, over_is, closed_reaches, parent_due}
use Rattle.llrp_stream.proofs.engine.body_reader.BodyReader.close.Goals as goal

zero_of : (n : ℕ) → (0 < n → false ≡ true) → n ≡ 0
zero_of zero f = refl
zero_of (suc n) f = absurd (let z = f (omega arith) in cc)

with_child_and : (before : Forest) (h : Head) (k : ParamKind) (vs : List ℕ) (tail : Option (List ℕ)) (cs : Forest) → kind_of_head h ≡ Parameter k → with_child before h vs tail cs ≡ and before k (plain_values (fields_of (Parameter k)) vs) (unwrap_or tail []) cs
with_child_and before (message v m n id) k vs tail cs e = absurd cc
with_child_and before (tlv j n) k vs tail cs e = (let same : j ≡ k = cc in ap (λ (x : ParamKind). and before x (plain_values (fields_of (Parameter x)) vs) (unwrap_or tail []) cs) same)
with_child_and before (tv j) k vs tail cs e = (let same : j ≡ k = cc in ap (λ (x : ParamKind). and before x (plain_values (fields_of (Parameter x)) vs) (unwrap_or tail []) cs) same)

inner_kind : (h : Head) (stop : ℕ) (p : Begun) (outer : List Begun) → IsHead h stop (p ∷ outer) → (k : ParamKind) × (kind_of_head h ≡ Parameter k)
inner_kind (message v m n id) stop p outer f = absurd f
inner_kind (tlv k n) stop p outer f = (k, refl)
inner_kind (tv k) stop p outer f = (k, refl)

head_in : (b : Begun) (outer : List Begun) → IsOpenTree (b ∷ outer) → IsHead b.head b.stop outer
unfolding IsOpenTree
head_in b outer s = s.0.head

close_work : (r n : BodyReader) (left : ℕ) → n.bit ≡ r.bit → length n.outer.items + 1 ≡ length r.outer.items → n.stage ≡ r.stage → work n (left - 0) < work r left
unfolding work
close_work r n left b o s = let e = ap rank s in omega arith

pub returns-then-not-enough : goal.returns-then-not-enough
returns-then-not-enough g c = λ os was front b outer rd told d.
    let r = c.args.self.now in
    let few : c.is_enough-enough.result ≡ false = cc (c.if-not-enough.true) in
    fails_with _ _ r front b outer c.bad.result rd (missing_tell r front b outer rd c.requires.stage c.requires.over c.bad.result
    (ap (λ (k : Kind). is_enough (groups_of k) b.children) rd.level.kind ∙ sym (c.is_enough-enough.ensures b.children (seen_are r front b outer rd)) ∙ few) c.bad.ensures) _ c.requires.stage told (subst (λ (e : FrameErr). IsOfNoText e) (sym c.bad.ensures) (λ (z : Missing ≡ Utf8). cc))

lawful_in : (p : Begun) (outer : List Begun) → IsOpenTree (p ∷ outer) → AllLawful p.children
unfolding IsOpenTree
lawful_in p outer s = s.0.lawful

lawful_child : (before : Forest) (h : Head) (k : ParamKind) (vs : List ℕ) (tail : Option (List ℕ)) (cs : Forest) → kind_of_head h ≡ Parameter k → AllLawful (with_child before h vs tail cs) → IsLawfulTree (record { kind = k; fields = plain_values (fields_of (Parameter k)) vs; tail = unwrap_or tail []; children = cs })
lawful_child before h k vs tail cs e a = let l = subst AllLawful (with_child_and before h k vs tail cs e) a in (l.1, l.2)

pub close-requires : goal.close-requires
close-requires g c =
    let r = c.args.self.now in
    let w = c.requires.some in
    let s = resting r w.0 w.1 w.2 w.3 c.requires.stage in
    let all : c.is_enough-enough.result ≡ true = cc (c.if-not-enough.false) in
    let enough = ap (λ (k : Kind). is_enough (groups_of k) w.1.children) w.3.level.kind ∙ sym (c.is_enough-enough.ensures w.1.children (seen_are r w.0 w.1 w.2 w.3)) ∙ all in
    let p = popped r.outer.items c.pop.new.self.items c.in-Some.parent (kind_of_head w.1.head) w.2 c.in-Some.ensures.items w.3.levels in
    let i = inner_kind w.1.head w.1.stop p.parent p.others (head_in w.1 (p.parent ∷ p.others) (subst (λ (x : List Begun). IsOpenTree (w.1 ∷ x)) p.is s.reaches.is_open)) in
    let grown = closed_reaches r w.0 w.1 w.2 w.3 c.requires.stage c.requires.over p.parent p.others p.is enough in (
      w.4,
      record {
        node = w.1;
        parent = p.parent;
        outer = p.others;
        kind = i.0;
        kind_is = i.1;
        lawful = lawful_child p.parent.children w.1.head i.0 w.1.fields w.1.tail w.1.children i.1 (lawful_in _ p.others grown.is_open);
        told = subst (λ (x : List Begun). g.L.Listener.stands c.args.listener.now w.4 (w.1 ∷ x)) p.is w.5;
      },
    )

pub returns-in_default : goal.returns-in_default
returns-in_default g c = λ os was front b outer rd told d.
    let r = c.args.self.now in
    let s = resting r front b outer rd c.requires.stage in
    let all : c.is_enough-enough.result ≡ true = cc (c.if-not-enough.false) in
    let is : outer ≡ [] = none_left r.outer.items (kind_of_head b.head) outer (zero_of (length r.outer.items) c.in_default.ensures.variant.1) rd.levels in (
      record {
        node = b;
        ready = s.ready;
        reaches = subst (λ (x : List Begun). Reaches r.set front r.octets (b ∷ x) (8 * r.at)) is s.reaches;
        over = over_is r front b outer rd c.requires.stage c.requires.over;
        enough = ap (λ (k : Kind). is_enough (groups_of k) b.children) rd.level.kind ∙ sym (c.is_enough-enough.ensures b.children (seen_are r front b outer rd)) ∙ all;
        told = subst (λ (x : List Begun). g.L.Listener.stands c.args.listener.now was (b ∷ x)) is told;
      },
      refl,
      refl,
      refl,
    )

pub returns : goal.returns
returns g c = λ os was front b outer rd told d.
    let r = c.args.self.now in
    let s = resting r front b outer rd c.requires.stage in
    let all : c.is_enough-enough.result ≡ true = cc (c.if-not-enough.false) in
    let enough = ap (λ (k : Kind). is_enough (groups_of k) b.children) rd.level.kind ∙ sym (c.is_enough-enough.ensures b.children (seen_are r front b outer rd)) ∙ all in
    let p = popped r.outer.items c.pop.new.self.items c.in-Some.parent (kind_of_head b.head) outer c.in-Some.ensures.items rd.levels in
    let cs : Forest = with_child p.parent.children b.head b.fields b.tail b.children in
    let node : Begun = begin_node p.parent.head p.parent.stop p.parent.fields p.parent.tail cs in
    let now : BodyReader = record { set = r.set; octets = r.octets; at = r.at; bit = r.bit; first = r.first; stage = r.stage; top = c.in-Some.parent; outer = c.pop.new.self } in
    let rest : IsResting now front node p.others = record { ready = parent_due r front b outer rd c.requires.stage c.requires.over p.parent p.others cs p.is; aligned = s.aligned; reaches = closed_reaches r front b outer rd c.requires.stage c.requires.over p.parent p.others p.is enough } in
    let ended = subst (λ (n : ℕ). has_ended b.head (nat_le b.stop n) ≡ true) (sym (covered_length front r.octets (b ∷ outer) (8 * r.at) s.reaches)) (over_is r front b outer rd c.requires.stage c.requires.over) in
    let heard : g.L.Listener.stands c.close.new.self was (node ∷ p.others) = subst (λ (x : List Begun). g.L.Listener.stands c.close.new.self was (with_closed (b ∷ x))) p.is (c.in_ok-close.ensures was (b ∷ outer) told (record { node = b; outer = outer; tree_is = refl; ready = s.ready; is_open = s.reaches.is_open; ended = ended })) in
    record {
      within = omega arith;
      are = record {
        node = node;
        outer = p.others;
        reads = record {
          level = record { kind = p.level.kind; stop = p.level.stop; seen = seen_closed (groups p.parent) p.parent.children c.in-Some.parent.seen.bits b.head b.fields b.tail b.children p.level.seen };
          levels = p.levels;
          stage = subst (λ (x : Stage). IsAtStage x now front node p.others) (sym c.requires.stage) rest;
          before = rd.before;
          small = rd.small;
          bit_small = rd.bit_small;
        };
        told = subst (λ (x : Stage). Told (g.L.Listener.begins c.close.new.self was) (g.L.Listener.stands c.close.new.self was) x (node ∷ p.others)) (sym c.requires.stage) heard;
      };
      place = omega arith;
      same = refl;
      set = refl;
      less = close_work r now (length os) refl c.in-Some.ensures.len refl;
    }
