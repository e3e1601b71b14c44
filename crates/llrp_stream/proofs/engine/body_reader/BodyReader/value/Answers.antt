use Rattle.std.proofs.Common.{◌≡◌, ℕ, ◌+◌, ◌-◌, ◌*◌, ◌^◌, ◌<◌, Bool, true, List, [], ◌∷◌, ◌++◌, length, refl, sym, ap, subst, ◌∙◌, arith, length-drop}
use Rattle.tag_bits.specs.Digits.{digits_of_bytes}
use Rattle.llrp_schema.specs.declared.kinds.Kind.{Kind}
use Rattle.llrp_schema.specs.declared.kinds.Kind.TheVariants.{Parameter}
use Rattle.llrp_schema.specs.declared.kinds.ParamKind.{ParamKind}
use Rattle.llrp_schema.specs.Schema.{set_of_kind, bits_of, fields_of, groups_of}
use Rattle.llrp_tree.specs.Tree.{Forest, none, and}
use Rattle.llrp_tree.specs.OpenTree.{Begun}
use Rattle.llrp_tree.specs.Calls.Standing.{begin_node}
use Rattle.llrp_tree.specs.Private.Standing.{KindPasses}
use Rattle.llrp_tree.specs.FirstFault.{number, first_digit, tv_kind}
use Rattle.llrp_stream.specs.declared.engine.body_reader.BodyReader.{BodyReader}
use Rattle.llrp_stream.specs.declared.engine.body_reader.Stage.{Stage}
use Rattle.llrp_stream.specs.Calls.Front.{Reaches}
use Rattle.llrp_stream.specs.Calls.Reading.{AreSeen, IsAtStage, IsResting, Told}
use Rattle.llrp_stream.proofs.ChildPart.{resting, outer_length, same_due}
use Rattle.llrp_stream.proofs.SeenLemmas.{seen_are, seen_value}
use Rattle.llrp_stream.proofs.ValuePart.{width_is, value_reaches, is_next_value}
use Rattle.llrp_stream.proofs.engine.body_reader.BodyReader.value.Goals as goal

pub from_octet-value-requires-clause-some : goal.from_octet-value-requires-clause-some
from_octet-value-requires-clause-some g c =
    let n = c.requires.next c.requires.seen.0 c.requires.seen.1 in
    let w = width_is c.args.child.kind n.short in
    omega (arith, w.some, w.octets, c.value_octets-end.ensures)

pub from_octet-value-requires-clause-narrow : goal.from_octet-value-requires-clause-narrow
from_octet-value-requires-clause-narrow g c =
    let n = c.requires.next c.requires.seen.0 c.requires.seen.1 in
    let w = width_is c.args.child.kind n.short in
    omega (arith, w.most, c.value_octets-end.ensures)

pub value-requires-clause-fits : goal.value-requires-clause-fits
value-requires-clause-fits g c =
    let n = c.requires.next c.requires.seen.0 c.requires.seen.1 in
    let w = width_is c.args.child.kind n.short in
    let bits : 8 * c.value_octets-end.result ≡ bits_of (fields_of (Parameter c.args.child.kind)) = omega (arith, w.octets, c.value_octets-end.ensures) in
    subst (λ (m : ℕ). c.from_octet-value.result < 2 ^ m) bits c.from_octet-value.ensures.below

pub returns-clause-takes : goal.returns-clause-takes
returns-clause-takes g c = λ was front a d.
    let r : BodyReader = c.args.self.now in
    let octets : List ℕ = c.args.octets.now in
    let b : Begun = a.node in
    let outer : List Begun = a.outer in
    let rd = a.reads in
    let k : ParamKind = c.args.child.kind in
    let v : ℕ = c.from_octet-value.result in
    let n = c.requires.next b.children (seen_are r front b outer rd) in
    let w = width_is k n.short in
    let bits : 8 * c.value_octets-end.result ≡ bits_of (fields_of (Parameter k)) = omega (arith, w.octets, c.value_octets-end.ensures) in
    let fits : v < 2 ^ bits_of (fields_of (Parameter k)) = subst (λ (m : ℕ). v < 2 ^ m) bits c.from_octet-value.ensures.below in
    let is = λ (later : List Bool). c.from_octet-value.ensures.value later ∙ ap (λ (m : ℕ). number (digits_of_bytes octets ++ later) 8 m) bits in
    let few = outer_length r front b outer rd c.requires.stage in
    let level : length r.outer.items + 1 ≡ length outer + 1 = omega (arith, few) in
    let passes : (later : List Bool) → (first_digit (digits_of_bytes octets ++ later) ≡ true) × KindPasses (tv_kind (set_of_kind r.top.kind) (digits_of_bytes octets ++ later)) (groups_of r.top.kind) b.children (length outer + 1) k = λ later. (n.digit later, subst (λ (m : ℕ). KindPasses (tv_kind (set_of_kind r.top.kind) (digits_of_bytes octets ++ later)) (groups_of r.top.kind) b.children m k) level (n.may_begin later).passes) in
    let rc = value_reaches k n.short r front b outer rd c.requires.stage octets d c.requires.long passes v n.inside n.whole is fits in
    let nx = is_next_value k n.short r front b outer rd c.requires.stage octets d c.requires.long passes v fits in
    let told = subst (λ (x : Stage). Told (g.L.Listener.begins c.args.listener.now was) (g.L.Listener.stands c.args.listener.now was) x (b ∷ outer)) c.requires.stage a.told in
    let heard = c.in_ok-value.ensures was (b ∷ outer) told (omega (arith, few, c.requires.second)) nx in
    let s = resting r front b outer rd c.requires.stage in
    let children : Forest = and b.children k (v ∷ []) [] none in
    let node : Begun = begin_node b.head b.stop b.fields b.tail children in
    let used : ℕ = 1 + c.value_octets-end.result in
    let now : BodyReader = record { set = r.set; octets = r.octets; at = r.at + used; bit = r.bit; first = r.first; stage = r.stage; top = record { kind = r.top.kind; stop = r.top.stop; seen = c.args.child.seen }; outer = r.outer } in
    let place : 8 * r.at + 8 + bits_of (fields_of (Parameter k)) ≡ 8 * (r.at + used) = omega (arith, bits) in
    let rest : IsResting now front node outer = record { ready = same_due b children s.ready; aligned = s.aligned; reaches = subst (λ (m : ℕ). Reaches r.set front r.octets (node ∷ outer) m) place rc } in
    let lo : length octets ≡ length front - r.at = sym (ap (λ (x : List ℕ). length x) d) ∙ length-drop r.at front in
    record {
      within = omega (arith, n.whole);
      are = record {
        node = node;
        outer = outer;
        reads = record {
          level = record { kind = rd.level.kind; stop = rd.level.stop; seen = subst (λ (x : Kind). AreSeen (groups_of x) children c.args.child.seen.bits) (sym rd.level.kind) (seen_value (groups_of r.top.kind) b.children k v c.args.child.seen.bits (n.may_begin []).seen) };
          levels = rd.levels;
          stage = subst (λ (x : Stage). IsAtStage x now front node outer) (sym c.requires.stage) rest;
          before = omega (arith, rd.before, lo, n.whole, bits);
          small = rd.small;
          bit_small = rd.bit_small;
        };
        told = subst (λ (x : Stage). Told (g.L.Listener.begins c.value.new.self was) (g.L.Listener.stands c.value.new.self was) x (node ∷ outer)) (sym c.requires.stage) heard;
      };
      place = omega (arith, c.value_octets-end.ensures);
      same = refl;
      set = refl;
    }
