use Rattle.std.proofs.Common.{◌≡◌, ℕ, List, ◌∷◌, length, drop, get_or, None, refl, sym, ap, ◌∙◌, subst, arith}
use Rattle.llrp_schema.specs.declared.kinds.ParamKind.{ParamKind}
use Rattle.llrp_schema.specs.declared.kinds.Kind.TheVariants.{Parameter}
use Rattle.llrp_tree.proofs.SpelledLemmas.{refilled}
use Rattle.llrp_listing.specs.ListingRules.{node_refusal}
use Rattle.llrp_listing.specs.declared.encode.open_lines.LineRecord.{LineRecord}
use Rattle.std.specs.Vec.{vec_len, with_items}
use Rattle.llrp_listing.specs.declared.encode.buffer.EncodeBuffer.{EncodeBuffer}
use Rattle.llrp_listing.specs.Private.EncodeBuffer.{Holds, inner, settled}
use Rattle.llrp_listing.specs.Private.OpenNodes.{OpenNode, IsHeld, node_fault, with_child}
use Rattle.llrp_listing.proofs.Holding.{two, held_one, held_two, spare_at, few_levels, holds_closed, within}
use Rattle.llrp_listing.proofs.LineSteps.{parameter_closes}
use Rattle.llrp_listing.proofs.encode.buffer.EncodeBuffer.close_top.Goals as goal

is_kind : (top : LineRecord) (n : OpenNode) (kind : ParamKind) → IsHeld top n → top.kind ≡ Parameter kind → n.line.kind ≡ Parameter kind
is_kind top n kind t e = sym t.kind ∙ e

same_kind : (top : LineRecord) (n : OpenNode) (a b : ParamKind) → IsHeld top n → top.kind ≡ Parameter a → n.line.kind ≡ Parameter b → a ≡ b
same_kind top n a b t e f = let x : Parameter a ≡ Parameter b = sym e ∙ t.kind ∙ f in cc

pub settle-requires-clause-room : goal.settle-requires-clause-room
settle-requires-clause-room c =
    let w = two c.args.self.now c.args.at c.in-Some.top (inner c.pop.new.self) c.in-Some.ensures.popped c.requires in
    omega (arith, c.as_mut_slice.ensures.len, ap (λ (x : List ℕ). length x) c.as_mut_slice.ensures.value, within c.args.self.now c.args.at w.out w.more w.n w.p w.outer w.holds c.in-Some.top w.is_top c.in-Parameter.kind (is_kind c.in-Some.top w.n c.in-Parameter.kind w.is_top c.in-Parameter.is) (sym (c.fault_of.ensures w.n w.is_top) ∙ c.in-None.is))

pub returns-in-Some-fault_of-clause-stopped : goal.returns-in-Some-fault_of-clause-stopped
returns-in-Some-fault_of-clause-stopped c = λ out more n outer kind h is.
    let t = (held_one (inner c.args.self.now.rows) (inner c.pop.new.self) c.in-Some.top n outer c.in-Some.ensures.popped h.rows).0 in
    (t.number, λ limit. parameter_closes kind n limit is ∙ ap node_refusal (sym (c.fault_of.ensures n t) ∙ c.in-Some-fault_of.is))

pub settle-requires-clause-octets : goal.settle-requires-clause-octets
settle-requires-clause-octets c =
    let w = two c.args.self.now c.args.at c.in-Some.top (inner c.pop.new.self) c.in-Some.ensures.popped c.requires in
    spare_at c.args.self.now c.args.at w.out w.more w.n w.p w.outer w.holds c.in-Some.top w.is_top c.in-Parameter.kind (is_kind c.in-Some.top w.n c.in-Parameter.kind w.is_top c.in-Parameter.is) (sym (c.fault_of.ensures w.n w.is_top) ∙ c.in-None.is) c.is_tv-tv.result c.is_tv-tv.ensures

pub add_child-parent-requires : goal.add_child-parent-requires
add_child-parent-requires c =
    let w = two c.args.self.now c.args.at c.in-Some.top (inner c.pop.new.self) c.in-Some.ensures.popped c.requires in
    few_levels c.args.self.now c.args.at w.out w.more w.n w.p w.outer w.holds c.in-Some.top w.is_top c.in-Parameter.kind (is_kind c.in-Some.top w.n c.in-Parameter.kind w.is_top c.in-Parameter.is) (sym (c.fault_of.ensures w.n w.is_top) ∙ c.in-None.is)

pub set_top-requires-clause-some : goal.set_top-requires-clause-some
set_top-requires-clause-some c = omega (arith, ap (λ (r : List LineRecord). length r) c.in-Some-top.ensures)

pub set_top-requires-clause-kind : goal.set_top-requires-clause-kind
set_top-requires-clause-kind c = λ top rest e.
    let same : c.in-Some-top.parent.now ≡ top = ap (λ (r : List LineRecord). get_or r 0 top) (sym c.in-Some-top.ensures ∙ e) in
    (c.add_child-parent.ensures.same.0 ∙ ap (λ (h : LineRecord). h.kind) same, c.add_child-parent.ensures.same.1 ∙ ap (λ (h : LineRecord). h.number) same)

pub returns-in-None-clause-closed : goal.returns-in-None-clause-closed
returns-in-None-clause-closed c = λ out more n p outer kind h is.
    let all = held_two (inner c.args.self.now.rows) (inner c.pop.new.self) (drop 1 (inner c.pop.new.self)) c.in-Some.top c.in-Some-top.parent.now n p outer c.in-Some.ensures.popped c.in-Some-top.ensures h.rows in
    let fine : node_fault n.line n.children ≡ None = sym (c.fault_of.ensures n all.0) ∙ c.in-None.is in
    let k = same_kind c.in-Some.top n c.in-Parameter.kind kind all.0 c.in-Parameter.is is in
    let own = is_kind c.in-Some.top n c.in-Parameter.kind all.0 c.in-Parameter.is in
    let child = c.add_child-parent.ensures.held n p all.0 own fine all.1.0 in
    let new : EncodeBuffer = record c.args.self.now { room = with_items c.args.self.now.room c.settle.new.room; rows = c.set_top.new.self } in
    let room : new.room.items ≡ settled c.args.self.now.kept c.is_tv-tv.result c.args.at c.in-Some.top.octets c.args.self.now.room.items =
    refilled (vec_len c.args.self.now.room) c.settle.new.room c.args.self.now.room.items (omega (arith, c.args.self.now.room.ok)) (c.settle.auto.room ∙ ap (λ (x : List ℕ). length x) c.as_mut_slice.ensures.value)
    ∙ c.settle.ensures ∙ ap (λ (x : List ℕ). settled c.args.self.now.kept c.is_tv-tv.result c.args.at c.in-Some.top.octets x) c.as_mut_slice.ensures.value in (
      fine,
      subst (λ (x : ParamKind). Holds new c.args.at out more (with_child x n p ∷ outer)) k
          (holds_closed c.args.self.now c.args.at out more n p outer h c.in-Some.top all.0 c.in-Parameter.kind own fine new c.is_tv-tv.result c.add_child-parent.result (drop 1 (inner c.pop.new.self)) c.is_tv-tv.ensures room refl refl refl c.set_top.ensures.changed child all.1.1),
    )
