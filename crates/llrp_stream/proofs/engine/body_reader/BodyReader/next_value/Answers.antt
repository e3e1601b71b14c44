use Rattle.std.proofs.Common.{◌≡◌, ℕ, ◌+◌, ◌++◌, true, List, length, Option, Some, sym, ap, ◌∙◌, subst, arith}
use Rattle.llrp_schema.specs.declared.kinds.Kind.{Kind}
use Rattle.llrp_schema.specs.declared.kinds.Kind.TheVariants.{Parameter}
use Rattle.llrp_schema.specs.declared.kinds.ParamKind.{ParamKind}
use Rattle.llrp_schema.specs.Schema.{groups_of, is_tv}
use Rattle.llrp_tree.specs.Tree.{Forest}
use Rattle.llrp_stream.specs.declared.engine.stack.Placed.{Placed}
use Rattle.llrp_stream.specs.declared.engine.body_reader.BodyReader.{BodyReader}
use Rattle.llrp_stream.specs.Calls.Reading.{AreSeen}
use Rattle.llrp_stream.specs.Private.Reading.{AwaitsValues, BeginsValue, MayBeginThere, report_of}
use Rattle.llrp_stream.proofs.ValuePart.{width_is}
use Rattle.llrp_stream.proofs.ManyValues.{set_of_report}
use Rattle.llrp_schema.specs.declared.kinds.KindSet.{KindSet}
use Rattle.llrp_tree.specs.FirstFault.{tv_kind}
use Rattle.tag_bits.specs.Digits.{digits_of_bytes}
use Rattle.llrp_stream.proofs.engine.body_reader.BodyReader.next_value.Goals as goal

some_same : (a b : ParamKind) → Some a ≡ Some b → a ≡ b
some_same a b e = cc

-- a child may begin in a node of this kind, by the bits of its groups
abbrev MayBegin : (parent kind : ParamKind) → ℕ → Placed → Type 0
MayBegin parent kind seen placed = (children : Forest) → AreSeen (groups_of (Parameter parent)) children seen → MayBeginThere (Some kind) (groups_of (Parameter parent)) children 2 placed

-- what is known of the one that may begin
placed_short : (set : KindSet) (r : BodyReader) (octets : List ℕ) (left : ℕ) (kind : ParamKind) (placed : Placed) → AwaitsValues set r octets left → BeginsValue set octets kind → MayBegin (report_of set) kind r.top.seen.bits placed → is_tv placed.kind ≡ true
placed_short set r octets left kind placed a b f =
    let s = a.seen in
    let p = f s.0 (subst (λ (x : Kind). AreSeen (groups_of x) s.0 r.top.seen.bits) a.kind s.1) in
    subst (λ (k : ParamKind). is_tv k ≡ true) (some_same kind placed.kind p.passes.is) b.short

pub value_octets-end-requires : goal.value_octets-end-requires
value_octets-end-requires c = placed_short c.args.set c.args.self.now c.args.octets.now c.args.left c.args.kind c.in-Ok.placed c.requires.awaits c.requires.begins (subst (λ (k : ParamKind). MayBegin k c.args.kind c.args.self.now.top.seen.bits c.in-Ok.placed) c.report_of.ensures c.in-Ok.ensures)

pub overflow_add-end : goal.overflow_add-end
overflow_add-end c =
    let short = placed_short c.args.set c.args.self.now c.args.octets.now c.args.left c.args.kind c.in-Ok.placed c.requires.awaits c.requires.begins (subst (λ (k : ParamKind). MayBegin k c.args.kind c.args.self.now.top.seen.bits c.in-Ok.placed) c.report_of.ensures c.in-Ok.ensures) in
    let w = width_is c.in-Ok.placed.kind short in
    omega (arith, w.most, c.value_octets-end.ensures)

pub returns-clause-next : goal.returns-clause-next
returns-clause-next c = λ children are.
    let set : KindSet = c.args.set in
    let octets : List ℕ = c.args.octets.now in
    let r : BodyReader = c.args.self.now in
    let a = c.requires.awaits in
    let b = c.requires.begins in
    let placed : Placed = c.in-Ok.placed in
    let begins : MayBegin (report_of set) c.args.kind r.top.seen.bits placed = subst (λ (k : ParamKind). MayBegin k c.args.kind r.top.seen.bits placed) c.report_of.ensures c.in-Ok.ensures in
    let short = placed_short set r octets c.args.left c.args.kind placed a b begins in
    let w = width_is placed.kind short in
    let p : MayBeginThere (Some c.args.kind) (groups_of (Parameter (report_of set))) children 2 placed = begins children (subst (λ (x : Kind). AreSeen (groups_of x) children r.top.seen.bits) a.kind are) in
    let level : 2 ≡ length r.outer.items + 1 = omega (arith, a.second) in
    let here : MayBeginThere (Some c.args.kind) (groups_of r.top.kind) children (length r.outer.items + 1) placed = subst (λ (n : ℕ). MayBeginThere (Some c.args.kind) (groups_of r.top.kind) children n placed) level (subst (λ (x : Kind). MayBeginThere (Some c.args.kind) (groups_of x) children 2 placed) (sym a.kind) p) in
    record {
      short = short;
      digit = b.digit;
      may_begin = λ later. subst (λ (f : Option ParamKind). MayBeginThere f (groups_of r.top.kind) children (length r.outer.items + 1) placed) (sym (ap (λ (q : KindSet). tv_kind q (digits_of_bytes octets ++ later)) (set_of_report set r.top.kind a.kind) ∙ b.found later)) here;
      whole = omega (arith, w.octets, c.value_octets-end.ensures, c.if-left-end.false, a.within);
      inside = omega (arith, w.octets, c.value_octets-end.ensures, c.if-left-end.false, a.near);
    }

pub returns-clause-fits : goal.returns-clause-fits
returns-clause-fits c = omega (arith, c.value_octets-end.ensures, c.if-left-end.false)
