use Rattle.std.proofs.Common.{◌≡◌, ◌<◌, ℕ, false, true, List, Option, Some, [], refl, arith}
use Rattle.std.proofs.lemmas.Bool.{lt-leb}
use Rattle.llrp_schema.specs.declared.kinds.ParamKind.{ParamKind}
use Rattle.llrp_schema.specs.Schema.{GroupRule, groups_of}
use Rattle.llrp_tree.specs.declared.TheConstants.{MAX_DEPTH}
use Rattle.llrp_tree.specs.declared.fault.FrameErr.{FrameErr}
use Rattle.llrp_tree.specs.declared.fault.FrameErr.TheVariants.{Bad}
use Rattle.llrp_tree.specs.declared.fault.Reason.TheVariants.{TooMany, TooDeep}
use Rattle.llrp_tree.specs.Tree.{Forest, none}
use Rattle.llrp_tree.specs.Lawful.{has_place}
use Rattle.llrp_tree.specs.OpenTree.{takes_more}
use Rattle.llrp_tree.specs.FirstFault.{kind_checks}
use Rattle.llrp_tree.specs.Private.Standing.{FailsFirst}
use Rattle.llrp_schema.proofs.PlaceLemmas.{few_groups}
use Rattle.llrp_stream.proofs.SeenLemmas.{takes_not, takes_if, seen_more}
use Rattle.llrp_stream.proofs.engine.stack.child_kind.Goals as goal

full_fails : (found : Option ParamKind) (kind : ParamKind) (gs : List GroupRule) (cs : Forest) (level at type_at : ℕ) (e : FrameErr) → found ≡ Some kind → has_place gs kind ≡ true → takes_more gs kind cs ≡ false → e ≡ Bad (record { bit = at; reason = TooMany })
    → FailsFirst (kind_checks found gs cs level at type_at) e
full_fails found kind gs cs level at type_at e f h t told = rw (f, told, h, t) refl

deep_fails : (found : Option ParamKind) (kind : ParamKind) (gs : List GroupRule) (cs : Forest) (level at type_at : ℕ) (e : FrameErr) → found ≡ Some kind → has_place gs kind ≡ true → takes_more gs kind cs ≡ true → MAX_DEPTH < level → e ≡ Bad (record { bit = at; reason = TooDeep })
    → FailsFirst (kind_checks found gs cs level at type_at) e
deep_fails found kind gs cs level at type_at e f h t lt told = rw (f, told, h, t, lt-leb level MAX_DEPTH lt) refl

pub may_take-takes-requires : goal.may_take-takes-requires
may_take-takes-requires c = let p = c.in-Some-place.ensures.some in let f = few_groups c.args.parent in omega (arith, p.within, f)

pub returns-then-not-takes : goal.returns-then-not-takes
returns-then-not-takes c = λ children seen.
    let p = c.in-Some-place.ensures.some in
    let no : c.may_take-takes.result ≡ false = cc (c.if-not-takes.true) in
    let f = c.may_take-takes.ensures.no no in
    full_fails c.args.found c.in-Some.kind (groups_of c.args.parent) children c.args.level c.args.at c.args.type_at c.bad-then-not-takes.result c.in-Some.is
    p.placed (takes_not c.args.parent c.in-Some.kind c.in-Some-place.place p children c.args.seen.bits seen f.0 f.1) c.bad-then-not-takes.ensures

pub returns-then-level-gt-MAX_DEPTH : goal.returns-then-level-gt-MAX_DEPTH
returns-then-level-gt-MAX_DEPTH c = λ children seen.
    let p = c.in-Some-place.ensures.some in
    let has = p.placed in
    let yes : c.may_take-takes.result ≡ true = cc (c.if-not-takes.false) in
    let takes = takes_if c.args.parent c.in-Some.kind c.in-Some-place.place p children c.args.seen.bits seen (c.may_take-takes.ensures.yes yes) in
    deep_fails c.args.found c.in-Some.kind (groups_of c.args.parent) children c.args.level c.args.at c.args.type_at c.bad-then-level-gt-MAX_DEPTH.result c.in-Some.is has takes c.if-level-gt-MAX_DEPTH.true c.bad-then-level-gt-MAX_DEPTH.ensures

pub with-requires : goal.with-requires
with-requires c = let p = c.in-Some-place.ensures.some in let f = few_groups c.args.parent in omega (arith, p.within, f)

pub returns : goal.returns
returns c = λ children seen.
    let p = c.in-Some-place.ensures.some in
    let few = few_groups c.args.parent in
    let has = p.placed in
    let yes : c.may_take-takes.result ≡ true = cc (c.if-not-takes.false) in
    let takes = takes_if c.args.parent c.in-Some.kind c.in-Some-place.place p children c.args.seen.bits seen (c.may_take-takes.ensures.yes yes) in
    record {
      passes = record { is = c.in-Some.is; has = has; takes = takes; deep = c.if-level-gt-MAX_DEPTH.false };
      seen = seen_more c.args.parent c.in-Some.kind c.in-Some-place.place p children c.args.seen.bits seen c.with.result.bits c.with.ensures.here c.with.ensures.others [] [] none;
    }
