use Rattle.std.proofs.Common.{◌≡◌, inl, inr, ◌*◌, ◌<◌, ◌≤◌, ℕ, Bool, false, true, List, [], ◌∷◌, ◌++◌, length, Option, Some, refl, sym, ap, ◌∙◌, subst, arith}
use Rattle.tag_bits.specs.Digits.{digits_of_bytes}
use Rattle.llrp_schema.specs.declared.kinds.ParamKind.{ParamKind}
use Rattle.llrp_schema.specs.declared.kinds.Kind.TheVariants.{Parameter}
use Rattle.llrp_schema.specs.Schema.{GroupRule, groups_of, set_of_kind, tlv_in}
use Rattle.llrp_tree.specs.Lawful.{has_place}
use Rattle.llrp_tree.specs.FirstFault.{has_none, tlv_kind}
use Rattle.llrp_tree.specs.Private.Standing.{KindPasses}
use Rattle.llrp_tree.proofs.ChildLemmas.{digit_is_zero, length_fails}
use Rattle.llrp_stream.specs.Calls.Reading.{AreSeen, with_begun}
use Rattle.llrp_stream.specs.Private.Reading.{MayBeginThere}
use Rattle.llrp_stream.proofs.HeadLemmas.{long_head, reserved_none, long_type}
use Rattle.llrp_stream.proofs.engine.stack.known_head.Goals as goal

some_same : (a b : ParamKind) → Some a ≡ Some b → a ≡ b
some_same a b e = cc

some_groups : (gs : List GroupRule) (kind : ParamKind) → has_place gs kind ≡ true → has_none gs ≡ false
some_groups [] kind e = absurd (let z : false ≡ true = e in cc)
some_groups (g ∷ gs) kind e = refl

pub returns-then-size-lt4-clause-fails : goal.returns-then-size-lt4-clause-fails
returns-then-size-lt4-clause-fails c = λ children later cs.
    let octets : List ℕ = c.args.octets.now in
    let rest : List Bool = digits_of_bytes octets ++ later in
    let gs : List GroupRule = groups_of c.args.parent in
    let kind : ParamKind = c.args.kind in
    let four : 4 ≤ length octets = c.if-octets-lt4.false in
    let is : c.word-head.result ≡ c.args.number = cc in
    let small : c.word-head.result < 1024 = omega (arith, is, c.requires.few) in
    let zeros = reserved_none octets later (omega (arith, four)) c.word-head.result (c.word-head.ensures later) small in
    let no = digit_is_zero rest (sym (long_head octets later (omega (arith, four)) c.word-head.result (c.word-head.ensures later) small)) in
    let found : Some kind ≡ tlv_kind (set_of_kind c.args.parent) rest = sym c.requires.known ∙ ap (tlv_in (set_of_kind c.args.parent)) (sym is ∙ long_type octets later (omega (arith, four)) c.word-head.result (c.word-head.ensures later) small) in
    let p : MayBeginThere (Some kind) gs children c.args.level c.in-Ok.placed = c.in-Ok.ensures children cs in
    let same : c.in-Ok.placed.kind ≡ kind = sym (some_same kind c.in-Ok.placed.kind p.passes.is) in
    let passes : KindPasses (Some kind) gs children c.args.level kind = subst (λ (k : ParamKind). KindPasses (Some kind) gs children c.args.level k) same p.passes in
    inr (inr (some_groups gs kind passes.has, no, length_fails (set_of_kind c.args.parent) gs children c.args.level (8 * c.args.at) (8 * c.args.stop) rest (omega (arith, c.if-stop-at-lt4.false, c.requires.before)) zeros kind (subst (λ (f : Option ParamKind). KindPasses f gs children c.args.level kind) found passes) c.word-size.result (c.word-size.ensures later) c.bad.result (inl c.if-size-lt4.true) c.bad.ensures))

pub returns-then-stop-at-clause-fails : goal.returns-then-stop-at-clause-fails
returns-then-stop-at-clause-fails c = λ children later cs.
    let octets : List ℕ = c.args.octets.now in
    let rest : List Bool = digits_of_bytes octets ++ later in
    let gs : List GroupRule = groups_of c.args.parent in
    let kind : ParamKind = c.args.kind in
    let four : 4 ≤ length octets = c.if-octets-lt4.false in
    let is : c.word-head.result ≡ c.args.number = cc in
    let small : c.word-head.result < 1024 = omega (arith, is, c.requires.few) in
    let zeros = reserved_none octets later (omega (arith, four)) c.word-head.result (c.word-head.ensures later) small in
    let no = digit_is_zero rest (sym (long_head octets later (omega (arith, four)) c.word-head.result (c.word-head.ensures later) small)) in
    let found : Some kind ≡ tlv_kind (set_of_kind c.args.parent) rest = sym c.requires.known ∙ ap (tlv_in (set_of_kind c.args.parent)) (sym is ∙ long_type octets later (omega (arith, four)) c.word-head.result (c.word-head.ensures later) small) in
    let p : MayBeginThere (Some kind) gs children c.args.level c.in-Ok.placed = c.in-Ok.ensures children cs in
    let same : c.in-Ok.placed.kind ≡ kind = sym (some_same kind c.in-Ok.placed.kind p.passes.is) in
    let passes : KindPasses (Some kind) gs children c.args.level kind = subst (λ (k : ParamKind). KindPasses (Some kind) gs children c.args.level k) same p.passes in
    inr (inr (some_groups gs kind passes.has, no, length_fails (set_of_kind c.args.parent) gs children c.args.level (8 * c.args.at) (8 * c.args.stop) rest (omega (arith, c.if-stop-at-lt4.false, c.requires.before)) zeros kind (subst (λ (f : Option ParamKind). KindPasses f gs children c.args.level kind) found passes) c.word-size.result (c.word-size.ensures later) c.bad-then-stop-at.result (inr (omega (arith, c.requires.before, c.if-stop-at.true))) c.bad-then-stop-at.ensures))

pub returns-clause-says : goal.returns-clause-says
returns-clause-says c = λ children later cs.
    let octets : List ℕ = c.args.octets.now in
    let rest : List Bool = digits_of_bytes octets ++ later in
    let gs : List GroupRule = groups_of c.args.parent in
    let kind : ParamKind = c.args.kind in
    let four : 4 ≤ length octets = c.if-octets-lt4.false in
    let is : c.word-head.result ≡ c.args.number = cc in
    let small : c.word-head.result < 1024 = omega (arith, is, c.requires.few) in
    let zeros = reserved_none octets later (omega (arith, four)) c.word-head.result (c.word-head.ensures later) small in
    let no = digit_is_zero rest (sym (long_head octets later (omega (arith, four)) c.word-head.result (c.word-head.ensures later) small)) in
    let found : Some kind ≡ tlv_kind (set_of_kind c.args.parent) rest = sym c.requires.known ∙ ap (tlv_in (set_of_kind c.args.parent)) (sym is ∙ long_type octets later (omega (arith, four)) c.word-head.result (c.word-head.ensures later) small) in
    let p : MayBeginThere (Some kind) gs children c.args.level c.in-Ok.placed = c.in-Ok.ensures children cs in
    let same : c.in-Ok.placed.kind ≡ kind = sym (some_same kind c.in-Ok.placed.kind p.passes.is) in
    let passes : KindPasses (Some kind) gs children c.args.level kind = subst (λ (k : ParamKind). KindPasses (Some kind) gs children c.args.level k) same p.passes in (
      four,
      some_groups gs kind passes.has,
      no,
      record {
        room = omega (arith, c.if-stop-at-lt4.false, c.requires.before);
        zeros = zeros;
        placed = subst (λ (f : Option ParamKind). KindPasses f gs children c.args.level kind) found passes;
        octets_are = c.word-size.ensures later;
        least = c.if-size-lt4.false;
        most = omega (arith, c.if-stop-at.false, c.requires.before);
      },
      subst (λ (k : ParamKind). AreSeen gs (with_begun children (Parameter k)) c.in-Ok.placed.seen.bits) same p.seen,
    )
