use Rattle.std.proofs.Common.{◌≡◌, inl, inr, ◌+◌, ◌*◌, ◌<◌, ◌≤◌, ℕ, Bool, List, [], ◌∷◌, ◌++◌, length, false, true, Option, refl, sym, ap, ◌∙◌, subst, arith}
use Rattle.std.specs.Prelude.{◌==◌, map}
use Rattle.std.proofs.lemmas.Bool.{le-leb, lt-leb, eqb-true}
use Rattle.std.proofs.lemmas.Result.{err_from_is_err_and}
use Rattle.tag_bits.specs.Digits.{digits_of_bytes}
use Rattle.llrp_schema.specs.declared.kinds.ParamKind.{ParamKind}
use Rattle.llrp_schema.specs.declared.kinds.KindSet.{KindSet}
use Rattle.llrp_schema.specs.Calls.Schema.{group_rule}
use Rattle.llrp_schema.specs.declared.kinds.Group.{Group}
use Rattle.llrp_schema.specs.Schema.{GroupRule, groups_of, set_of_kind, tv_in, tlv_in}
use Rattle.llrp_tree.specs.declared.fault.FrameErr.{FrameErr}
use Rattle.llrp_tree.specs.declared.fault.FrameErr.TheVariants.{Bad}
use Rattle.llrp_tree.specs.declared.fault.Reason.TheVariants.{Short, Reserved}
use Rattle.llrp_tree.specs.Tree.{Forest}
use Rattle.llrp_tree.specs.FirstFault.{has_none, number, kind_checks, tlv_checks}
use Rattle.llrp_tree.specs.Private.Standing.{FailsFirst, KindPasses}
use Rattle.llrp_tree.proofs.ChildLemmas.{some_of, digit_is_one, digit_is_zero, kind_fails, length_fails}
use Rattle.llrp_stream.proofs.HeadLemmas.{short_digit, short_type, long_digit, reserved_some, reserved_none, long_type}
use Rattle.llrp_stream.proofs.engine.stack.child_head.Goals as goal

short_head : (p : KindSet) (gs : List GroupRule) (cs : Forest) (level at stop : ℕ) (rest : List Bool) (e : FrameErr) → stop < at + 32 → e ≡ Bad (record { bit = at; reason = Short }) → FailsFirst (tlv_checks p gs cs level at stop rest) e
short_head p gs cs level at stop rest e lt told = rw (told, lt-leb (at + 32) stop lt) refl

not_zero : (n : ℕ) → (n ≡ 0 → ⊥) → (n == 0) ≡ false
not_zero n f = (elim (n == 0) as (λ b. (n == 0) ≡ b → (n == 0) ≡ false) [ true ↦ λ e. absurd (f (eqb-true n 0 e)) | false ↦ λ e. e ]) refl

reserved_head : (p : KindSet) (gs : List GroupRule) (cs : Forest) (level at stop : ℕ) (rest : List Bool) (e : FrameErr) → at + 32 ≤ stop → (number rest 0 6 ≡ 0 → ⊥) → e ≡ Bad (record { bit = at; reason = Reserved }) → FailsFirst (tlv_checks p gs cs level at stop rest) e
reserved_head p gs cs level at stop rest e le ne told = rw (told, le-leb (at + 32) stop le, not_zero (number rest 0 6) ne) refl

some_octet : (xs : List ℕ) → (length xs == 0) ≡ false → 1 ≤ length xs
some_octet [] e = absurd (let z : true ≡ false = e in cc)
some_octet (x ∷ xs) e = omega arith

pub returns-in_err-placed-clause-says : goal.returns-in_err-placed-clause-says
returns-in_err-placed-clause-says c = λ children later cs.
    let rest : List Bool = digits_of_bytes c.args.octets.now ++ later in
    let gs : List GroupRule = groups_of c.args.parent in
    let has = some_of c.groups.result.now gs c.groups.ensures (λ z. omega (arith, z)) in
    let one = digit_is_one rest (λ z. (let o = short_digit c.args.octets.now later (some_octet c.args.octets.now (sym c.is_empty.ensures ∙ c.if-is_empty.false)) c.octet-first.result (c.octet-first.ensures later) c.if-first-ge128.true in omega arith)) in
    let is = c.short_child.ensures ∙ ap (tv_in (set_of_kind c.args.parent)) (short_type c.args.octets.now later (some_octet c.args.octets.now (sym c.is_empty.ensures ∙ c.if-is_empty.false)) c.octet-first.result (c.octet-first.ensures later) c.if-first-ge128.true) in
    let p = err_from_is_err_and c.from_residual.result c.from_residual.ensures.1 in
    rw (p.1, p.2) (inr (inl (has, one, subst (λ (f : Option ParamKind). FailsFirst (kind_checks f gs children c.args.level (8 * c.args.at) (8 * c.args.at + 1)) c.in_err-placed.field-0.0) is (c.in_err-placed.ensures children cs))))

pub returns-then-first-ge128-clause-says : goal.returns-then-first-ge128-clause-says
returns-then-first-ge128-clause-says c = λ children later cs.
    let rest : List Bool = digits_of_bytes c.args.octets.now ++ later in
    let gs : List GroupRule = groups_of c.args.parent in
    let has = some_of c.groups.result.now gs c.groups.ensures (λ z. omega (arith, z)) in
    let one = digit_is_one rest (λ z. (let o = short_digit c.args.octets.now later (some_octet c.args.octets.now (sym c.is_empty.ensures ∙ c.if-is_empty.false)) c.octet-first.result (c.octet-first.ensures later) c.if-first-ge128.true in omega arith)) in
    let is = c.short_child.ensures ∙ ap (tv_in (set_of_kind c.args.parent)) (short_type c.args.octets.now later (some_octet c.args.octets.now (sym c.is_empty.ensures ∙ c.if-is_empty.false)) c.octet-first.result (c.octet-first.ensures later) c.if-first-ge128.true) in
    let s = c.in_ok-placed.ensures children cs in
    (some_octet c.args.octets.now (sym c.is_empty.ensures ∙ c.if-is_empty.false), has, one, subst (λ (f : Option ParamKind). KindPasses f gs children c.args.level c.in_ok-placed.placed.kind) is s.passes, s.seen)

pub returns-then-stop-at-lt4-clause-says : goal.returns-then-stop-at-lt4-clause-says
returns-then-stop-at-lt4-clause-says c = λ children later cs.
    let rest : List Bool = digits_of_bytes c.args.octets.now ++ later in
    let gs : List GroupRule = groups_of c.args.parent in
    let has = some_of c.groups.result.now gs c.groups.ensures (λ z. omega (arith, z)) in
    let no = digit_is_zero rest (sym (long_digit c.args.octets.now later (some_octet c.args.octets.now (sym c.is_empty.ensures ∙ c.if-is_empty.false)) c.octet-first.result (c.octet-first.ensures later) c.if-first-ge128.false)) in
    inr (inr (has, no, short_head (set_of_kind c.args.parent) gs children c.args.level (8 * c.args.at) (8 * c.args.stop) rest c.bad-then-stop-at-lt4.result (omega (arith, c.if-stop-at-lt4.true, c.requires.before)) c.bad-then-stop-at-lt4.ensures))

pub returns-then-head-ge1024-clause-says : goal.returns-then-head-ge1024-clause-says
returns-then-head-ge1024-clause-says c = λ children later cs.
    let rest : List Bool = digits_of_bytes c.args.octets.now ++ later in
    let gs : List GroupRule = groups_of c.args.parent in
    let has = some_of c.groups.result.now gs c.groups.ensures (λ z. omega (arith, z)) in
    let no = digit_is_zero rest (sym (long_digit c.args.octets.now later (some_octet c.args.octets.now (sym c.is_empty.ensures ∙ c.if-is_empty.false)) c.octet-first.result (c.octet-first.ensures later) c.if-first-ge128.false)) in
    inr (inr (has, no, reserved_head (set_of_kind c.args.parent) gs children c.args.level (8 * c.args.at) (8 * c.args.stop) rest c.bad-then-head-ge1024.result (omega (arith, c.if-stop-at-lt4.false)) (reserved_some c.args.octets.now later (omega (arith, c.if-octets-lt4.false)) c.word-head.result (c.word-head.ensures later) c.if-head-ge1024.true) c.bad-then-head-ge1024.ensures))

pub returns-in_err-placed-2-clause-says : goal.returns-in_err-placed-2-clause-says
returns-in_err-placed-2-clause-says c = λ children later cs.
    let rest : List Bool = digits_of_bytes c.args.octets.now ++ later in
    let gs : List GroupRule = groups_of c.args.parent in
    let has = some_of c.groups.result.now gs c.groups.ensures (λ z. omega (arith, z)) in
    let no = digit_is_zero rest (sym (long_digit c.args.octets.now later (some_octet c.args.octets.now (sym c.is_empty.ensures ∙ c.if-is_empty.false)) c.octet-first.result (c.octet-first.ensures later) c.if-first-ge128.false)) in
    let zeros = reserved_none c.args.octets.now later (omega (arith, c.if-octets-lt4.false)) c.word-head.result (c.word-head.ensures later) c.if-head-ge1024.false in
    let is = c.long_child.ensures ∙ ap (tlv_in (set_of_kind c.args.parent)) (long_type c.args.octets.now later (omega (arith, c.if-octets-lt4.false)) c.word-head.result (c.word-head.ensures later) c.if-head-ge1024.false) in
    let p = err_from_is_err_and c.from_residual-in_err-placed-2.result c.from_residual-in_err-placed-2.ensures.1 in
    rw (p.1, p.2) (inr (inr (has, no, kind_fails (set_of_kind c.args.parent) gs children c.args.level (8 * c.args.at) (8 * c.args.stop) rest (omega (arith, c.if-stop-at-lt4.false)) zeros c.in_err-placed-2.field-0.0 (subst (λ (f : Option ParamKind). FailsFirst (kind_checks f gs children c.args.level (8 * c.args.at) (8 * c.args.at + 6)) c.in_err-placed-2.field-0.0) is (c.in_err-placed-2.ensures children cs)))))

pub returns-then-size-lt4-clause-says : goal.returns-then-size-lt4-clause-says
returns-then-size-lt4-clause-says c = λ children later cs.
    let rest : List Bool = digits_of_bytes c.args.octets.now ++ later in
    let gs : List GroupRule = groups_of c.args.parent in
    let has = some_of c.groups.result.now gs c.groups.ensures (λ z. omega (arith, z)) in
    let no = digit_is_zero rest (sym (long_digit c.args.octets.now later (some_octet c.args.octets.now (sym c.is_empty.ensures ∙ c.if-is_empty.false)) c.octet-first.result (c.octet-first.ensures later) c.if-first-ge128.false)) in
    let zeros = reserved_none c.args.octets.now later (omega (arith, c.if-octets-lt4.false)) c.word-head.result (c.word-head.ensures later) c.if-head-ge1024.false in
    let is = c.long_child.ensures ∙ ap (tlv_in (set_of_kind c.args.parent)) (long_type c.args.octets.now later (omega (arith, c.if-octets-lt4.false)) c.word-head.result (c.word-head.ensures later) c.if-head-ge1024.false) in
    inr (inr (has, no, length_fails (set_of_kind c.args.parent) gs children c.args.level (8 * c.args.at) (8 * c.args.stop) rest (omega (arith, c.if-stop-at-lt4.false)) zeros c.in_ok-placed-2.placed.kind (subst (λ (f : Option ParamKind). KindPasses f gs children c.args.level c.in_ok-placed-2.placed.kind) is (c.in_ok-placed-2.ensures children cs).passes) c.word-size.result (c.word-size.ensures later) c.bad-then-size-lt4.result (inl c.if-size-lt4.true) c.bad-then-size-lt4.ensures))

pub returns-then-stop-at-clause-says : goal.returns-then-stop-at-clause-says
returns-then-stop-at-clause-says c = λ children later cs.
    let rest : List Bool = digits_of_bytes c.args.octets.now ++ later in
    let gs : List GroupRule = groups_of c.args.parent in
    let has = some_of c.groups.result.now gs c.groups.ensures (λ z. omega (arith, z)) in
    let no = digit_is_zero rest (sym (long_digit c.args.octets.now later (some_octet c.args.octets.now (sym c.is_empty.ensures ∙ c.if-is_empty.false)) c.octet-first.result (c.octet-first.ensures later) c.if-first-ge128.false)) in
    let zeros = reserved_none c.args.octets.now later (omega (arith, c.if-octets-lt4.false)) c.word-head.result (c.word-head.ensures later) c.if-head-ge1024.false in
    let is = c.long_child.ensures ∙ ap (tlv_in (set_of_kind c.args.parent)) (long_type c.args.octets.now later (omega (arith, c.if-octets-lt4.false)) c.word-head.result (c.word-head.ensures later) c.if-head-ge1024.false) in
    inr (inr (has, no, length_fails (set_of_kind c.args.parent) gs children c.args.level (8 * c.args.at) (8 * c.args.stop) rest (omega (arith, c.if-stop-at-lt4.false)) zeros c.in_ok-placed-2.placed.kind (subst (λ (f : Option ParamKind). KindPasses f gs children c.args.level c.in_ok-placed-2.placed.kind) is (c.in_ok-placed-2.ensures children cs).passes) c.word-size.result (c.word-size.ensures later) c.bad-then-stop-at.result (inr (omega (arith, c.requires.before, c.if-stop-at.true))) c.bad-then-stop-at.ensures))

pub returns-clause-says : goal.returns-clause-says
returns-clause-says c = λ children later cs.
    let rest : List Bool = digits_of_bytes c.args.octets.now ++ later in
    let gs : List GroupRule = groups_of c.args.parent in
    let has = some_of c.groups.result.now gs c.groups.ensures (λ z. omega (arith, z)) in
    let no = digit_is_zero rest (sym (long_digit c.args.octets.now later (some_octet c.args.octets.now (sym c.is_empty.ensures ∙ c.if-is_empty.false)) c.octet-first.result (c.octet-first.ensures later) c.if-first-ge128.false)) in
    let zeros = reserved_none c.args.octets.now later (omega (arith, c.if-octets-lt4.false)) c.word-head.result (c.word-head.ensures later) c.if-head-ge1024.false in
    let is = c.long_child.ensures ∙ ap (tlv_in (set_of_kind c.args.parent)) (long_type c.args.octets.now later (omega (arith, c.if-octets-lt4.false)) c.word-head.result (c.word-head.ensures later) c.if-head-ge1024.false) in (
      c.if-octets-lt4.false,
      has,
      no,
      record {
        room = omega (arith, c.if-stop-at-lt4.false);
        zeros = zeros;
        placed = subst (λ (f : Option ParamKind). KindPasses f gs children c.args.level c.in_ok-placed-2.placed.kind) is (c.in_ok-placed-2.ensures children cs).passes;
        octets_are = c.word-size.ensures later;
        least = c.if-size-lt4.false;
        most = omega (arith, c.if-stop-at.false, c.requires.before);
      },
      (c.in_ok-placed-2.ensures children cs).seen,
    )

pub returns-then-octets-lt4-clause-says : goal.returns-then-octets-lt4-clause-says
returns-then-octets-lt4-clause-says c = λ children later cs.
    let rest : List Bool = digits_of_bytes c.args.octets.now ++ later in
    let gs : List GroupRule = groups_of c.args.parent in
    let has = some_of c.groups.result.now gs c.groups.ensures (λ z. omega (arith, z)) in
    let no = digit_is_zero rest (sym (long_digit c.args.octets.now later (some_octet c.args.octets.now (sym c.is_empty.ensures ∙ c.if-is_empty.false)) c.octet-first.result (c.octet-first.ensures later) c.if-first-ge128.false)) in
    (c.if-octets-lt4.true, omega (arith, c.if-octets-lt4.true, c.if-stop-at-lt4.false, c.requires.before), has, inr (no, omega (arith, c.if-stop-at-lt4.false, c.requires.before)))

none_of : (gs : List Group) (hs : List GroupRule) → map group_rule gs ≡ hs → length gs ≡ 0 → has_none hs ≡ true
none_of [] hs same e = ap has_none (sym same)
none_of (g ∷ gs) hs same e = absurd (omega (arith, e))

pub returns-in_err-placed-clause-there : goal.returns-in_err-placed-clause-there
returns-in_err-placed-clause-there c =
    let some = some_octet c.args.octets.now (sym c.is_empty.ensures ∙ c.if-is_empty.false) in
    let p = err_from_is_err_and c.from_residual.result c.from_residual.ensures.1 in
    rw p.1 (inr (some, inr (inr (λ later. digit_is_one (digits_of_bytes c.args.octets.now ++ later) (λ z. (let o = short_digit c.args.octets.now later some c.octet-first.result (c.octet-first.ensures later) c.if-first-ge128.true in omega arith))))))

pub returns-in_err-placed-2-clause-there : goal.returns-in_err-placed-2-clause-there
returns-in_err-placed-2-clause-there c =
    let p = err_from_is_err_and c.from_residual-in_err-placed-2.result c.from_residual-in_err-placed-2.ensures.1 in
    rw p.1 (inr (omega (arith, c.if-octets-lt4.false), inl c.if-octets-lt4.false))

pub returns-then-stop-at-lt4-clause-there : goal.returns-then-stop-at-lt4-clause-there
returns-then-stop-at-lt4-clause-there c = inr (some_octet c.args.octets.now (sym c.is_empty.ensures ∙ c.if-is_empty.false), inr (inl (omega (arith, c.if-stop-at-lt4.true, c.requires.before))))

pub returns-then-head-ge1024-clause-there : goal.returns-then-head-ge1024-clause-there
returns-then-head-ge1024-clause-there c = inr (omega (arith, c.if-octets-lt4.false), inl c.if-octets-lt4.false)

pub returns-then-size-lt4-clause-there : goal.returns-then-size-lt4-clause-there
returns-then-size-lt4-clause-there c = inr (omega (arith, c.if-octets-lt4.false), inl c.if-octets-lt4.false)

pub returns-then-stop-at-clause-there : goal.returns-then-stop-at-clause-there
returns-then-stop-at-clause-there c = inr (omega (arith, c.if-octets-lt4.false), inl c.if-octets-lt4.false)
