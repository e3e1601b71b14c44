-- A child's head, as a step of each open tree that is possible here.
use Rattle.std.proofs.Common.{◌≡◌, ℕ, ◌+◌, ◌*◌, [], ◌∷◌, Option, drop, subst, ap, ◌∙◌, refl, arith}
use Rattle.std.proofs.lemmas.Result.{err_from_is_err_and}
use Rattle.tag_bits.specs.Digits.{digits_of_bytes}
use Rattle.llrp_schema.specs.declared.kinds.ParamKind.{ParamKind}
use Rattle.llrp_schema.specs.Schema.{groups_of, set_of_kind, tv_in}
use Rattle.llrp_tree.specs.Tree.{forest}
use Rattle.llrp_tree.specs.Spelling.{tlv, tv}
use Rattle.llrp_tree.specs.FirstFault.{kind_checks}
use Rattle.llrp_tree.specs.Calls.Standing.{IsAt, begin_node, leading}
use Rattle.llrp_tree.specs.Private.Standing.{FailsFirst, KindPasses}
use Rattle.llrp_tree.proofs.ChildLemmas.{number_on, none_of, some_of, digit_is_one, digit_is_zero, extra_tells, tv_tells, tlv_tells, tv_begun, tlv_begun}
use Rattle.llrp_tree.proofs.decode.children.begin_child.Goals as goal

pub returns-then-groups-eq0-clause-begun : goal.returns-then-groups-eq0-clause-begun
returns-then-groups-eq0-clause-begun c = λ h outer fields tail k l d st.
    extra_tells (digits_of_bytes c.args.frame.now) h (8 * c.args.stop) fields tail (forest c.args.siblings.now) outer (8 * c.args.at) c.args.parent c.args.level k l d st (omega (arith, c.requires.before)) c.requires.has_length c.bad.result (none_of c.groups.result.now (groups_of c.args.parent) c.groups.ensures (omega arith)) c.bad.ensures

pub returns-in_err-kind-clause-begun : goal.returns-in_err-kind-clause-begun
returns-in_err-kind-clause-begun c = λ h outer fields tail k l d st.
    let p = err_from_is_err_and c.from_residual.result c.from_residual.ensures.1 in
    rw (p.1, p.2) (tv_tells (digits_of_bytes c.args.frame.now) h (8 * c.args.stop) fields tail (forest c.args.siblings.now) outer (8 * c.args.at) c.args.parent c.args.level k l d st (omega (arith, c.requires.before)) c.requires.has_length c.in_err-kind.field-0.0 (some_of c.groups.result.now (groups_of c.args.parent) c.groups.ensures (λ z. omega (arith, z))) (digit_is_one (drop (8 * c.args.at) (digits_of_bytes c.args.frame.now)) (λ z. omega (arith, z, c.get-first.ensures.value)))
    (subst (λ (f : Option ParamKind). FailsFirst (kind_checks f (groups_of c.args.parent) (forest c.args.siblings.now) (c.args.level + 1) (8 * c.args.at) (8 * c.args.at + 1)) c.in_err-kind.field-0.0) (c.param_of_tv_in.ensures ∙ ap (λ p. tv_in p c.get-number.result) c.kind_set-set.ensures ∙ ap (tv_in (set_of_kind c.args.parent)) (number_on (8 * c.args.at) 1 7 (digits_of_bytes c.args.frame.now) c.get-number.result c.get-number.ensures.value)) c.in_err-kind.ensures))

pub returns-then-first-ne0-clause-begun : goal.returns-then-first-ne0-clause-begun
returns-then-first-ne0-clause-begun c = λ h outer fields tail k l d st.
    let place : 8 * c.args.at + 8 ≡ 8 * (c.args.at + 1) = omega arith in (
      tv c.in_ok-kind.kind,
      refl,
      subst (λ (n : ℕ). IsAt (digits_of_bytes c.args.frame.now) (leading (tv c.in_ok-kind.kind) (8 * c.args.stop) [] ∷ begin_node h (8 * c.args.stop) fields tail (forest c.args.siblings.now) ∷ outer) n) place
          (tv_begun (digits_of_bytes c.args.frame.now) h (8 * c.args.stop) fields tail (forest c.args.siblings.now) outer (8 * c.args.at) c.args.parent c.args.level k l d st (omega (arith, c.requires.before)) c.requires.has_length c.in_ok-kind.kind (digit_is_one (drop (8 * c.args.at) (digits_of_bytes c.args.frame.now)) (λ z. omega (arith, z, c.get-first.ensures.value)))
          (subst (λ (f : Option ParamKind). KindPasses f (groups_of c.args.parent) (forest c.args.siblings.now) (c.args.level + 1) c.in_ok-kind.kind) (c.param_of_tv_in.ensures ∙ ap (λ p. tv_in p c.get-number.result) c.kind_set-set.ensures ∙ ap (tv_in (set_of_kind c.args.parent)) (number_on (8 * c.args.at) 1 7 (digits_of_bytes c.args.frame.now) c.get-number.result c.get-number.ensures.value)) c.in_ok-kind.ensures)),
    )

pub returns-in_err-kind-2-clause-begun : goal.returns-in_err-kind-2-clause-begun
returns-in_err-kind-2-clause-begun c = λ h outer fields tail k l d st.
    let p = err_from_is_err_and c.from_residual-in_err-kind-2.result c.from_residual-in_err-kind-2.ensures.1 in
    rw (p.1, p.2) (tlv_tells (digits_of_bytes c.args.frame.now) h (8 * c.args.stop) fields tail (forest c.args.siblings.now) outer (8 * c.args.at) c.args.parent c.args.level k l d st (omega (arith, c.requires.before)) c.requires.has_length c.in_err-kind-2.field-0.0 (some_of c.groups.result.now (groups_of c.args.parent) c.groups.ensures (λ z. omega (arith, z))) (digit_is_zero (drop (8 * c.args.at) (digits_of_bytes c.args.frame.now)) (omega (arith, c.get-first.ensures.value))) c.in_err-kind-2.ensures)

pub returns-clause-begun : goal.returns-clause-begun
returns-clause-begun c = λ h outer fields tail k l d st.
    let n : ℕ = c.in_ok-kind-2.octets in
    let place : 8 * c.args.at + 32 ≡ 8 * (c.args.at + 4) = omega arith in
    let end : 8 * c.args.at + 8 * n ≡ 8 * (c.args.at + n) = omega arith in (
      tlv c.in_ok-kind-2.kind n,
      refl,
      subst (λ (m : ℕ). IsAt (digits_of_bytes c.args.frame.now) (leading (tlv c.in_ok-kind-2.kind n) m [] ∷ begin_node h (8 * c.args.stop) fields tail (forest c.args.siblings.now) ∷ outer) (8 * (c.args.at + 4))) end
          (subst (λ (m : ℕ). IsAt (digits_of_bytes c.args.frame.now) (leading (tlv c.in_ok-kind-2.kind n) (8 * c.args.at + 8 * n) [] ∷ begin_node h (8 * c.args.stop) fields tail (forest c.args.siblings.now) ∷ outer) m) place
          (tlv_begun (digits_of_bytes c.args.frame.now) h (8 * c.args.stop) fields tail (forest c.args.siblings.now) outer (8 * c.args.at) c.args.parent c.args.level k l d st (omega (arith, c.requires.before)) c.requires.has_length c.in_ok-kind-2.kind n c.in_ok-kind-2.ensures)),
    )
