-- The checks of a head, one after another.
use Rattle.std.proofs.Common.{◌≡◌, ◌+◌, ◌*◌, Option, drop, subst, sym, ap, ◌∙◌, inl, inr, arith, rules}
use Rattle.std.proofs.lemmas.Result.{err_from_is_err_and}
use Rattle.tag_bits.specs.Digits.{digits_of_bytes}
use Rattle.llrp_schema.specs.declared.kinds.ParamKind.{ParamKind}
use Rattle.llrp_schema.specs.Schema.{groups_of, set_of_kind, tlv_in}
use Rattle.llrp_tree.specs.Tree.{forest}
use Rattle.llrp_tree.specs.FirstFault.{kind_checks}
use Rattle.llrp_tree.specs.Private.Standing.{FailsFirst, KindPasses}
use Rattle.llrp_tree.proofs.ChildLemmas.{number_on, kind_fails, length_fails}
use Rattle.llrp_tree.proofs.decode.children.tlv_head.Goals as goal

pub returns-then-stop-at-lt4 : goal.returns-then-stop-at-lt4
returns-then-stop-at-lt4 c = search rules

pub returns-in_err-kind : goal.returns-in_err-kind
returns-in_err-kind c =
    let p = err_from_is_err_and c.from_residual.result c.from_residual.ensures.1 in
    rw (p.1, p.2) (kind_fails (set_of_kind c.args.parent) (groups_of c.args.parent) (forest c.args.siblings.now) c.args.level (8 * c.args.at) (8 * c.args.stop) (drop (8 * c.args.at) (digits_of_bytes c.args.frame.now)) (omega (arith, c.if-stop-at-lt4.false)) (sym c.get-reserved.ensures.value ∙ (let z : c.get-reserved.result ≡ 0 = omega arith in z)) c.in_err-kind.field-0.0
    (subst (λ (f : Option ParamKind). FailsFirst (kind_checks f (groups_of c.args.parent) (forest c.args.siblings.now) c.args.level (8 * c.args.at) (8 * c.args.at + 6)) c.in_err-kind.field-0.0) (c.param_of_tlv_in.ensures ∙ ap (λ p. tlv_in p c.get-number.result) c.kind_set-set.ensures ∙ ap (tlv_in (set_of_kind c.args.parent)) (number_on (8 * c.args.at) 6 10 (digits_of_bytes c.args.frame.now) c.get-number.result c.get-number.ensures.value)) c.in_err-kind.ensures))

pub returns-then-octets-lt4 : goal.returns-then-octets-lt4
returns-then-octets-lt4 c =
    length_fails (set_of_kind c.args.parent) (groups_of c.args.parent) (forest c.args.siblings.now) c.args.level (8 * c.args.at) (8 * c.args.stop) (drop (8 * c.args.at) (digits_of_bytes c.args.frame.now)) (omega (arith, c.if-stop-at-lt4.false)) (sym c.get-reserved.ensures.value ∙ (let z : c.get-reserved.result ≡ 0 = omega arith in z)) c.in_ok-kind.kind
    (subst (λ (f : Option ParamKind). KindPasses f (groups_of c.args.parent) (forest c.args.siblings.now) c.args.level c.in_ok-kind.kind) (c.param_of_tlv_in.ensures ∙ ap (λ p. tlv_in p c.get-number.result) c.kind_set-set.ensures ∙ ap (tlv_in (set_of_kind c.args.parent)) (number_on (8 * c.args.at) 6 10 (digits_of_bytes c.args.frame.now) c.get-number.result c.get-number.ensures.value)) c.in_ok-kind.ensures)
    c.get-octets.result (number_on (8 * c.args.at) 16 16 (digits_of_bytes c.args.frame.now) c.get-octets.result c.get-octets.ensures.value) c.bad-then-octets-lt4.result (inl c.if-octets-lt4.true) c.bad-then-octets-lt4.ensures

pub returns-then-stop-at : goal.returns-then-stop-at
returns-then-stop-at c =
    length_fails (set_of_kind c.args.parent) (groups_of c.args.parent) (forest c.args.siblings.now) c.args.level (8 * c.args.at) (8 * c.args.stop) (drop (8 * c.args.at) (digits_of_bytes c.args.frame.now)) (omega (arith, c.if-stop-at-lt4.false)) (sym c.get-reserved.ensures.value ∙ (let z : c.get-reserved.result ≡ 0 = omega arith in z)) c.in_ok-kind.kind
    (subst (λ (f : Option ParamKind). KindPasses f (groups_of c.args.parent) (forest c.args.siblings.now) c.args.level c.in_ok-kind.kind) (c.param_of_tlv_in.ensures ∙ ap (λ p. tlv_in p c.get-number.result) c.kind_set-set.ensures ∙ ap (tlv_in (set_of_kind c.args.parent)) (number_on (8 * c.args.at) 6 10 (digits_of_bytes c.args.frame.now) c.get-number.result c.get-number.ensures.value)) c.in_ok-kind.ensures)
    c.get-octets.result (number_on (8 * c.args.at) 16 16 (digits_of_bytes c.args.frame.now) c.get-octets.result c.get-octets.ensures.value) c.bad-then-stop-at.result (inr (omega (arith, c.requires.before, c.if-stop-at.true))) c.bad-then-stop-at.ensures

pub returns : goal.returns
returns c = record {
  room = omega (arith, c.if-stop-at-lt4.false);
  zeros = (sym c.get-reserved.ensures.value ∙ (let z : c.get-reserved.result ≡ 0 = omega arith in z));
  placed = (subst (λ (f : Option ParamKind). KindPasses f (groups_of c.args.parent) (forest c.args.siblings.now) c.args.level c.in_ok-kind.kind) (c.param_of_tlv_in.ensures ∙ ap (λ p. tlv_in p c.get-number.result) c.kind_set-set.ensures ∙ ap (tlv_in (set_of_kind c.args.parent)) (number_on (8 * c.args.at) 6 10 (digits_of_bytes c.args.frame.now) c.get-number.result c.get-number.ensures.value)) c.in_ok-kind.ensures);
  octets_are = (number_on (8 * c.args.at) 16 16 (digits_of_bytes c.args.frame.now) c.get-octets.result c.get-octets.ensures.value);
  least = omega (arith, c.if-octets-lt4.false);
  most = omega (arith, c.if-stop-at.false, c.requires.before);
}
