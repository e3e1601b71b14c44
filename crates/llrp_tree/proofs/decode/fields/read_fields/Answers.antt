-- Each rule is read as a field of the open trees that are possible here.
use Rattle.std.proofs.Common.{◌≡◌, ◌+◌, ◌*◌, ◌/◌, ℕ, List, [], ◌∷◌, ◌++◌, false, length, length-append, take, map, get_or, lit<, arith, sym, ap, ◌∙◌, subst}
use Rattle.std.proofs.lemmas.Result.{err_from_is_err_and}
use Rattle.arrayvec.specs.ArrayVec.{ArrayVec}
use Rattle.tag_bits.specs.Digits.{digits_of_bytes}
use Rattle.llrp_schema.specs.declared.kinds.Field.{Field}
use Rattle.llrp_schema.specs.Schema.{FieldRule, bits_of}
use Rattle.llrp_schema.specs.Calls.Schema.{field_rule}
use Rattle.llrp_schema.proofs.TableLaws.{whole_octets}
use Rattle.llrp_tree.specs.Spelling.{spread}
use Rattle.llrp_tree.specs.Calls.Standing.{IsAt, leading}
use Rattle.llrp_tree.proofs.ReadingLemmas.{rule_width, rule_tells, plain_has_room, width_more, count_plain, count_reserved, plain_grows, reserved_grows, all_taken}
use Rattle.llrp_tree.proofs.decode.fields.read_fields.Goals as goal
use Rattle.llrp_tree.proofs.decode.fields.read_fields.Goals.{then-not-rule, else-not-rule}

-- the element after the last one
abbrev blank : Field
blank = record { name = record { ref_ptr = (0, 0); now = [] }; width = 0; reserved = false; greatest = 0; signed = false }

pub field_at-requires-clause-some : goal.field_at-requires-clause-some
field_at-requires-clause-some c = (rule_width c.fields-rules.result.now c.args.kind c.loop-rule.rule-index blank c.fields-rules.ensures (omega (arith, c.loop-rule-test.true))).0

pub field_at-requires-clause-narrow : goal.field_at-requires-clause-narrow
field_at-requires-clause-narrow c = (rule_width c.fields-rules.result.now c.args.kind c.loop-rule.rule-index blank c.fields-rules.ensures (omega (arith, c.loop-rule-test.true))).1

pub returns-in_err-value-clause-read : goal.returns-in_err-value-clause-read
returns-in_err-value-clause-read c = λ h outer k st.
    let p = err_from_is_err_and c.from_residual.result c.from_residual.ensures.1 in
    rw (p.1, p.2) (rule_tells (digits_of_bytes c.args.frame.now) c.fields-rules.result.now c.args.kind c.loop-rule.rule-index blank h (8 * c.args.stop) c.loop-rule.values.items outer c.loop-rule.at 0 c.fields-rules.ensures (omega (arith, c.loop-rule-test.true)) k (c.loop-rule.invariant.read h outer k st) c.in_err-value.field-0.0 c.in_err-value.ensures)

pub push-requires : goal.push-requires
push-requires c = (lit< tt, plain_has_room c.fields-rules.result.now c.args.kind c.loop-rule.rule-index blank c.loop-rule.values.items c.fields-rules.ensures (omega (arith, c.loop-rule-test.true)) c.if-not-rule.true c.loop-rule.invariant.count)

pub loop-rule-preserved : goal.loop-rule-preserved
loop-rule-preserved c = record {
  after = omega (arith, c.loop-rule.invariant.after);
  before = c.in_ok-value.ensures.0;
  width = omega (arith, c.loop-rule.invariant.width, width_more c.fields-rules.result.now c.loop-rule.rule-index blank (omega (arith, c.loop-rule-test.true)));
  count = elim c.if-not-rule.branch [
    | then-not-rule w ↦ (let pushed : c.if-not-rule.values.items ≡ c.loop-rule.values.items ++ c.in_ok-value.value ∷ [] = ap (λ (x : ArrayVec ℕ). x.items) w.values-is ∙ w.push.ensures.items in
        let long = ap (λ (x : List ℕ). length x) pushed ∙ length-append c.loop-rule.values.items (c.in_ok-value.value ∷ []) in
        omega (arith, long, c.loop-rule.invariant.count, count_plain c.fields-rules.result.now c.loop-rule.rule-index blank (omega (arith, c.loop-rule-test.true)) w.if-not-rule.true))
    | else-not-rule w ↦ (let kept : c.if-not-rule.values.items ≡ c.loop-rule.values.items = ap (λ (x : ArrayVec ℕ). x.items) w.values-is in
        let long = ap (λ (x : List ℕ). length x) kept in
        omega (arith, long, c.loop-rule.invariant.count, count_reserved c.fields-rules.result.now c.loop-rule.rule-index blank (omega (arith, c.loop-rule-test.true)) w.if-not-rule.false))
  ];
  read = λ h outer k st. elim c.if-not-rule.branch [
    | then-not-rule w ↦ (let pushed : c.if-not-rule.values.items ≡ c.loop-rule.values.items ++ c.in_ok-value.value ∷ [] = ap (λ (x : ArrayVec ℕ). x.items) w.values-is ∙ w.push.ensures.items in
        plain_grows (digits_of_bytes c.args.frame.now) c.fields-rules.result.now c.args.kind c.loop-rule.rule-index blank h (8 * c.args.stop) c.loop-rule.values.items outer c.loop-rule.at c.in_ok-value.value c.fields-rules.ensures (omega (arith, c.loop-rule-test.true)) k (c.loop-rule.invariant.read h outer k st) c.in_ok-value.ensures.0 c.in_ok-value.ensures.1 c.in_ok-value.ensures.2 c.if-not-rule.values.items w.if-not-rule.true c.loop-rule.invariant.count pushed)
    | else-not-rule w ↦ (let kept : c.if-not-rule.values.items ≡ c.loop-rule.values.items = ap (λ (x : ArrayVec ℕ). x.items) w.values-is in
        subst (λ (vs : List ℕ). IsAt (digits_of_bytes c.args.frame.now) (leading h (8 * c.args.stop) (spread (take (c.loop-rule.rule-index + 1) (map field_rule c.fields-rules.result.now)) vs) ∷ outer) (c.loop-rule.at + (get_or c.fields-rules.result.now c.loop-rule.rule-index blank).width)) (sym kept)
        (reserved_grows (digits_of_bytes c.args.frame.now) c.fields-rules.result.now c.args.kind c.loop-rule.rule-index blank h (8 * c.args.stop) c.loop-rule.values.items outer c.loop-rule.at c.in_ok-value.value c.fields-rules.ensures (omega (arith, c.loop-rule-test.true)) k (c.loop-rule.invariant.read h outer k st) c.in_ok-value.ensures.0 c.in_ok-value.ensures.1 c.in_ok-value.ensures.2 w.if-not-rule.false))
  ];
}

pub returns-clause-width : goal.returns-clause-width
returns-clause-width c =
    let all = ap bits_of (all_taken c.fields-rules.result.now c.args.kind c.loop-rule.rule-index c.fields-rules.ensures (omega (arith, c.loop-rule-test.false))) in
    omega (arith, all, c.loop-rule.invariant.width, whole_octets c.args.kind)

pub returns-clause-read : goal.returns-clause-read
returns-clause-read c = λ h outer k st.
    let all = all_taken c.fields-rules.result.now c.args.kind c.loop-rule.rule-index c.fields-rules.ensures (omega (arith, c.loop-rule-test.false)) in
    let place : c.loop-rule.at ≡ 8 * (c.loop-rule.at / 8) = (let w = ap bits_of all in omega (arith, w, c.loop-rule.invariant.width, whole_octets c.args.kind)) in
    subst (λ (rules : List FieldRule). IsAt (digits_of_bytes c.args.frame.now) (leading h (8 * c.args.stop) (spread rules c.loop-rule.values.items) ∷ outer) (8 * (c.loop-rule.at / 8))) all
    (subst (λ (n : ℕ). IsAt (digits_of_bytes c.args.frame.now) (leading h (8 * c.args.stop) (spread (take c.loop-rule.rule-index (map field_rule c.fields-rules.result.now)) c.loop-rule.values.items) ∷ outer) n) place (c.loop-rule.invariant.read h outer k st))
