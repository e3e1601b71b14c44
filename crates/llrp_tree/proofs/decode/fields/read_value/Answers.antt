-- The one rule is read as the field of the open tree that is possible here.
use Rattle.std.proofs.Common.{◌≡◌, ◌+◌, ◌*◌, ◌/◌, ℕ, [], ◌∷◌, false, get_or, arith, subst}
use Rattle.std.proofs.lemmas.Result.{err_from_is_err_and}
use Rattle.tag_bits.specs.Digits.{digits_of_bytes}
use Rattle.llrp_schema.specs.declared.kinds.Kind.TheVariants.{Parameter}
use Rattle.llrp_schema.specs.declared.kinds.Field.{Field}
use Rattle.llrp_schema.specs.Schema.{fields_of}
use Rattle.llrp_tree.specs.Spelling.{spread}
use Rattle.llrp_tree.specs.Calls.Standing.{IsAt, leading}
use Rattle.llrp_tree.proofs.ReadingLemmas.{rule_width, rule_tells}
use Rattle.llrp_tree.proofs.OneField.{one_rule, whole_width, value_stands}
use Rattle.llrp_tree.proofs.decode.fields.read_value.Goals as goal

-- the element after the last one
abbrev blank : Field
blank = record { name = record { ref_ptr = (0, 0); now = [] }; width = 0; reserved = false; greatest = 0; signed = false }

pub bounds-fields-0 : goal.bounds-fields-0
bounds-fields-0 c = omega (arith, one_rule c.fields.result.now c.args.kind blank c.requires.short c.fields.ensures)

pub field_at-requires-clause-some : goal.field_at-requires-clause-some
field_at-requires-clause-some c = (rule_width c.fields.result.now (Parameter c.args.kind) 0 blank c.fields.ensures (omega (arith, one_rule c.fields.result.now c.args.kind blank c.requires.short c.fields.ensures))).0

pub field_at-requires-clause-narrow : goal.field_at-requires-clause-narrow
field_at-requires-clause-narrow c = (rule_width c.fields.result.now (Parameter c.args.kind) 0 blank c.fields.ensures (omega (arith, one_rule c.fields.result.now c.args.kind blank c.requires.short c.fields.ensures))).1

pub returns-in_err-value-clause-read : goal.returns-in_err-value-clause-read
returns-in_err-value-clause-read c = λ h outer k st.
    let p = err_from_is_err_and c.from_residual.result c.from_residual.ensures.1 in
    rw (p.1, p.2) (rule_tells (digits_of_bytes c.args.frame.now) c.fields.result.now (Parameter c.args.kind) 0 blank h (8 * c.args.stop) [] outer (8 * c.args.from) 0 c.fields.ensures (omega (arith, one_rule c.fields.result.now c.args.kind blank c.requires.short c.fields.ensures)) k st c.in_err-value.field-0.0 c.in_err-value.ensures)

pub returns-clause-read : goal.returns-clause-read
returns-clause-read c = λ h outer k st.
    let octets = whole_width c.fields.result.now c.args.kind blank c.requires.short c.fields.ensures in
    let place : 8 * c.args.from + (get_or c.fields.result.now 0 blank).width ≡ 8 * (c.args.from + (get_or c.fields.result.now 0 blank).width / 8) = omega (arith, octets) in
    subst (λ (n : ℕ). IsAt (digits_of_bytes c.args.frame.now) (leading h (8 * c.args.stop) (spread (fields_of (Parameter c.args.kind)) (c.in_ok-value.value ∷ [])) ∷ outer) n) place
    (value_stands c.fields.result.now c.args.kind blank c.requires.short c.fields.ensures (digits_of_bytes c.args.frame.now) h (8 * c.args.stop) outer (8 * c.args.from) c.in_ok-value.value k st c.in_ok-value.ensures.0 c.in_ok-value.ensures.1 c.in_ok-value.ensures.2)
