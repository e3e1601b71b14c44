use Rattle.std.proofs.Common.{List, [], ◌∷◌, ℕ, refl, ap, ◌∙◌, arith}
use Rattle.tag_uri.specs.Decimal.{plain}
use Rattle.tag_uri.proofs.GeneralLemmas.{plain_digits, as_plain, lawful, is_over-yes, is_over-no}
use Rattle.tag_uri.proofs.gid.parts_of.Goals as goal

pub number_below-requires-clause-digits : goal.number_below-requires-clause-digits
number_below-requires-clause-digits c = (plain_digits c.args.manager.now c.args.object_class.now c.args.serial.now c.requires.digits c.requires.plain).first.digits

pub number_below-requires-clause-some : goal.number_below-requires-clause-some
number_below-requires-clause-some c = (plain_digits c.args.manager.now c.args.object_class.now c.args.serial.now c.requires.digits c.requires.plain).first.some

pub returns-in_err-manager-clause-over : goal.returns-in_err-manager-clause-over
returns-in_err-manager-clause-over c = rw (c.from_residual.ensures, is_over-yes 28 c.args.manager.now c.in_err-manager.ensures) refl

pub number_below-requires-2-clause-digits : goal.number_below-requires-2-clause-digits
number_below-requires-2-clause-digits c = (plain_digits c.args.manager.now c.args.object_class.now c.args.serial.now c.requires.digits c.requires.plain).second.digits

pub number_below-requires-2-clause-some : goal.number_below-requires-2-clause-some
number_below-requires-2-clause-some c = (plain_digits c.args.manager.now c.args.object_class.now c.args.serial.now c.requires.digits c.requires.plain).second.some

pub returns-in_err-object_class-clause-over : goal.returns-in_err-object_class-clause-over
returns-in_err-object_class-clause-over c = rw (c.from_residual-in_err-object_class.ensures, is_over-no 28 c.in_ok-manager.manager c.args.manager.now c.in_ok-manager.ensures.0 c.in_ok-manager.ensures.1, is_over-yes 24 c.args.object_class.now c.in_err-object_class.ensures) refl

pub number_below-requires-3-clause-digits : goal.number_below-requires-3-clause-digits
number_below-requires-3-clause-digits c = (plain_digits c.args.manager.now c.args.object_class.now c.args.serial.now c.requires.digits c.requires.plain).third.digits

pub number_below-requires-3-clause-some : goal.number_below-requires-3-clause-some
number_below-requires-3-clause-some c = (plain_digits c.args.manager.now c.args.object_class.now c.args.serial.now c.requires.digits c.requires.plain).third.some

pub returns-in_err-serial-clause-over : goal.returns-in_err-serial-clause-over
returns-in_err-serial-clause-over c = rw (c.from_residual-in_err-serial.ensures, is_over-no 28 c.in_ok-manager.manager c.args.manager.now c.in_ok-manager.ensures.0 c.in_ok-manager.ensures.1, is_over-no 24 c.in_ok-object_class.object_class c.args.object_class.now c.in_ok-object_class.ensures.0 c.in_ok-object_class.ensures.1, is_over-yes 36 c.args.serial.now c.in_err-serial.ensures) refl

pub returns-clause-over : goal.returns-clause-over
returns-clause-over c = rw (is_over-no 28 c.in_ok-manager.manager c.args.manager.now c.in_ok-manager.ensures.0 c.in_ok-manager.ensures.1, is_over-no 24 c.in_ok-object_class.object_class c.args.object_class.now c.in_ok-object_class.ensures.0 c.in_ok-object_class.ensures.1, is_over-no 36 c.in_ok-serial.serial c.args.serial.now c.in_ok-serial.ensures.0 c.in_ok-serial.ensures.1) refl

pub returns-clause-lawful : goal.returns-clause-lawful
returns-clause-lawful c = lawful c.in_ok-manager.manager c.in_ok-object_class.object_class c.in_ok-serial.serial c.in_ok-manager.ensures.1 c.in_ok-object_class.ensures.1 c.in_ok-serial.ensures.1

pub returns-clause-ok : goal.returns-clause-ok
returns-clause-ok c =
    let p = plain_digits c.args.manager.now c.args.object_class.now c.args.serial.now c.requires.digits c.requires.plain in
    let a = as_plain c.args.manager.now 28 c.in_ok-manager.manager p.first p.first_plain (omega arith) c.in_ok-manager.ensures.0 c.in_ok-manager.ensures.1 in
    let b = as_plain c.args.object_class.now 24 c.in_ok-object_class.object_class p.second p.second_plain (omega arith) c.in_ok-object_class.ensures.0 c.in_ok-object_class.ensures.1 in
    let d = as_plain c.args.serial.now 36 c.in_ok-serial.serial p.third p.third_plain (omega arith) c.in_ok-serial.ensures.0 c.in_ok-serial.ensures.1 in
    ap (λ (x : List ℕ). x ∷ plain c.in_ok-object_class.object_class ∷ plain c.in_ok-serial.serial ∷ []) a
    ∙ ap (λ (x : List ℕ). c.args.manager.now ∷ x ∷ plain c.in_ok-serial.serial ∷ []) b
    ∙ ap (λ (x : List ℕ). c.args.manager.now ∷ c.args.object_class.now ∷ x ∷ []) d
