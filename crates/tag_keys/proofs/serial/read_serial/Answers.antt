use Rattle.std.proofs.Common.{◌≡◌, sym, subst, ◌∙◌}
use Rattle.tag_keys.specs.declared.form.Serial.{Serial}
use Rattle.tag_keys.specs.KeyText.{serial_text}
use Rattle.tag_keys.specs.KeyFaults.{AreSerials}
use Rattle.tag_keys.specs.Private.Forms.{serial_in}
use Rattle.tag_keys.proofs.PieceLemmas.{no_zero_mark}
use Rattle.tag_keys.proofs.serial.read_serial.Goals as goal

pub returns-then-is_zero-clause-none : goal.returns-then-is_zero-clause-none
returns-then-is_zero-clause-none c =
    λ serials a e.
    no_zero_mark c.in-MarkedUnlessZero.mark.now c.args.text.now c.in_ok-serial-in-MarkedUnlessZero.serial.now serials c.in_ok-serial-in-MarkedUnlessZero.ensures.written (sym c.is_zero.ensures ∙ c.if-is_zero.true)
    (subst (λ (f : Serial). AreSerials (serial_in f) serials) c.in-MarkedUnlessZero.is a) (subst (λ (f : Serial). c.args.text.now ≡ serial_text (serial_in f) serials) c.in-MarkedUnlessZero.is e)
