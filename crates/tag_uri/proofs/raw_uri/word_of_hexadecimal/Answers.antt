use Rattle.std.proofs.Common.{◌≡◌, ℕ, true, refl, arith}
use Rattle.std.proofs.lemmas.List.{take_all, length-drop}
use Rattle.std.proofs.lemmas.List.Elements.{All-take, All-drop}
use Rattle.tag_uri.specs.Hexadecimal.{is_upper_digit}
use Rattle.tag_uri.proofs.HexadecimalLemmas.{read_halves}
use Rattle.tag_uri.proofs.raw_uri.word_of_hexadecimal.Goals as goal

pub returns-in_default-clause-none : goal.returns-in_default-clause-none
returns-in_default-clause-none c = λ are. c.in_default.ensures.none (rw c.as_bytes-octets.ensures.value (All-take (λ (x : ℕ). is_upper_digit x ≡ true) 12 c.args.text.now are.digits))

pub returns-in_default-number_of_digits-clause-none : goal.returns-in_default-number_of_digits-clause-none
returns-in_default-number_of_digits-clause-none c =
    λ are. c.in_default-number_of_digits.ensures.none (rw c.as_bytes-octets.ensures.value (All-take (λ (x : ℕ). is_upper_digit x ≡ true) _ _ (All-drop (λ (x : ℕ). is_upper_digit x ≡ true) 12 c.args.text.now are.digits)))

pub returns-clause-some : goal.returns-clause-some
returns-clause-some c =
    read_halves c.as_bytes-octets.result.now c.args.text.now _ _ c.in-Some.upper c.in-Some-number_of_digits.lower c.in-Some-new.word c.as_bytes-octets.ensures.value c.if-octets-ne24.false
    refl (take_all _ _ (omega (arith, length-drop 12 c.as_bytes-octets.result.now, c.if-octets-ne24.false)))
    c.in-Some.ensures.below c.in-Some-number_of_digits.ensures.below c.in-Some.ensures.digits c.in-Some-number_of_digits.ensures.digits c.in-Some-new.ensures.number
