use Rattle.std.proofs.Common.{ℕ, ◌-◌, ◌+◌, ◌<◌, List, ◌∷◌, ◌++◌, length, take, get_or, sym, ap, ◌∙◌, arith}
use Rattle.std.proofs.lemmas.List.{append-nil, take-append-drop, drop_more, drop_all}
use Rattle.tag_keys.specs.CheckDigit.{check_digit}
use Rattle.tag_keys.proofs.key_pieces.right_digit.Goals as goal

pub returns : goal.returns
returns c =
    let ds : List ℕ = c.args.digits.now in
    let some : 0 < length ds = c.requires.some in
    let at : ℕ = length ds - 1 in
    let last : ℕ = get_or ds at 0 in
    let rest = drop_more ds at 0 (omega (arith, some)) ∙ ap (λ (t : List ℕ). last ∷ t) (drop_all (at + 1) ds (omega (arith, some))) in
    record {
      others = take at ds;
      last = last;
      split = sym (take-append-drop at ds) ∙ ap (λ (t : List ℕ). take at ds ++ t) rest;
      is = c.check_digit_of.ensures.digit ∙ ap check_digit (append-nil c.cut_digits.result.0.now ∙ c.cut_digits.ensures.front);
    }
