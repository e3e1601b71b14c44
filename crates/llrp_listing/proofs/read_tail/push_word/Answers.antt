use Rattle.std.proofs.Common.{◌≡◌, ◌+◌, ◌*◌, ◌/◌, ◌%◌, refl, sym, ap, ◌∙◌, arith, decimal}
use Rattle.llrp_listing.proofs.DecimalWords.{numeral_is, no_text, same_number}
use Rattle.llrp_listing.proofs.read_tail.push_word.Goals as goal

pub returns-in_default : goal.returns-in_default
returns-in_default c = (refl, λ n lt e. no_text c.args.word.now (sym c.in_default.ensures) n (omega arith) e)

pub returns-then-number : goal.returns-then-number
returns-then-number c = (refl, λ n lt e. (let same : c.in-Some.number ≡ n = same_number c.args.word.now c.in-Some.number n (sym c.in-Some.ensures) (omega arith) e in absurd (omega arith)))

pub returns : goal.returns
returns c =
    let n = c.in-Some.number in
    let is = numeral_is c.args.word.now n (sym c.in-Some.ensures) in
    let parts : n ≡ 256 * (n / 256) + n % 256 = omega arith in
    record {
      high = n / 256;
      low = n % 256;
      high_octet = omega arith;
      low_octet = omega arith;
      word = is.text ∙ ap decimal parts;
      more = c.in_ok-extend_from_slice.ensures.items;
    }
