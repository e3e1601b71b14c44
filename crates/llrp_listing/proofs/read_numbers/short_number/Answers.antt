use Rattle.std.proofs.Common.{◌≡◌, ◌<◌, ◌^◌, true, false, drop, get_or, arith, rules, tests}
use Rattle.std.specs.Char.{is_ascii_digit}
use Rattle.std.proofs.lemmas.List.{length-drop}
use Rattle.llrp_listing.proofs.Numerals.{digit_small, front_all, front_fails, front_one, front_small}
use Rattle.llrp_listing.proofs.read_numbers.short_number.Goals as goal

pub returns-then-not-is_ascii_digit : goal.returns-then-not-is_ascii_digit
returns-then-not-is_ascii_digit c =
    let rest = c.read_eights-front.result.1.now in
    let bad : is_ascii_digit (get_or rest c.loop-b.b-index 0) ≡ false = search (rules, tests) in
    front_fails c.args.digits.now rest c.loop-b.b-index c.loop-b.n c.loop-b.invariant.read (omega arith) bad

pub overflow_mul-n : goal.overflow_mul-n
overflow_mul-n c =
    let rest = c.read_eights-front.result.1.now in
    let small : c.loop-b.n < 10 ^ 18 = front_small 18 1 c.args.digits.now (drop c.loop-b.b-index rest) c.loop-b.n c.loop-b.invariant.read (omega (arith, length-drop c.loop-b.b-index rest)) (omega (arith, c.requires)) in
    omega (arith, small)

pub overflow_add-n : goal.overflow_add-n
overflow_add-n c =
    let rest = c.read_eights-front.result.1.now in
    let small : c.loop-b.n < 10 ^ 18 = front_small 18 1 c.args.digits.now (drop c.loop-b.b-index rest) c.loop-b.n c.loop-b.invariant.read (omega (arith, length-drop c.loop-b.b-index rest)) (omega (arith, c.requires)) in
    let good : is_ascii_digit (get_or rest c.loop-b.b-index 0) ≡ true = search (rules, tests) in
    omega (arith, small, digit_small (get_or rest c.loop-b.b-index 0) good)

pub loop-b-preserved : goal.loop-b-preserved
loop-b-preserved c =
    let rest = c.read_eights-front.result.1.now in
    let good : is_ascii_digit (get_or rest c.loop-b.b-index 0) ≡ true = search (rules, tests) in
    record { read = front_one c.args.digits.now rest c.loop-b.b-index c.loop-b.n c.loop-b.invariant.read (omega arith) good }

pub returns : goal.returns
returns c = front_all c.args.digits.now c.read_eights-front.result.1.now c.loop-b.b-index c.loop-b.n c.loop-b.invariant.read (omega arith)
