use Rattle.std.proofs.Common.{◌≡◌, None, rules, arith, sym, ◌∙◌, suc}
use Rattle.std.proofs.lemmas.Fmt.{decimal_injective}
use Rattle.llrp_listing.proofs.SplitWords.{at_none, after_sign}
use Rattle.llrp_listing.proofs.decimal.negative_of.Goals as goal

pub returns-in_err-n : goal.returns-in_err-n
returns-in_err-n c =
    let is : c.from_residual.result ≡ None = search rules in
    at_none _ _ _ is (λ z fits e. let t = after_sign c.args.digits.now z fits e in c.in_err-n.ensures (suc t.0) (omega (arith, t.2)) t.3)

pub returns-then-n-eq0 : goal.returns-then-n-eq0
returns-then-n-eq0 c = λ z fits e.
    let t = after_sign c.args.digits.now z fits e in
    let same : c.in_ok-n.n ≡ suc t.0 = decimal_injective c.in_ok-n.n (suc t.0) (omega arith) (omega (arith, t.2)) (sym c.in_ok-n.ensures.1 ∙ t.3) in
    omega (arith, same)
