use Rattle.std.proofs.Common.{◌≡◌, None, rules, arith, sym}
use Rattle.llrp_listing.proofs.DecimalWords.{numeral_is}
use Rattle.llrp_listing.proofs.SplitWords.{at_none, no_number, that_number}
use Rattle.llrp_listing.proofs.decimal.number_of.Goals as goal

pub returns-in_err-n : goal.returns-in_err-n
returns-in_err-n c =
    let is : c.from_residual.result ≡ None = search rules in
    at_none _ _ _ is (λ n small e. no_number c.args.word.now n c.in_err-n.ensures (omega arith) e)

pub returns-then-n-most : goal.returns-then-n-most
returns-then-n-most c = (c.if-n-most.true, (numeral_is c.args.word.now c.in_ok-n.n (sym c.in_ok-n.ensures)).text)

pub returns-else-n-most : goal.returns-else-n-most
returns-else-n-most c = λ n small e. let same = that_number c.args.word.now c.in_ok-n.n n c.in_ok-n.ensures (omega arith) e in omega (arith, same)
