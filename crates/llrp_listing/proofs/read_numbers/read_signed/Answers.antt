use Rattle.std.proofs.Common.{◌≡◌, ◌-◌, ◌∷◌, List, ℕ, length, drop, take, subst, sym, arith}
use Rattle.llrp_listing.specs.Private.LineChecks.{ReadsNumber}
use Rattle.llrp_listing.specs.NodeLine.{Signed}
use Rattle.llrp_listing.proofs.NumberWords.{sign_first, signed_below}
use Rattle.llrp_listing.proofs.read_numbers.read_signed.Goals as goal

pub returns : goal.returns
returns c =
    let digits = take (length c.args.word.now - 1) (drop 1 c.args.word.now) in
    let is : c.args.word.now ≡ 45 ∷ digits = sign_first c.args.word.now (omega arith) (omega arith) in
    subst (λ (z : List ℕ). ReadsNumber Signed z c.below_zero.result) (sym is) (signed_below digits c.below_zero.result c.below_zero.ensures)
