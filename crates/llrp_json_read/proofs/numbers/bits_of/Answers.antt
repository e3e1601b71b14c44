use Rattle.std.proofs.Common.{◌≡◌, ℕ, ◌-◌, ◌<◌, ◌∷◌, List, length, drop, take, subst, sym, arith}
use Rattle.std.specs.Prelude.{MatchOption}
use Rattle.llrp_listing.specs.NodeLine.{signed_text}
use Rattle.llrp_json_read.proofs.SignedTexts.{after_minus}
use Rattle.llrp_listing.proofs.NumberWords.{sign_first}
use Rattle.llrp_json_read.proofs.numbers.bits_of.Goals as goal

pub returns-in-45 : goal.returns-in-45
returns-in-45 c =
    let digits = take (length c.args.text.now - 1) (drop 1 c.args.text.now) in
    let is : c.args.text.now ≡ 45 ∷ digits = sign_first c.args.text.now (omega arith) (omega arith) in
    subst (λ (z : List ℕ). MatchOption c.bits_below_zero.result ((n : ℕ) → n < 256 → z ≡ signed_text n → ⊥) (λ n. (n < 256) × (z ≡ signed_text n))) (sym is) (after_minus digits c.bits_below_zero.result c.bits_below_zero.ensures)
