use Rattle.std.proofs.Common.{ℕ, List, ◌∷◌, ap, ◌∙◌, arith}
use Rattle.llrp_listing.proofs.NamedLines.{one_octet}
use Rattle.llrp_listing.proofs.encode.several.number_at.Goals as goal

pub returns-clause-text : goal.returns-clause-text
returns-clause-text c = one_octet c.args.line.now c.args.from 32 (omega (arith, c.if-from-line.false)) c.if-line-from-ne32.false ∙ ap (λ (z : List ℕ). 32 ∷ z) c.in_ok-number.ensures
