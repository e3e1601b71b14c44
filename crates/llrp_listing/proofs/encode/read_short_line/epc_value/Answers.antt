use Rattle.std.proofs.Common.{ℕ, subst, sym}
use Rattle.tag_uri.specs.TagText.{IsTextOf}
use Rattle.llrp_listing.proofs.encode.read_short_line.epc_value.Goals as goal

pub returns-in-Some : goal.returns-in-Some
returns-in-Some c = (c.number.ensures.below, subst (λ (w : ℕ). IsTextOf w c.args.word.now) (sym c.number.ensures.number) c.in-Some.ensures)
