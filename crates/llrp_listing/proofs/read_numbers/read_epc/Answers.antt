use Rattle.std.proofs.Common.{ℕ, refl, sym, subst}
use Rattle.tag_uri.specs.TagText.{IsTextOf}
use Rattle.tag_uri.proofs.TextLaws.{text_or_fault}
use Rattle.llrp_listing.proofs.read_numbers.read_epc.Goals as goal

pub returns-in-Ok : goal.returns-in-Ok
returns-in-Ok c = (c.number.ensures.below, subst (λ (w : ℕ). IsTextOf w c.args.word.now) (sym c.number.ensures.number) c.in-Ok.ensures.ok)

pub returns-in-Err : goal.returns-in-Err
returns-in-Err c = (λ has. text_or_fault has.0 c.args.word.now c.in-Err.fault has.1 has.2 c.in-Err.ensures.err, (c.in-Err.fault, refl, c.in-Err.ensures.err))
