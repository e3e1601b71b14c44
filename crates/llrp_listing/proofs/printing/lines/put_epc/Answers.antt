use Rattle.std.proofs.Common.{ℕ, subst, arith}
use Rattle.tag_uri.specs.TagText.{IsTextOf}
use Rattle.llrp_listing.proofs.PlaceLemmas.{puts_text}
use Rattle.llrp_listing.proofs.printing.lines.put_epc.Goals as goal

pub returns-clause-text : goal.returns-clause-text
returns-clause-text c =
    let t = c.put_text_of_word.ensures.text in
    (t.0, subst (λ (w : ℕ). IsTextOf w t.0) c.in-Some.ensures.number t.1, puts_text c.args.at c.put_text_of_word.result c.args.room.now c.put_text_of_word.new.room t.0 (omega arith) t.2)
