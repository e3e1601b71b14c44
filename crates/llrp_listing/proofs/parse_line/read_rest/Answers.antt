use Rattle.std.proofs.Common.{◌≡◌, [], List, ℕ, Ok, length, ap, sym, ◌∙◌, subst}
use Rattle.llrp_listing.specs.Private.Splits.{words_in}
use Rattle.llrp_listing.specs.Lines.{words}
use Rattle.llrp_listing.specs.Private.LineReading.{ReadsRest}
use Rattle.llrp_listing.proofs.BodyWords.{nothing_left, word_left}
use Rattle.llrp_listing.proofs.parse_line.read_rest.Goals as goal

pub returns-in-None : goal.returns-in-None
returns-in-None c =
    let is : words_in c.args.rest ≡ [] = ap words_in c.in-None.is in
    let none : c.new-in-None.result ≡ [] = c.new-in-None.ensures ∙ c.new.ensures.items in
    let t : ReadsRest c.args.form [] (Ok []) = nothing_left c.args.form (ap length (sym is) ∙ c.requires) in
    subst (λ (z : List (List ℕ)). ReadsRest c.args.form z (Ok c.new-in-None.result)) (sym is) (subst (λ (z : List ℕ). ReadsRest c.args.form [] (Ok z)) (sym none) t)

pub returns-in-Some : goal.returns-in-Some
returns-in-Some c =
    let is : words_in c.args.rest ≡ words c.in-Some.word.now = ap words_in c.in-Some.is in
    subst (λ (z : List (List ℕ)). ReadsRest c.args.form z c.read_tail.result) (sym is) (word_left c.args.form c.in-Some.word.now c.read_tail.result (ap length (sym is) ∙ c.requires) c.read_tail.ensures)
