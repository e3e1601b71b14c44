use Rattle.std.proofs.Common.{List, ℕ, ap, subst, sym, ◌∙◌, arith, rules}
use Rattle.llrp_schema.specs.declared.kinds.KindSet.TheVariants.{Standard}
use Rattle.llrp_tree.specs.declared.TheConstants.{MAX_LIMIT}
use Rattle.llrp_listing.specs.Calls.ListingLaws.{IsListing}
use Rattle.llrp_texts.specs.Calls.Texts.{RefusesText}
use Rattle.llrp_answers.specs.Calls.Answers.{RefusesFile, lines_in}
use Rattle.llrp_answers.proofs.FileLemmas.{after_line, is_next, refused_listing}
use Rattle.llrp_answers.proofs.file.next_pair.Goals as goal

pub returns-in-Err-messages_of-clause-refused : goal.returns-in-Err-messages_of-clause-refused
returns-in-Err-messages_of-clause-refused c =
    let front = c.split_at.ensures.front ∙ c.listed_octets.ensures.before in
    subst (RefusesFile c.args.text.now) (sym c.later_error.ensures)
    (refused_listing c.args.text.now c.in-Ok.parts.0.now c.in-Ok.parts.1.now c.in-Err-messages_of.error c.in-Ok.ensures (subst (λ (x : List ℕ). RefusesText Standard MAX_LIMIT x c.in-Err-messages_of.error) front c.in-Err-messages_of.ensures.refused))

pub returns-clause-pair : goal.returns-clause-pair
returns-clause-pair c =
    let front = c.split_at.ensures.front ∙ c.listed_octets.ensures.before in
    is_next c.args.text.now c.in-Ok.parts.0.now c.in-Ok.parts.1.now c.split_at.result.1.now _ c.count_lines.result c.in-Ok.ensures (search rules) (subst (λ (x : List ℕ). IsListing Standard MAX_LIMIT x c.in-Ok-messages_of.messages.items) front c.in-Ok-messages_of.ensures.messages)
    (c.split_at.ensures.back ∙ c.listed_octets.ensures.after) (c.count_lines.ensures.count ∙ ap lines_in front)
    (omega (arith, after_line c.args.text.now c.in-Ok.parts.0.now c.in-Ok.parts.1.now c.in-Ok.ensures, c.count_lines.ensures.within, c.split_at.ensures.front_len, c.split_at.ensures.back_len, c.listed_octets.ensures.within))
