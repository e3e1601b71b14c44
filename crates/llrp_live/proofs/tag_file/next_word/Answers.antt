use Rattle.llrp_listing.proofs.SplitWords.{at_none}
use Rattle.llrp_live.proofs.TagLemmas.{no_line, no_tag}
use Rattle.llrp_live.proofs.tag_file.next_word.Goals as goal

pub returns-in_err-line : goal.returns-in_err-line
returns-in_err-line c = at_none _ _ _ c.from_residual.ensures (no_line c.args.text.now c.in_err-line.ensures)

pub returns-in_err-word_of : goal.returns-in_err-word_of
returns-in_err-word_of c = at_none _ _ _ c.from_residual-in_err-word_of.ensures (no_tag c.args.text.now c.in_ok-line.line.now c.in_ok-line.after.now c.in_ok-line.ensures c.in_err-word_of.ensures)
