use Rattle.llrp_listing.proofs.SplitWords.{at_none}
use Rattle.llrp_keys.proofs.PrefixLemmas.{first_line, no_line}
use Rattle.llrp_keys.proofs.prefixes.next_start.Goals as goal

pub returns-in_err-line : goal.returns-in_err-line
returns-in_err-line c = at_none _ _ _ c.from_residual.ensures (λ start count rest h. no_line c.args.text.now start count rest c.in_err-line.ensures h)

pub returns-in_err-start : goal.returns-in_err-start
returns-in_err-start c = at_none _ _ _ c.from_residual-in_err-start.ensures (λ start count rest h.
    c.in_err-start.ensures start count (first_line c.args.text.now c.in_ok-line.line.now c.in_ok-line.rest.now start count rest c.in_ok-line.ensures h))

pub returns : goal.returns
returns c = record { line = c.in_ok-line.line.now; says = c.in_ok-start.ensures; text_is = c.in_ok-line.ensures.1 }
