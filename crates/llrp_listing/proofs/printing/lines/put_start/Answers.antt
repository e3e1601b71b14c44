use Rattle.llrp_listing.proofs.PlaceLemmas.{two_puts, puts_same}
use Rattle.llrp_listing.proofs.TableLemmas.{start_text}
use Rattle.llrp_listing.proofs.printing.lines.put_start.Goals as goal

pub returns-clause-text : goal.returns-clause-text
returns-clause-text c = puts_same (two_puts c.put_level-name_at.ensures.text c.put_label.ensures) (start_text c.args.level _ _ c.label-label.ensures.name)
