use Rattle.llrp_listing.proofs.PlaceLemmas.{two_puts}
use Rattle.llrp_listing.proofs.TableLemmas.{value_line}
use Rattle.llrp_listing.proofs.printing.lines.put_value_line.Goals as goal

pub returns-clause-text : goal.returns-clause-text
returns-clause-text c =
    let t = c.put_value-end_at.ensures.text in
    (_, value_line c.args.level c.args.kind c.args.value t.0 c.requires.tv t.1, two_puts (two_puts (two_puts c.put_start-space_at.ensures.text c.put_octet-value_at.ensures) t.2) c.put_octet.ensures)
