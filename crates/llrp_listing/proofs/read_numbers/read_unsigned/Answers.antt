use Rattle.std.proofs.Common.{sym, ap, ◌∙◌}
use Rattle.llrp_listing.specs.Private.Numeral.{numeral}
use Rattle.llrp_listing.proofs.NumberWords.{unsigned_none, unsigned_read}
use Rattle.llrp_listing.proofs.read_numbers.read_unsigned.Goals as goal

pub returns-in_default : goal.returns-in_default
returns-in_default c = unsigned_none c.args.word.now (ap numeral (sym c.as_bytes.ensures.value) ∙ sym c.in_default.ensures)

pub returns : goal.returns
returns c = unsigned_read c.args.word.now c.in-Some.number (ap numeral (sym c.as_bytes.ensures.value) ∙ sym c.in-Some.ensures)
