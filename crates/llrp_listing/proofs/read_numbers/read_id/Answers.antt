use Rattle.std.proofs.Common.{sym, ap, ◌∙◌, arith}
use Rattle.llrp_listing.specs.Private.Numeral.{numeral}
use Rattle.llrp_listing.proofs.NumberWords.{id_none, id_other, id_read}
use Rattle.llrp_listing.proofs.read_numbers.read_id.Goals as goal

pub returns-in_default : goal.returns-in_default
returns-in_default c = id_none c.args.word.now (ap numeral (sym c.as_bytes.ensures.value) ∙ sym c.in_default.ensures)

pub returns-then-id : goal.returns-then-id
returns-then-id c = id_other c.args.word.now c.in-Some.id (ap numeral (sym c.as_bytes.ensures.value) ∙ sym c.in-Some.ensures) (omega arith)

pub returns : goal.returns
returns c = id_read c.args.word.now c.in-Some.id (ap numeral (sym c.as_bytes.ensures.value) ∙ sym c.in-Some.ensures) (omega arith)
