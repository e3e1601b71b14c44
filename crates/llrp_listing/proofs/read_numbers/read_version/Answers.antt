use Rattle.std.proofs.Common.{sym, ap, ◌∙◌, arith}
use Rattle.llrp_listing.specs.Private.Numeral.{numeral}
use Rattle.llrp_listing.proofs.NumberWords.{version_none, version_other, version_read}
use Rattle.llrp_listing.proofs.read_numbers.read_version.Goals as goal

pub returns-in_default : goal.returns-in_default
returns-in_default c = version_none c.args.word.now (ap numeral (sym c.as_bytes.ensures.value) ∙ sym c.in_default.ensures)

pub returns-then-version-eq0 : goal.returns-then-version-eq0
returns-then-version-eq0 c = version_other c.args.word.now c.in-Some.version (ap numeral (sym c.as_bytes.ensures.value) ∙ sym c.in-Some.ensures) (λ e. absurd (omega (arith, c.then-version-eq0.either))) (λ e. absurd (omega (arith, c.then-version-eq0.either)))

pub returns : goal.returns
returns c = version_read c.args.word.now c.in-Some.version (ap numeral (sym c.as_bytes.ensures.value) ∙ sym c.in-Some.ensures) (omega arith) (omega arith)
