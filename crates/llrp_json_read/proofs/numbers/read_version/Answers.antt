use Rattle.std.proofs.Common.{sym, ◌∙◌}
use Rattle.std.specs.Prelude.{codes}
use Rattle.json.specs.Value.{value_view}
use Rattle.llrp_listing.specs.NodeLine.{Version}
use Rattle.llrp_json_read.proofs.NumberTexts.{text_says_none, zero_is_no_version}
use Rattle.llrp_json_read.proofs.numbers.read_version.Goals as goal

pub returns-then-number-eq0 : goal.returns-then-number-eq0
returns-then-number-eq0 c = text_says_none Version (codes "version") (value_view c.args.object.now) c.in-Some.text.now (sym c.in-Some.ensures) (zero_is_no_version c.in-Some.text.now c.in-Some-number_of.number c.if-number-eq0.true (sym c.as_bytes.ensures.value ∙ c.in-Some-number_of.ensures.1))
