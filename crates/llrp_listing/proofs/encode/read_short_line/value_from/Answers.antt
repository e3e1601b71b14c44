use Rattle.llrp_listing.proofs.ShortReading.{is_unsigned, long_value}
use Rattle.llrp_listing.proofs.encode.read_short_line.value_from.Goals as goal

pub returns-in-None-number_from : goal.returns-in-None-number_from
returns-in-None-number_from c = long_value c.args.rule.now c.args.line.now c.split_at-in-None-number_from.result.1.now c.args.from c.other_number.result (is_unsigned c.args.rule.now c.if-rule-eq-EPC_BITS.false c.if-rule.false) c.split_at-in-None-number_from.ensures.back c.other_number.ensures
