use Rattle.std.proofs.Common.{drop, sym}
use Rattle.llrp_listing.proofs.ShortReading.{only_one}
use Rattle.llrp_listing.proofs.encode.read_short_line.only_number.Goals as goal

pub returns : goal.returns
returns c = only_one c.args.kind c.fields.result.now _ (drop c.args.from c.args.line.now) c.value_from.result c.fields.ensures c.in-len1.len_at_least c.in-len1.len_below c.if-rule.false (sym c.in-Absent.ensures) c.value_from.ensures
