use Rattle.std.proofs.Common.{◌≡◌, ◌+◌, Some, drop, refl, arith}
use Rattle.llrp_schema.specs.Schema.{name_of}
use Rattle.llrp_schema.specs.declared.kinds.Kind.TheVariants.{Parameter}
use Rattle.llrp_schema.proofs.TableLaws.{tv_tail}
use Rattle.llrp_listing.proofs.NamedLines.{number_says, word_follows}
use Rattle.llrp_listing.proofs.ShortReading.{only_one}
use Rattle.llrp_listing.proofs.TvLines.{only_field}
use Rattle.llrp_listing.proofs.encode.value_line.value_after.Goals as goal

pub returns-clause-fits : goal.returns-clause-fits
returns-clause-fits c = record {
  rule = only_field c.args.kind c.fields.result.now _ c.requires.tv c.fields.ensures c.in-len1.len_at_least c.in-len1.len_below;
  fits = c.if-value-rule.false;
}

pub returns-clause-says : goal.returns-clause-says
returns-clause-says c =
    let kind = c.args.kind in
    let line = c.args.line.now in
    let rules = c.fields.result.now in
    let o = only_field kind rules _ c.requires.tv c.fields.ensures c.in-len1.len_at_least c.in-len1.len_below in
    number_says c.args.level kind (drop (c.args.end + 1) line) c.in_ok-value.value line refl c.requires.least (omega (arith, c.requires.one)) c.requires.one c.requires.short
    (only_one kind rules _ (drop (c.args.end + 1) line) (Some c.in_ok-value.value) c.fields.ensures c.in-len1.len_at_least c.in-len1.len_below o.plain (tv_tail kind c.requires.tv) c.in_ok-value.ensures)
    c.requires.starts (word_follows line (name_of (Parameter kind)) c.args.end c.requires.named (omega (arith, c.requires.within, c.if-line-end-lt2.false)) c.if-line-end-ne32.false)
