use Rattle.std.proofs.Common.{drop, ◌+◌, refl, arith}
use Rattle.llrp_schema.specs.declared.kinds.Kind.TheVariants.{Parameter}
use Rattle.llrp_schema.specs.Schema.{name_of}
use Rattle.llrp_listing.proofs.NamedLines.{bare_says, name_last, number_says, word_follows}
use Rattle.llrp_listing.proofs.ShortReading.{bare}
use Rattle.llrp_listing.proofs.encode.read_short_line.parameter_after.Goals as goal

pub returns-then-end-line : goal.returns-then-end-line
returns-then-end-line c =
    let kind = c.args.kind in
    bare_says c.args.level kind c.args.line.now refl c.requires.least c.requires.deep c.requires.one c.requires.short (bare kind (c.if-not-is_bare.ensures.fields refl) (c.if-not-is_bare.ensures.tail refl)) c.requires.starts
    (name_last c.args.line.now (name_of (Parameter kind)) c.args.end c.requires.named c.if-end-line.true)

pub returns : goal.returns
returns c =
    let kind = c.args.kind in
    number_says c.args.level kind (drop (c.args.end + 1) c.args.line.now) c.in_ok-number.number c.args.line.now refl c.requires.least c.requires.deep c.requires.one c.requires.short c.in_ok-number.ensures c.requires.starts
    (word_follows c.args.line.now (name_of (Parameter kind)) c.args.end c.requires.named (omega (arith, c.requires.within, c.if-end-line.false)) c.if-line-end-ne32.false)
