use Rattle.std.proofs.Common.{sym, ◌∙◌}
use Rattle.tag_schemes.specs.Schemes.{layout_in}
use Rattle.tag_schemes.proofs.RowFacts.{fills}
use Rattle.tag_schemes.proofs.WordFacts.{written, word_made}
use Rattle.tag_schemes.proofs.write_word.word_of.Goals as goal

pub returns : goal.returns
returns c =
    let found = sym c.row.ensures ∙ c.in-Some.is in
    word_made c.args.epc c.requires c.in-Some.row c.in-Some-new.word found
    (written (layout_in c.args.epc.scheme) c.in-Some.row c.args.epc.filter _ c.args.epc.company c.args.epc.reference c.args.epc.last c.header.result c.last_bits.result _ _ _ _ _ _ _
    c.header.ensures c.last_bits.ensures (fills c.args.epc.scheme _ c.in-Some.row found)
    c.pushed-header.ensures.digits c.pushed-filter.ensures.digits c.pushed-leading.ensures.digits c.pushed-company.ensures.digits c.pushed-reference.ensures.digits c.pushed-number.ensures.digits c.in-Some-new.ensures.number)
