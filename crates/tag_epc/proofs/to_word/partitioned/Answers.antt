use Rattle.std.proofs.Common.{◌-◌, ◌∙◌, ap, length, sym, arith}
use Rattle.tag_epc.proofs.Soundness.{sound}
use Rattle.tag_epc.proofs.EpcFields.{written, written_word}
use Rattle.tag_epc.proofs.to_word.partitioned.Goals as goal

pub push-requires-5-clause-room : goal.push-requires-5-clause-room
push-requires-5-clause-room g c =
    let s = (sound g.S.Scheme.layout g.met.S.Scheme.sound).rows (12 - c.args.company_digits) c.in-Some.row (sym c.row.ensures ∙ c.in-Some.is) in
    omega (arith, ap length c.new-writer.ensures, s.fills, g.met.S.Scheme.last_bits_is)

pub push-requires-6-clause-room : goal.push-requires-6-clause-room
push-requires-6-clause-room g c =
    let s = (sound g.S.Scheme.layout g.met.S.Scheme.sound).rows (12 - c.args.company_digits) c.in-Some.row (sym c.row.ensures ∙ c.in-Some.is) in
    omega (arith, ap length c.new-writer.ensures, s.fills, g.met.S.Scheme.last_bits_is)

pub word-requires : goal.word-requires
word-requires g c =
    let s = (sound g.S.Scheme.layout g.met.S.Scheme.sound).rows (12 - c.args.company_digits) c.in-Some.row (sym c.row.ensures ∙ c.in-Some.is) in
    omega (arith, ap length c.new-writer.ensures, s.fills, g.met.S.Scheme.last_bits_is)

pub returns : goal.returns
returns g c =
    let s = (sound g.S.Scheme.layout g.met.S.Scheme.sound).rows (12 - c.args.company_digits) c.in-Some.row (sym c.row.ensures ∙ c.in-Some.is) in
    let digits = written g.S.Scheme.layout c.in-Some.row c.args.filter (12 - c.args.company_digits) c.args.company c.args.reference c.args.last c.HEADER.result c.LAST_BITS.result
    c.new-writer.result c.push.new.self c.push-2.new.self c.push-3.new.self c.push-4.new.self c.push-5.new.self c.push-6.new.self
    (c.HEADER.ensures ∙ g.met.S.Scheme.header_is) (c.LAST_BITS.ensures ∙ g.met.S.Scheme.last_bits_is) c.new-writer.ensures
    c.push.ensures.pushed c.push-2.ensures.pushed c.push-3.ensures.pushed c.push-4.ensures.pushed c.push-5.ensures.pushed c.push-6.ensures.pushed in
    written_word c.args.kind g.S.Scheme.layout c.in-Some.row c.args.filter (12 - c.args.company_digits) c.args.company_digits c.args.company c.args.reference c.args.last c.row.result _
    c.requires.known c.row.ensures c.in-Some.is (omega (arith, c.requires.lawful.has.counted)) c.requires.lawful (c.word.ensures ∙ digits)
