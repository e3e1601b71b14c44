use Rattle.tag_bits.specs.Digits.{word_digits}
use Rattle.tag_schemes.proofs.SupplierFacts.{bytes_none, octet_read}
use Rattle.tag_schemes.proofs.supplier_word.code_in.Goals as goal

pub returns-clause-digits : goal.returns-clause-digits
returns-clause-digits c =
    let ds = word_digits c.args.word in
    let sixth = octet_read ds 52 0 c.octet_at-6.result _ c.octet_at-6.ensures bytes_none in
    let fifth = octet_read ds 44 8 c.octet_at-5.result _ c.octet_at-5.ensures sixth in
    let fourth = octet_read ds 36 16 c.octet_at-4.result _ c.octet_at-4.ensures fifth in
    let third = octet_read ds 28 24 c.octet_at-3.result _ c.octet_at-3.ensures fourth in
    let second = octet_read ds 20 32 c.octet_at-2.result _ c.octet_at-2.ensures third in
    octet_read ds 12 40 c.octet_at.result _ c.octet_at.ensures second
