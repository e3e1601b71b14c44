use Rattle.std.proofs.Common.{codes, sym, ◌∙◌}
use Rattle.hex.specs.Hex.{IsBytes}
use Rattle.tag_uri.specs.Hexadecimal.{hexadecimal}
use Rattle.llrp_listing.proofs.WordDigits.{twelve, word_text}
use Rattle.llrp_listing.proofs.TextLemmas.{grown, with_part}
use Rattle.llrp_listing.proofs.epc.push_bytes.Goals as goal

pub returns : goal.returns
returns c = λ word below spelled.
    let bytes : IsBytes c.args.bytes.now = λ i. (c.type_inv.bytes i).fits in
    let digits = word_text c.args.bytes.now word below (twelve c.args.bytes.now word (sym spelled)) bytes spelled in
    grown _ _ _ (hexadecimal 24 word) (codes "\n")
    (with_part _ _ _ _ c.in_ok-extend_from_slice.ensures.items (c.as_bytes.ensures.value ∙ c.in_ok-digits.ensures ∙ sym digits))
    c.in_ok-extend_from_slice-2.ensures.items
