use Rattle.std.proofs.Common.{◌≡◌, false, sym, ◌∙◌}
use Rattle.tag_epc.proofs.UnfitLemmas.{shift_tells}
use Rattle.tag_epc.proofs.lawful_parts.last_fits.Goals as goal

pub returns-else-ZERO_TAIL : goal.returns-else-ZERO_TAIL
returns-else-ZERO_TAIL g c =
    let bits : c.LAST_BITS.result ≡ g.S.Scheme.layout.last_bits = c.LAST_BITS.ensures ∙ g.met.S.Scheme.last_bits_is in
    let any : g.S.Scheme.layout.zero_tail ≡ false = sym g.met.S.Scheme.zero_tail_is ∙ sym c.ZERO_TAIL.ensures ∙ c.if-ZERO_TAIL.false in
    rw bits (shift_tells g.S.Scheme.layout.zero_tail g.S.Scheme.layout.last_bits c.args.last any)
