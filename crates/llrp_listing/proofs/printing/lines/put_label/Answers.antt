use Rattle.std.proofs.Common.{ℕ, List, take, ap, ◌∙◌}
use Rattle.std.proofs.lemmas.List.{take-take}
use Rattle.llrp_listing.proofs.PlaceLemmas.{puts_same}
use Rattle.llrp_listing.proofs.printing.lines.put_label.Goals as goal

pub returns-then-octets-le32 : goal.returns-then-octets-le32
returns-then-octets-le32 c =
    let octets : ℕ = c.args.label.now.octets in
    puts_same c.put_first.ensures (ap (λ (text : List ℕ). take octets text) c.near_half.ensures ∙ take-take octets 32 c.args.label.now.text c.if-octets-le32.true)
