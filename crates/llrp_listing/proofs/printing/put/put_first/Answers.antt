use Rattle.std.proofs.Common.{arith, refl, ◌∙◌, ap, take}
use Rattle.std.proofs.lemmas.List.{take-take}
use Rattle.llrp_listing.proofs.PlaceLemmas.{puts_first}
use Rattle.llrp_listing.proofs.printing.put.put_first.Goals as goal

pub returns-then-count-le16 : goal.returns-then-count-le16
returns-then-count-le16 c =
    puts_first c.args.at c.put_sixteen.result c.args.count c.args.room.now c.put_sixteen.new.room c.first_half.result _ (omega arith) (omega arith) c.put_sixteen.ensures
    (ap (λ x. take c.args.count x) c.first_half.ensures ∙ take-take c.args.count 16 c.args.octets (omega arith))

pub returns-else-count-le16 : goal.returns-else-count-le16
returns-else-count-le16 c = puts_first c.args.at c.put_all.result c.args.count c.args.room.now c.put_all.new.room c.args.octets _ (omega arith) (omega arith) c.put_all.ensures refl
