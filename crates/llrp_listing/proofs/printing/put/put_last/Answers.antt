use Rattle.std.proofs.Common.{arith}
use Rattle.llrp_listing.proofs.PlaceLemmas.{puts_first}
use Rattle.llrp_listing.proofs.printing.put.put_last.Goals as goal

pub returns : goal.returns
returns c =
    let ends = c.put_eight.ensures.ends in
    puts_first c.args.at c.put_eight.result c.args.count c.args.room.now c.put_eight.new.room c.from_last.result _ (omega arith) (omega arith) c.put_eight.ensures c.from_last.ensures
