use Rattle.llrp_c.proofs.PutLemmas.{nexts}
use Rattle.llrp_c.proofs.next.next_in.Goals as goal

pub returns-in-Some : goal.returns-in-Some
returns-in-Some c = nexts c.list_first.result c.args.stream.now c.args.listing.now c.put_listed.new.listing c.put_listed.new.used c.put_listed.new.written c.put_listed.result c.list_first.ensures c.put_listed.ensures
