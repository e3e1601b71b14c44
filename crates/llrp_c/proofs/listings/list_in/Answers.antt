use Rattle.llrp_c.proofs.PutLemmas.{lists}
use Rattle.llrp_c.proofs.listings.list_in.Goals as goal

pub returns : goal.returns
returns c = lists c.list_frames.result c.args.stream.now c.args.listing.now c.put_listed.new.listing c.put_listed.new.used c.put_listed.new.written c.put_listed.result c.list_frames.ensures c.put_listed.ensures
