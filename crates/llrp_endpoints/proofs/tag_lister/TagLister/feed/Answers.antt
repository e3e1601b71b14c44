use Rattle.std.proofs.lemmas.Result.{on_ok_weaker}
use Rattle.llrp_endpoints.proofs.TagListing.{takes_tags}
use Rattle.llrp_endpoints.proofs.tag_lister.TagLister.feed.Goals as goal

pub returns-clause-takes : goal.returns-clause-takes
returns-clause-takes c = on_ok_weaker c.take.result (λ t. takes_tags c.args.piece.now c.args.self.now c.take.new.self c.args.lines.now c.take.new.lines t) c.take.ensures.takes
