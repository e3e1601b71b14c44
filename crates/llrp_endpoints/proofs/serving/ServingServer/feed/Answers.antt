use Rattle.llrp_endpoints.proofs.ServingServer.{fed}
use Rattle.llrp_endpoints.proofs.serving.ServingServer.feed.Goals as goal

pub returns-clause-feeds : goal.returns-clause-feeds
returns-clause-feeds c = λ reader entries bytes messages h. fed reader entries bytes messages c.args.piece.now c.feed.new.self _ _ c.feed.result (c.feed.ensures.feeds reader entries bytes messages h)
