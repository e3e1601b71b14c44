use Rattle.llrp_endpoints.proofs.ServingServer.{started}
use Rattle.llrp_endpoints.proofs.serving.ServingServer.start.Goals as goal

pub returns-clause-starts : goal.returns-clause-starts
returns-clause-starts c = λ reader entries f. started reader entries c.start.new.self _ _ c.start.result (c.start.ensures.starts reader entries f)
