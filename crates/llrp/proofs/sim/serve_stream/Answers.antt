use Rattle.llrp.proofs.NetworkLemmas.{serves}
use Rattle.llrp.proofs.sim.serve_stream.Goals as goal

pub returns : goal.returns
returns c = serves c.args.script c.new-core.result _ _ _ _ c.run_serve.ensures.0 c.run_serve.result c.new-core.ensures c.new-source.ensures c.new-sink.ensures c.run_serve.ensures.1
