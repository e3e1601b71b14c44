use Rattle.llrp_general.specs.Calls.Serving.{setting}
use Rattle.llrp_general.proofs.serve.run_serve_among.Goals as goal

pub returns : goal.returns
returns g c = rw c.into_reader.ensures (c.serve-outcome.ensures (setting c.args.core c.args.answers.pairs.items c.args.script) c.new-server.ensures)
