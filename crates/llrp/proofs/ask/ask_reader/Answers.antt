use Rattle.llrp.proofs.AskLemmas.{asks}
use Rattle.llrp.proofs.ask.ask_reader.Goals as goal

pub returns : goal.returns
returns g c = asks c.args.manner c.args.steps.now _ _ _ _ _ _ c.run_ask.result c.new-source.ensures c.new-sink.ensures c.run_ask.ensures
