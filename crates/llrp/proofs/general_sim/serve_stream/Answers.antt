use Rattle.llrp.proofs.GeneralLemmas.{serves_general}
use Rattle.llrp.proofs.general_sim.serve_stream.Goals as goal

pub run_serve_among-requires-clause-none : goal.run_serve_among-requires-clause-none
run_serve_among-requires-clause-none c = c.new-others.ensures

pub returns : goal.returns
returns c = serves_general c.args.answers.pairs.items c.args.script c.args.core _ _ _ _ _ _ _ c.new-source.ensures c.new-sink.ensures c.run_serve_among.ensures
