use Rattle.llrp.proofs.AccessLemmas.{accesses, fails}
use Rattle.llrp.proofs.access_command.access_reader.Goals as goal

pub returns-clause-accesses : goal.returns-clause-accesses
returns-clause-accesses g c = accesses c.args.errand _ _ _ _ _ _ c.run_access.result c.new-source.ensures c.new-sink.ensures c.run_access.ensures.accesses

pub returns-clause-failed : goal.returns-clause-failed
returns-clause-failed g c = fails c.args.errand _ _ _ _ c.run_access.result c.new-source.ensures c.new-sink.ensures c.run_access.ensures.failed
