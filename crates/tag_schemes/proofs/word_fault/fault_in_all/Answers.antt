use Rattle.tag_schemes.proofs.FaultFacts.{further_only}
use Rattle.tag_schemes.proofs.word_fault.fault_in_all.Goals as goal

pub returns-in-Err-clause-unlawful : goal.returns-in-Err-clause-unlawful
returns-in-Err-clause-unlawful c = further_only c.in-Some.scheme c.args.word c.in-Some.ensures c.in-Err.ensures.none
