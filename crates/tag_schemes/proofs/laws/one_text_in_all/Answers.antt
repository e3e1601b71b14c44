use Rattle.tag_schemes.proofs.TextLaws.{words_apart_in, same_text_in, no_fault_in_all}
use Rattle.tag_schemes.proofs.laws.one_text_in_all.Goals as goal

pub returns-clause-one : goal.returns-clause-one
returns-clause-one c = words_apart_in

pub returns-clause-same : goal.returns-clause-same
returns-clause-same c = same_text_in

pub returns-clause-no_fault : goal.returns-clause-no_fault
returns-clause-no_fault c = no_fault_in_all
