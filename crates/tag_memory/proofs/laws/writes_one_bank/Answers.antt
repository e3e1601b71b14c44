use Rattle.tag_memory.proofs.MemoryLemmas.{keeps_others, keeps_lengths}
use Rattle.tag_memory.proofs.laws.writes_one_bank.Goals as goal

pub returns-clause-others : goal.returns-clause-others
returns-clause-others c = keeps_others

pub returns-clause-lengths : goal.returns-clause-lengths
returns-clause-lengths c = keeps_lengths
