use Rattle.tag_memory.proofs.MemoryLemmas.{reads_back}
use Rattle.tag_memory.proofs.laws.reads_back.Goals as goal

pub returns : goal.returns
returns c = reads_back
