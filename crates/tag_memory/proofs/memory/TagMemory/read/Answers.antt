use Rattle.std.proofs.Common.{◌∙◌, ap, sym, refl, rules}
use Rattle.tag_memory.specs.Calls.Memory.{read}
use Rattle.tag_memory.proofs.memory.TagMemory.read.Goals as goal

pub returns-in-Some-clause-err : goal.returns-in-Some-clause-err
unfolding read
returns-in-Some-clause-err c = search rules

pub returns-in-None-clause-ok : goal.returns-in-None-clause-ok
unfolding read
returns-in-None-clause-ok c = search rules
