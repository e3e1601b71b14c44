use Rattle.std.proofs.Common.{refl}
use Rattle.llrp_files.proofs.FilesLemmas.{reason_given}
use Rattle.llrp_files.proofs.files.reason_of.Goals as goal

pub returns : goal.returns
returns c = reason_given _ _ _ refl c.strip_prefix.ensures.cases
