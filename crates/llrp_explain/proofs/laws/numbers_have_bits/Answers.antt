use Rattle.llrp_explain.proofs.NumberLemmas.{same_number}
use Rattle.llrp_explain.proofs.laws.numbers_have_bits.Goals as goal

pub returns : goal.returns
returns c = same_number
