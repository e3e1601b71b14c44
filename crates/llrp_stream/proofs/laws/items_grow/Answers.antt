use Rattle.llrp_stream.proofs.RunLemmas.{items_grow}
use Rattle.llrp_stream.proofs.laws.items_grow.Goals as goal

pub returns : goal.returns
returns c = λ p limit. items_grow limit
