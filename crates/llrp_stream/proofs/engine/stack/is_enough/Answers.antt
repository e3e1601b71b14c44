use Rattle.llrp_stream.proofs.SeenLemmas.{enough_is}
use Rattle.llrp_stream.proofs.engine.stack.is_enough.Goals as goal

pub returns : goal.returns
returns c = λ children are. enough_is c.args.parent children c.args.seen.bits c.needed.result are c.needed.ensures _ c.has_all.ensures
