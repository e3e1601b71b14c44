use Rattle.std.proofs.Common.{lit<}
use Rattle.llrp_capture.proofs.RowLemmas.{cut_of}
use Rattle.llrp_capture.proofs.row.cut.Goals as goal

pub returns : goal.returns
returns c = cut_of c.args.text.now c.split_once.result (c.split_once.ensures.byte (lit< tt) (λ w o h. h))
