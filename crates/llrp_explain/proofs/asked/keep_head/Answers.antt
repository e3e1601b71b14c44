use Rattle.std.proofs.Common.{arith}
use Rattle.llrp_explain.proofs.AskedLemmas.{kept_head}
use Rattle.llrp_explain.proofs.asked.keep_head.Goals as goal

pub returns : goal.returns
returns c =
    kept_head c.extend_from_slice.result c.args.head.now.items c.extend_from_slice.new.self.items c.args.piece.now c.split_at.result.0.now c.saturating_sub-room.result c.min-count.result (omega (arith, c.saturating_sub-room.ensures, c.len.ensures, c.args.head.now.ok)) c.min-count.ensures c.split_at.ensures.front c.extend_from_slice.ensures.items
