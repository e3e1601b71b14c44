use Rattle.std.proofs.Common.{◌-◌, take, ap, ◌∙◌}
use Rattle.llrp_listing.proofs.PlaceLemmas.{moved_apart, moved_front}
use Rattle.llrp_listing.proofs.printing.put.move_front.Goals as goal

pub returns-then-left-from-clause-text : goal.returns-then-left-from-clause-text
returns-then-left-from-clause-text c =
    moved_apart c.args.from c.args.end c.args.room.now c.split_at_mut-front.result.0.now c.split_at_mut-front.result.1.now c.copy_apart.new.to c.requires.order c.requires.within c.split_at_mut-front.ensures.back c.copy_apart.ensures

pub returns-else-left-from-clause-text : goal.returns-else-left-from-clause-text
returns-else-left-from-clause-text c =
    ap (λ xs. take (c.args.end - c.args.from) xs) c.copy_within.ensures.after ∙ moved_front c.args.from c.args.end c.args.room.now c.requires.order c.requires.within
