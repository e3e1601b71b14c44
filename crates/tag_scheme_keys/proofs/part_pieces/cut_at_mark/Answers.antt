use Rattle.tag_scheme_keys.proofs.PartPieces.{head_small, cut_some, cut_none}
use Rattle.tag_scheme_keys.proofs.part_pieces.cut_at_mark.Goals as goal

pub returns-in-Some-clause-front : goal.returns-in-Some-clause-front
returns-in-Some-clause-front c = (cut_some c.args.spelling c.mark_head.result c.args.rest.now c.in-Some.front.now c.in-Some.after.now c.mark_head.ensures (c.in-Some.ensures.byte (head_small c.args.spelling c.mark_head.result c.mark_head.ensures) (λ w o h. h))).0

pub returns-in-Some-clause-some : goal.returns-in-Some-clause-some
returns-in-Some-clause-some c = (cut_some c.args.spelling c.mark_head.result c.args.rest.now c.in-Some.front.now c.in-Some.after.now c.mark_head.ensures (c.in-Some.ensures.byte (head_small c.args.spelling c.mark_head.result c.mark_head.ensures) (λ w o h. h))).1

pub returns-in-None-clause-front : goal.returns-in-None-clause-front
returns-in-None-clause-front c = cut_none c.args.spelling c.mark_head.result c.args.rest.now c.mark_head.ensures (c.in-None.ensures.byte (head_small c.args.spelling c.mark_head.result c.mark_head.ensures) (λ w o h. h))
