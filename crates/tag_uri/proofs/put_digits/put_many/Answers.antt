use Rattle.std.proofs.Common.{◌<◌, ◌^◌, arith}
use Rattle.tag_uri.proofs.WritingLemmas.{below_of, last_of, in_parts}
use Rattle.tag_uri.proofs.put_digits.put_many.Goals as goal

pub overflow_cast-upper : goal.overflow_cast-upper
overflow_cast-upper c = let below : c.args.number < 10 ^ 16 = below_of c.args.count 16 c.args.number c.requires.few c.requires.fits in omega (arith, below)

pub put_four-requires-clause-fits : goal.put_four-requires-clause-fits
put_four-requires-clause-fits c = let below : c.args.number < 10 ^ 12 = below_of c.args.count 12 c.args.number c.if-count-le12.true c.requires.fits in omega (arith, below)

pub put_eight-requires-else-count-le12-clause-fits : goal.put_eight-requires-else-count-le12-clause-fits
put_eight-requires-else-count-le12-clause-fits c = let below : c.args.number < 10 ^ 16 = below_of c.args.count 16 c.args.number c.requires.few c.requires.fits in omega (arith, below)

pub returns-then-count-le12-clause-written : goal.returns-then-count-le12-clause-written
returns-then-count-le12-clause-written c =
    last_of 12 c.args.count c.args.number c.args.end c.args.room.now c.put_four.new.room c.if-count-le12.true (omega (arith, c.requires.ahead)) c.requires.within
    (in_parts 4 8 c.args.number c.args.end c.args.room.now c.put_eight.new.room c.put_four.new.room (omega (arith, c.requires.ahead)) c.requires.within c.put_eight.ensures c.put_four.ensures)

pub returns-else-count-le12-clause-written : goal.returns-else-count-le12-clause-written
returns-else-count-le12-clause-written c =
    last_of 16 c.args.count c.args.number c.args.end c.args.room.now c.put_eight-else-count-le12.new.room c.requires.few c.requires.ahead c.requires.within
    (in_parts 8 8 c.args.number c.args.end c.args.room.now c.put_eight.new.room c.put_eight-else-count-le12.new.room c.requires.ahead c.requires.within c.put_eight.ensures c.put_eight-else-count-le12.ensures)
