use Rattle.std.proofs.Common.{arith}
use Rattle.tag_uri.proofs.WritingLemmas.{below_of, last_of}
use Rattle.tag_uri.proofs.put_digits.put_last.Goals as goal

pub put_eight-requires-clause-fits : goal.put_eight-requires-clause-fits
put_eight-requires-clause-fits c = below_of c.args.count 8 c.args.number c.if-count-le8.true c.requires.fits

pub returns-then-count-le4-clause-written : goal.returns-then-count-le4-clause-written
returns-then-count-le4-clause-written c = last_of 4 c.args.count c.args.number c.args.end c.args.room.now c.put_four.new.room c.if-count-le4.true (omega (arith, c.requires.ahead)) c.requires.within c.put_four.ensures

pub returns-then-count-le8-clause-written : goal.returns-then-count-le8-clause-written
returns-then-count-le8-clause-written c = last_of 8 c.args.count c.args.number c.args.end c.args.room.now c.put_eight.new.room c.if-count-le8.true (omega (arith, c.requires.ahead)) c.requires.within c.put_eight.ensures
