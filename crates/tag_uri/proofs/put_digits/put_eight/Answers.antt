use Rattle.tag_uri.proofs.WritingLemmas.{in_parts}
use Rattle.tag_uri.proofs.put_digits.put_eight.Goals as goal

pub returns : goal.returns
returns c = in_parts 4 4 c.args.number c.args.end c.args.room.now c.put_four.new.room c.put_four-2.new.room c.requires.ahead c.requires.within c.put_four.ensures c.put_four-2.ensures
