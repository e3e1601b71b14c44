use Rattle.tag_uri.proofs.WritingLemmas.{in_parts}
use Rattle.tag_uri.proofs.put_digits.put_four.Goals as goal

pub returns : goal.returns
returns c = in_parts 2 2 c.args.number c.args.end c.args.room.now c.put_pair.new.room c.put_pair-2.new.room c.requires.ahead c.requires.within c.put_pair.ensures c.put_pair-2.ensures
