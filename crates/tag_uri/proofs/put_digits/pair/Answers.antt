use Rattle.tag_uri.proofs.WritingLemmas.{pair_digits}
use Rattle.tag_uri.proofs.put_digits.pair.Goals as goal

pub returns : goal.returns
returns c = pair_digits c.args.number c.requires
