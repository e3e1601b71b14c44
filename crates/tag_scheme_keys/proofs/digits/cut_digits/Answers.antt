use Rattle.std.proofs.lemmas.Str.{IsCharBoundary-from_ascii}
use Rattle.tag_keys.proofs.PieceLemmas.{digits_ascii}
use Rattle.tag_scheme_keys.proofs.digits.cut_digits.Goals as goal

pub split_at-requires : goal.split_at-requires
split_at-requires c = IsCharBoundary-from_ascii c.args.text.now c.args.at (digits_ascii c.args.text.now c.requires.digits) c.requires.within
