use Rattle.std.proofs.Common.{None, lit<}
use Rattle.std.proofs.lemmas.Str.Pattern.{strip_prefix_char}
use Rattle.llrp_listing.proofs.TailWords.{no_letter_w}
use Rattle.llrp_listing.proofs.read_tail.read_words.Goals as goal

pub returns-in_default : goal.returns-in_default
returns-in_default c = no_letter_w c.args.word.now (strip_prefix_char 119 c.args.word.now None c.in_default.ensures.cases (lit< tt))
