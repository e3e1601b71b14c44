-- Each call has one digit fewer.
use Rattle.tag_schemes.proofs.write_text.+push_padded.Given as goal

abbrev pub decreases-push_padded : goal.decreases-push_padded
decreases-push_padded l = l.count
