use Rattle.std.proofs.Common.{◌≡◌, drop}
use Rattle.llrp_listing.specs.Lines.{words}
use Rattle.llrp_answers.specs.Calls.Forms.{fits}
use Rattle.llrp_answers.specs.Private.Words.{words_in}
use Rattle.llrp_answers.proofs.form.fits.Given as goal

abbrev pub invariant-loop-word : goal.invariant-loop-word
invariant-loop-word l = fits (words l.form) l.line ≡ fits (words_in l.rest) (drop l.word-index l.line)
