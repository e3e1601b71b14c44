use Rattle.std.proofs.Common.{◌∙◌, sym, ap}
use Rattle.llrp_answers.specs.Calls.Forms.{word_fits}
use Rattle.llrp_answers.specs.Private.Words.{words_in}
use Rattle.llrp_answers.proofs.FormLemmas.{all_read, at_end, no_more, other, same}
use Rattle.llrp_answers.proofs.form.fits.Goals as goal

pub returns-in_default : goal.returns-in_default
returns-in_default c = no_more c.loop-word.rest c.args.line.now c.loop-word.word-index c.word-item.result c.loop-word-test.true c.word-item.is c.in_default.is ∙ sym c.loop-word.invariant

pub returns-then-not-word_fits : goal.returns-then-not-word_fits
returns-then-not-word_fits c =
    let e = ap words_in c.in-Some.is ∙ c.first_word.ensures in
    let n = sym c.word_fits.ensures ∙ c.if-not-word_fits.true in
    other (words_in c.loop-word.rest) (words_in c.first_word.result.1) c.args.line.now c.loop-word.word-index c.first_word.result.0.now c.word-item.result c.loop-word-test.true c.word-item.is e (sym (ap (word_fits c.first_word.result.0.now) c.as_slice.ensures) ∙ n) ∙ sym c.loop-word.invariant

pub loop-word-preserved : goal.loop-word-preserved
loop-word-preserved c =
    let e = ap words_in c.in-Some.is ∙ c.first_word.ensures in
    let y = sym c.word_fits.ensures ∙ c.if-not-word_fits.false in
    c.loop-word.invariant ∙ same (words_in c.loop-word.rest) (words_in c.first_word.result.1) c.args.line.now c.loop-word.word-index c.first_word.result.0.now c.word-item.result c.loop-word-test.true c.word-item.is e (sym (ap (word_fits c.first_word.result.0.now) c.as_slice.ensures) ∙ y)

pub returns : goal.returns
returns c = all_read c.loop-word.rest c.is_none.result c.is_none.ensures ∙ at_end (words_in c.loop-word.rest) c.args.line.now c.loop-word.word-index c.loop-word-test.false ∙ sym c.loop-word.invariant
