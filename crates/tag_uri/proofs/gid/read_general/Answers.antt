use Rattle.std.proofs.Common.{sym, ◌∙◌}
use Rattle.tag_uri.proofs.GeneralLemmas.{wrong_count, digit_first, zero_first, range_first}
use Rattle.tag_uri.proofs.gid.read_general.Goals as goal

pub returns-in_default-clause-err : goal.returns-in_default-clause-err
returns-in_default-clause-err c = wrong_count _ c.in_default.ensures.none

pub returns-then-have_stray-clause-err : goal.returns-then-have_stray-clause-err
returns-then-have_stray-clause-err c = digit_first _ _ _ _ c.in-Some.ensures.some (sym c.have_stray.ensures ∙ c.if-have_stray.true)

pub returns-then-have_leading_zero-clause-err : goal.returns-then-have_leading_zero-clause-err
returns-then-have_leading_zero-clause-err c =
    zero_first _ _ _ _ c.in-Some.ensures.some (sym c.have_stray.ensures ∙ c.if-have_stray.false) (sym c.have_leading_zero.ensures ∙ c.if-have_leading_zero.true)

pub returns-in-None-clause-err : goal.returns-in-None-clause-err
returns-in-None-clause-err c =
    range_first _ _ _ _ c.in-Some.ensures.some (sym c.have_stray.ensures ∙ c.if-have_stray.false) (sym c.have_leading_zero.ensures ∙ c.if-have_leading_zero.false) (sym c.in-None.ensures.over)
