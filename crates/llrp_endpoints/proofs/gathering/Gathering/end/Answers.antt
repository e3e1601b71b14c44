use Rattle.std.proofs.Common.{◌++◌, ◌∙◌, ap, List, ℕ}
use Rattle.std.proofs.lemmas.Result.{err_from_is_err_and}
use Rattle.llrp_endpoints.specs.declared.form.LineForm.{LineForm}
use Rattle.llrp_endpoints.specs.TagLines.{total_line}
use Rattle.llrp_endpoints.proofs.GatheringSteps.{ended_early, ended_fine, no_last_line}
use Rattle.llrp_endpoints.proofs.gathering.Gathering.end.Goals as goal

pub returns-in_err-line-in-End : goal.returns-in_err-line-in-End
returns-in_err-line-in-End c = λ d o h opened.
    let p = err_from_is_err_and c.from_residual.result c.from_residual.ensures.1 in
    rw (p.1, p.2) (no_last_line d c.args.self.now o c.args.report.now.items)

pub returns-in_err-extend_from_slice-in-End : goal.returns-in_err-extend_from_slice-in-End
returns-in_err-extend_from_slice-in-End c = λ d o h opened.
    let r = c.from_residual-in_err-extend_from_slice-in-End in
    let p = err_from_is_err_and r.result r.ensures.1 in
    rw (p.1, p.2, c.in_err-extend_from_slice-in-End.ensures.items) (no_last_line d c.args.self.now o c.args.report.now.items)

pub returns-in-Answer : goal.returns-in-Answer
returns-in-Answer c = λ d o h opened. ended_early d c.args.self.now o c.args.report.now.items h c.in-Answer.is

pub returns-in_ok-extend_from_slice-in-End : goal.returns-in_ok-extend_from_slice-in-End
returns-in_ok-extend_from_slice-in-End c = λ d o h opened.
    ended_fine d c.args.self.now c.in_ok-line-in-End.line o c.args.report.now.items c.extend_from_slice.new.self.items h c.in-End.is (c.in_ok-line-in-End.ensures d.reports h.counts ∙ ap (λ (f : LineForm). total_line f d.reports) h.form_is)
    (c.in_ok-extend_from_slice-in-End.ensures.items ∙ ap (λ (x : List ℕ). c.args.report.now.items ++ x) c.as_slice.ensures)
