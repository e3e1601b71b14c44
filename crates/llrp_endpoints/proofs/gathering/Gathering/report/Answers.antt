use Rattle.std.proofs.Common.{◌≡◌, ◌+◌, ◌++◌, ◌∙◌, sym, ap, subst, min, length, List, ℕ}
use Rattle.std.proofs.lemmas.Result.{err_from_is_err_and}
use Rattle.llrp_tree.specs.Tree.{Tree}
use Rattle.llrp_endpoints.specs.declared.form.LineForm.{LineForm}
use Rattle.llrp_endpoints.specs.TagLines.{AreReportLines, greatest_count}
use Rattle.llrp_endpoints.proofs.GatheringSteps.{no_lines, counted, report_leads_on, report_passes}
use Rattle.llrp_endpoints.proofs.gathering.Gathering.report.Goals as goal

pub returns-in_err-lines-clause-does : goal.returns-in_err-lines-clause-does
returns-in_err-lines-clause-does c = λ d h opened.
    let p = err_from_is_err_and c.from_residual.result c.from_residual.ensures.1 in
    rw (p.1, p.2) (no_lines d c.args.self.now c.args.tags.now c.args.out.now.items c.args.report.now.items)

pub returns-in_err-extend_from_slice-clause-does : goal.returns-in_err-extend_from_slice-clause-does
returns-in_err-extend_from_slice-clause-does c = λ d h opened.
    let r = c.from_residual-in_err-extend_from_slice in
    let p = err_from_is_err_and r.result r.ensures.1 in
    rw (p.1, p.2, c.in_err-extend_from_slice.ensures.items) (no_lines d c.args.self.now c.args.tags.now c.args.out.now.items c.args.report.now.items)

pub returns-then-leads_on-clause-does : goal.returns-then-leads_on-clause-does
returns-then-leads_on-clause-does c = λ d h opened.
    let g = c.args.self.now in
    let tags = c.args.tags.now in
    let lines = c.in_ok-lines.lines in
    let here : AreReportLines g.form tags lines = subst (λ (ts : List Tree). AreReportLines g.form ts lines) c.as_slice.ensures c.in_ok-lines.ensures in
    let are : AreReportLines d.form tags lines = subst (λ (f : LineForm). AreReportLines f tags lines) h.form_is here in
    let printed = c.in_ok-extend_from_slice.ensures.items ∙ ap (λ (x : List ℕ). c.args.report.now.items ++ x) c.as_slice-2.ensures in
    let told : c.with_report-self.result.tags ≡ min (g.summary.tags + length tags) greatest_count = c.with_report-self.ensures.tags ∙ ap (λ (ts : List Tree). min (g.summary.tags + length ts) greatest_count) c.as_slice-3.ensures in
    report_leads_on d g c.go_on.new.self tags lines c.args.out.now.items c.go_on.new.out.items c.args.report.now.items c.extend_from_slice.new.self.items c.go_on.result h opened (sym c.leads_on.ensures ∙ c.if-leads_on.true) are printed
    (c.go_on.ensures.does _ c.extend_from_slice.new.self.items (counted d g tags c.with_report-self.result h told c.with_report-self.ensures.reports) opened)

pub returns-clause-does : goal.returns-clause-does
returns-clause-does c = λ d h opened.
    let g = c.args.self.now in
    let tags = c.args.tags.now in
    let lines = c.in_ok-lines.lines in
    let here : AreReportLines g.form tags lines = subst (λ (ts : List Tree). AreReportLines g.form ts lines) c.as_slice.ensures c.in_ok-lines.ensures in
    let are : AreReportLines d.form tags lines = subst (λ (f : LineForm). AreReportLines f tags lines) h.form_is here in
    let printed = c.in_ok-extend_from_slice.ensures.items ∙ ap (λ (x : List ℕ). c.args.report.now.items ++ x) c.as_slice-2.ensures in
    let told : c.with_report-self.result.tags ≡ min (g.summary.tags + length tags) greatest_count = c.with_report-self.ensures.tags ∙ ap (λ (ts : List Tree). min (g.summary.tags + length ts) greatest_count) c.as_slice-3.ensures in
    report_passes d g _ tags lines c.args.out.now.items c.args.report.now.items c.extend_from_slice.new.self.items h opened (sym c.leads_on.ensures ∙ c.if-leads_on.false) are printed
    (counted d g tags c.with_report-self.result h told c.with_report-self.ensures.reports)
