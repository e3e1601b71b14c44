use Rattle.std.proofs.Common.{◌∙◌, ap, arith, []}
use Rattle.llrp_schema.specs.declared.kinds.ParamKind.TheVariants.{TagReportData}
use Rattle.llrp_session.specs.ReaderMessages.{parameter}
use Rattle.llrp_session.specs.TagReport.{tag_report}
use Rattle.llrp_session.proofs.ReportLemmas.{report_of_sighting}
use Rattle.llrp_session.proofs.build.tag_report.tag_report.Goals as goal

pub parameter-requires : goal.parameter-requires
unfolding tag_report
parameter-requires c =
    let told = report_of_sighting c.args.now c.args.rospec.now c.args.selector.now c.args.sighting.now (omega arith) c.known_to_fit.ensures.rospec c.known_to_fit.ensures.sighting in
    rw c.in_ok-parts.ensures told.lawful.0

pub returns-clause-report : goal.returns-clause-report
unfolding tag_report
returns-clause-report c = c.parameter.ensures ∙ ap (parameter TagReportData []) c.in_ok-parts.ensures

pub returns-clause-short : goal.returns-clause-short
unfolding tag_report
returns-clause-short c =
    rw (c.parameter.ensures ∙ ap (parameter TagReportData []) c.in_ok-parts.ensures)
    (report_of_sighting c.args.now c.args.rospec.now c.args.selector.now c.args.sighting.now (omega arith) c.known_to_fit.ensures.rospec c.known_to_fit.ensures.sighting)
