use Rattle.llrp_stream.proofs.BareLemmas.{whole_report_number, whole_report_bare}
use Rattle.llrp_stream.proofs.engine.body_reader.BodyReader.begin_whole_report.Goals as goal

pub begin_bare-requires-clause-known : goal.begin_bare-requires-clause-known
begin_bare-requires-clause-known g c = whole_report_number

pub begin_bare-requires-clause-bare : goal.begin_bare-requires-clause-bare
begin_bare-requires-clause-bare g c = whole_report_bare
