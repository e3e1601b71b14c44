use Rattle.llrp_stream.proofs.BareLemmas.{report_number, report_bare, event_number, event_bare}
use Rattle.llrp_stream.proofs.engine.body_reader.BodyReader.begin_known.Goals as goal

pub begin_bare-requires-clause-known : goal.begin_bare-requires-clause-known
begin_bare-requires-clause-known g c = report_number

pub begin_bare-requires-clause-bare : goal.begin_bare-requires-clause-bare
begin_bare-requires-clause-bare g c = report_bare

pub begin_bare-requires-in-ReaderEventNotification-clause-known : goal.begin_bare-requires-in-ReaderEventNotification-clause-known
begin_bare-requires-in-ReaderEventNotification-clause-known g c = event_number

pub begin_bare-requires-in-ReaderEventNotification-clause-bare : goal.begin_bare-requires-in-ReaderEventNotification-clause-bare
begin_bare-requires-in-ReaderEventNotification-clause-bare g c = event_bare
