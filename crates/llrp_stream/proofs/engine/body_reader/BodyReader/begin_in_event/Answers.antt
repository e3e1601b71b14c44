use Rattle.llrp_stream.proofs.BareLemmas.{time_number, spec_event_number}
use Rattle.llrp_stream.proofs.engine.body_reader.BodyReader.begin_in_event.Goals as goal

pub begin_kind-requires-clause-known : goal.begin_kind-requires-clause-known
begin_kind-requires-clause-known g c = time_number

pub begin_kind-requires-clause-parent : goal.begin_kind-requires-clause-parent
begin_kind-requires-clause-parent g c = c.is_event_data-is_event.ensures cc

pub begin_kind-requires-in-249-clause-known : goal.begin_kind-requires-in-249-clause-known
begin_kind-requires-in-249-clause-known g c = spec_event_number
