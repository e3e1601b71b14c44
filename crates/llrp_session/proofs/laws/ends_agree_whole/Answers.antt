use Rattle.llrp_session.proofs.Worlds.{view_catches_up, view_is_table, reports_arrive, reports_are_kept, reader_has_history, one_active, nothing_is_unexpected, pending_is_on_the_way, nothing_is_pending, tables_arrive, none_differs}
use Rattle.llrp_session.proofs.laws.ends_agree_whole.Goals as goal

pub returns : goal.returns
returns c = record {
  view_catches_up = view_catches_up;
  view_is_table = view_is_table;
  reports_arrive = reports_arrive;
  reports_are_kept = reports_are_kept;
  reader_has_history = reader_has_history;
  one_active = one_active;
  nothing_is_unexpected = nothing_is_unexpected;
  pending_is_on_the_way = pending_is_on_the_way;
  nothing_is_pending = nothing_is_pending;
  tables_arrive = tables_arrive;
  none_differs = none_differs;
}
