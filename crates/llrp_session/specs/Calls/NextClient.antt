-- A reader that its client has left, for the next one.
use Rattle.std.specs.Prelude.{ℕ, [], None}
use Rattle.llrp_session.specs.Table.{RoState, Disabled, Inactive, Active, change}
use Rattle.llrp_session.specs.ReaderMachine.{Reader, Waiting, factory_report}

-- an Active ROSpec becomes Inactive
abbrev pub rested : RoState → RoState
rested Disabled = Disabled
rested Inactive = Inactive
rested Active = Inactive

abbrev pub resting : ℕ → RoState → RoState
resting id state = rested state

-- it is as new, but has its ROSpecs, of which none is active, and its own ids go on
abbrev pub for_next_client : Reader → Reader
for_next_client r = record {
  limit = r.limit;
  phase = Waiting;
  table = change resting r.table;
  held = [];
  started = 0;
  keepalive = None;
  report = factory_report;
  next_id = r.next_id;
  version = 1;
}
