use Rattle.llrp_session.proofs.TableLemmas.{state_of-enter, state_of-change, state_of-without, viewed_state-enter_view, viewed_state-change_view, viewed_state-view_without, viewed_state-states}
use Rattle.llrp_session.proofs.Keeping.{each_once}
use Rattle.llrp_session.proofs.laws.tables_are_maps.Goals as goal

pub returns : goal.returns
returns c = record {
  enter = state_of-enter;
  change = state_of-change;
  remove = state_of-without;
  enter_in_view = viewed_state-enter_view;
  change_in_view = viewed_state-change_view;
  remove_in_view = viewed_state-view_without;
  seen = viewed_state-states;
  each_once = each_once;
}
