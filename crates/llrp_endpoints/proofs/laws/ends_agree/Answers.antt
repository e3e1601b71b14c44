use Rattle.llrp_endpoints.proofs.ByteSchedules as schedules
use Rattle.llrp_endpoints.proofs.laws.ends_agree.Goals as goal

pub returns-clause-goes_on : goal.returns-clause-goes_on
returns-clause-goes_on c = schedules.goes_on

pub returns-clause-each_event_happens : goal.returns-clause-each_event_happens
returns-clause-each_event_happens c = schedules.each_event_happens

pub returns-clause-bytes_are_messages : goal.returns-clause-bytes_are_messages
returns-clause-bytes_are_messages c = schedules.bytes_are_messages

pub returns-clause-is_a_run_of_messages : goal.returns-clause-is_a_run_of_messages
returns-clause-is_a_run_of_messages c = schedules.is_a_run_of_messages

pub returns-clause-view_catches_up : goal.returns-clause-view_catches_up
returns-clause-view_catches_up c = schedules.view_catches_up

pub returns-clause-view_is_table : goal.returns-clause-view_is_table
returns-clause-view_is_table c = schedules.view_is_table

pub returns-clause-reports_arrive : goal.returns-clause-reports_arrive
returns-clause-reports_arrive c = schedules.reports_arrive

pub returns-clause-reports_are_kept : goal.returns-clause-reports_are_kept
returns-clause-reports_are_kept c = schedules.reports_are_kept

pub returns-clause-reader_has_history : goal.returns-clause-reader_has_history
returns-clause-reader_has_history c = schedules.reader_has_history

pub returns-clause-one_active : goal.returns-clause-one_active
returns-clause-one_active c = schedules.one_active

pub returns-clause-nothing_is_unexpected : goal.returns-clause-nothing_is_unexpected
returns-clause-nothing_is_unexpected c = schedules.nothing_is_unexpected

pub returns-clause-pending_is_on_the_way : goal.returns-clause-pending_is_on_the_way
returns-clause-pending_is_on_the_way c = schedules.pending_is_on_the_way

pub returns-clause-nothing_is_pending : goal.returns-clause-nothing_is_pending
returns-clause-nothing_is_pending c = schedules.nothing_is_pending

pub returns-clause-tables_arrive : goal.returns-clause-tables_arrive
returns-clause-tables_arrive c = schedules.tables_arrive

pub returns-clause-none_differs : goal.returns-clause-none_differs
returns-clause-none_differs c = schedules.none_differs
