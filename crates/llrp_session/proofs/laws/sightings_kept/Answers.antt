use Rattle.llrp_session.proofs.Keeping.{reports_in_order, overflows_told, holds_few_enough, one_is_active}
use Rattle.llrp_session.proofs.laws.sightings_kept.Goals as goal

pub returns : goal.returns
returns c = record { reports_in_order = reports_in_order; overflows_told = overflows_told; holds_few_enough = holds_few_enough; one_active = one_is_active }
