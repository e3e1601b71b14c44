use Rattle.std.proofs.Common.{[], inl}
use Rattle.llrp_live.proofs.PlaceLemmas.{idle}
use Rattle.llrp_live.proofs.fault_places.fault_place.Goals as goal

pub feed-requires-clause-comes : goal.feed-requires-clause-comes
feed-requires-clause-comes c = inl ([], [], idle c.new_in-frames.result c.new_in-frames.ensures.idle)
