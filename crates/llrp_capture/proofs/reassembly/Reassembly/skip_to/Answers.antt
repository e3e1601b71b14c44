use Rattle.llrp_capture.proofs.SideLemmas.{skips_on}
use Rattle.std.proofs.Common.{refl, ◌+◌}
use Rattle.llrp_capture.proofs.reassembly.Reassembly.skip_to.Goals as goal

pub returns-clause-skips : goal.returns-clause-skips
returns-clause-skips c = (
  c.place_of-place.result,
  c.place_of-place.ensures,
  c.saturating_sub-lost.ensures,
  skips_on c.args.self.now (record { here = c.args.self.now.here + c.saturating_sub-lost.result; waiting = c.clear.new.self })
      c.saturating_sub-lost.result c.requires.nothing refl c.clear.ensures.items,
)
