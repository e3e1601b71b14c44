use Rattle.llrp.proofs.both_ends.run_script.Goals as goal

pub returns : goal.returns
returns g c = rw (c.wipe.ensures, ← c.show.ensures) c.run-outcome.ensures
