use Rattle.std.proofs.Common.{refl, inl}
use Rattle.llrp_files.proofs.FilesLemmas.{takes_over, unopened_said, unopened_unsaid}
use Rattle.llrp_files.proofs.files.run_file.Goals as goal

pub returns-in-Opened : goal.returns-in-Opened
returns-in-Opened g c = takes_over _ _ _ _ _ _ _ _ _ _ _ c.in-Opened.ensures.0 c.new-output.ensures c.into_inner.ensures c.run_over-outcome.ensures

pub returns-in-NoMemory : goal.returns-in-NoMemory
returns-in-NoMemory g c = inl (refl, refl, refl)

pub returns-in-Ok : goal.returns-in-Ok
returns-in-Ok g c = unopened_said _ _ _ _ _ _ c.in-Unread.ensures c.in-Ok.ensures

pub returns-in-Err : goal.returns-in-Err
returns-in-Err g c = unopened_unsaid _ _ _ _ _ _ _ c.in-Unread.ensures c.in-Err.ensures
