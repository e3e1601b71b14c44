use Rattle.std.proofs.Common.{codes}
use Rattle.std.specs.Prelude.{decimal}
use Rattle.llrp.proofs.WatchLemmas.{three_parts}
use Rattle.llrp.proofs.farewell.push_line.Goals as goal

pub returns : goal.returns
returns c = three_parts (codes "0 DISABLE_ROSPEC 1 4294967293 ") (decimal c.args.id) (codes "\n") _ _ _ _ c.in_ok-push_text.ensures c.in_ok-push_number.ensures c.in_ok-push_text-2.ensures
