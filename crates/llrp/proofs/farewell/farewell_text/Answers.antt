use Rattle.std.proofs.Common.{◌∙◌, ◌++◌, List, ℕ, ap, codes}
use Rattle.std.specs.Prelude.{decimal}
use Rattle.llrp.specs.Calls.Farewell.{disabling_text}
use Rattle.llrp.proofs.WatchLemmas.{three_parts}
use Rattle.llrp.proofs.farewell.farewell_text.Goals as goal

pub returns : goal.returns
returns c = three_parts (codes "0 DELETE_ROSPEC 1 4294967294 ") (decimal c.args.id) (codes "\n0 CLOSE_CONNECTION 1 4294967295\n") (disabling_text c.args.disables c.args.id) _ _ _
    (c.in_ok-push_text.ensures ∙ ap (λ (x : List ℕ). x ++ codes "0 DELETE_ROSPEC 1 4294967294 ") (rw c.new-text.ensures at c.in_ok-push_disabling.ensures)) c.in_ok-push_number.ensures c.in_ok-push_text-2.ensures
