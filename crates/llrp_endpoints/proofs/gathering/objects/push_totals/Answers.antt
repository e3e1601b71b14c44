use Rattle.std.proofs.Common.{codes}
use Rattle.std.proofs.lemmas.Result.{on_ok_weaker}
use Rattle.std.specs.Prelude.{decimal}
use Rattle.llrp_endpoints.proofs.ObjectLemmas.{five_parts}
use Rattle.llrp_endpoints.proofs.gathering.objects.push_totals.Goals as goal

pub returns : goal.returns
returns c = on_ok_weaker c.push_text-3.result
    (λ e. five_parts (codes "{\"tags\":") (decimal c.args.summary.tags) (codes ",\"reports\":") (decimal c.args.summary.reports) (codes "}\n") _ _ _ _ _ _
    c.in_ok-push_text.ensures c.in_ok-push_number.ensures c.in_ok-push_text-2.ensures c.in_ok-push_number-2.ensures e)
    c.push_text-3.ensures
