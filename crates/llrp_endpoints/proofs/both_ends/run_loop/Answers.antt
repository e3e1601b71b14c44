use Rattle.std.proofs.Common.{refl}
use Rattle.std.proofs.lemmas.Result.{err_from_is_err_and}
use Rattle.llrp_endpoints.proofs.LoopLemmas.{not_started}
use Rattle.llrp_endpoints.proofs.both_ends.run_loop.Goals as goal

pub returns-in_err-reader : goal.returns-in_err-reader
returns-in_err-reader g c =
    let p = err_from_is_err_and c.from_residual.result c.from_residual.ensures.1 in
    let failed = c.in_err-reader.ensures.err in
    rw (p.1, p.2, failed.0) (not_started _ _ c.new-client.result failed.1 (c.new-client.ensures.stands _ _ refl refl) failed.2)

pub returns : goal.returns
returns g c = c.exchange.ensures _ (c.in_ok-reader.ensures.ok _ refl refl) (c.new-client.ensures.stands _ _ refl refl)
