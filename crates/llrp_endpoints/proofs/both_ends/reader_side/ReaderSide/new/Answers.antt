use Rattle.std.proofs.Common.{Err}
use Rattle.std.proofs.lemmas.Result.{err_from_is_err_and}
use Rattle.llrp_endpoints.proofs.ReaderSideLemmas.{reader_starts}
use Rattle.llrp_endpoints.specs.Serving.{BeginsServing, Serves}
use Rattle.llrp_endpoints.specs.Calls.ServingStands.{IsOpen}
use Rattle.llrp_endpoints.proofs.ServeLemmas.{begins_start}
use Rattle.llrp_endpoints.proofs.ServingServer.{started}
use Rattle.llrp_endpoints.proofs.both_ends.reader_side.ReaderSide.new.Goals as goal

pub returns-in_err-start-clause-err : goal.returns-in_err-start-clause-err
returns-in_err-start-clause-err c =
    let p = err_from_is_err_and c.from_residual.result c.from_residual.ensures.1 in
    let starts = c.in_err-start.ensures.starts c.args.core c.args.script c.new-serving.ensures in
    rw (p.1, p.2) (
      starts.0,
      c.start.new.out.items,
      begins_start (IsOpen c.args.core c.args.script) (Serves c.args.core c.args.script) (BeginsServing c.args.core c.args.script) c.start.new.self c.new-said.result.items c.start.new.out.items (Err c.in_err-start.field-0.0) c.new-said.ensures.items
          (started c.args.core c.args.script c.start.new.self c.new-said.result.items c.start.new.out.items (Err c.in_err-start.field-0.0) starts),
    )

pub returns-clause-ok : goal.returns-clause-ok
returns-clause-ok c = λ e is are.
    reader_starts e c.args.core c.args.script c.start.new.self c.new-said.result.items c.start.new.out.items c.in_ok-start.field-0 is are c.new-said.ensures.items (c.in_ok-start.ensures.starts c.args.core c.args.script c.new-serving.ensures)
