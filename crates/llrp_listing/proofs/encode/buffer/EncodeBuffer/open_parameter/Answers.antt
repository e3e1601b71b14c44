use Rattle.std.proofs.Common.{arith}
use Rattle.std.proofs.lemmas.Result.{err_from_is_err_and}
use Rattle.llrp_listing.proofs.Zips.{zip_length}
use Rattle.llrp_listing.specs.Private.EncodeBuffer.{inner}
use Rattle.llrp_listing.specs.Private.OpenNodes.{IsHeld}
use Rattle.llrp_listing.proofs.Beginning.{opens_parameter}
use Rattle.llrp_listing.proofs.encode.buffer.EncodeBuffer.open_parameter.Goals as goal

pub returns-in_err-close_to-clause-stopped : goal.returns-in_err-close_to-clause-stopped
returns-in_err-close_to-clause-stopped c =
    let p = err_from_is_err_and c.from_residual.result c.from_residual.ensures.1 in
    rw (p.1, p.2) (λ out more ns h. c.in_err-close_to.ensures.stopped c.args.self.now.limit out more ns h)

pub begin-requires-clause-some : goal.begin-requires-clause-some
begin-requires-clause-some c =
    let x = c.requires.some in
    let t = c.in_ok-close_to.ensures.closed x.0 x.1 x.2 x.3 in
    (c.args.at, (x.0, x.1, t.left, t.holds))

pub begin-requires-clause-few : goal.begin-requires-clause-few
begin-requires-clause-few c =
    let x = c.requires.some in
    let t = c.in_ok-close_to.ensures.closed x.0 x.1 x.2 x.3 in
    omega (arith, zip_length IsHeld (inner c.close_to.new.self.rows) t.left t.holds.rows, t.are x.4, x.5)

pub returns-clause-opened : goal.returns-clause-opened
returns-clause-opened c = λ out more ns line number h can stands.
    opens_parameter c.args.self.now.limit c.args.level c.close_to.new.self c.begin.new.self c.args.at c.args.held c.args.put out more ns line number c.requires.least (c.in_ok-close_to.ensures.closed out more ns h) c.begin.ensures.begun can stands
