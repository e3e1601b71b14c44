use Rattle.std.proofs.Common.{true}
use Rattle.std.proofs.lemmas.Result.{err_from_is_err_and}
use Rattle.llrp_listing.specs.Private.EncodeBuffer.{row_count, value_record}
use Rattle.llrp_listing.proofs.Beginning.{opens_parameter}
use Rattle.llrp_listing.proofs.encode.buffer.EncodeBuffer.open_value.Goals as goal

pub returns-in_err-close_value-clause-stopped : goal.returns-in_err-close_value-clause-stopped
returns-in_err-close_value-clause-stopped c =
    let p = err_from_is_err_and c.from_residual.result c.from_residual.ensures.1 in
    rw (p.1, p.2) (λ out more ns h. c.in_err-close_value.ensures.stopped c.args.self.now.limit out more ns h)

pub begin_value-requires-clause-some : goal.begin_value-requires-clause-some
begin_value-requires-clause-some c =
    let x = c.requires.some in
    let t = c.in_ok-close_value.ensures.closed x.0 x.1 x.2 x.3 in
    (c.args.at, (x.0, x.1, t.left, t.holds))

pub returns-clause-opened : goal.returns-clause-opened
returns-clause-opened c = λ out more ns line number h can stands.
    opens_parameter c.args.self.now.limit (row_count c.args.self.now.rows) c.close_value.new.self c.begin_value.new.self c.args.at (value_record c.args.value) true out more ns line number c.requires.least (c.in_ok-close_value.ensures.closed out more ns h) c.begin_value.ensures.begun can stands
