use Rattle.std.proofs.Common.{[], arith}
use Rattle.llrp_listing.proofs.Zips.{zip_length}
use Rattle.llrp_listing.specs.Private.EncodeBuffer.{inner}
use Rattle.llrp_listing.specs.Private.OpenNodes.{IsHeld}
use Rattle.llrp_listing.proofs.Beginning.{opens_message}
use Rattle.llrp_listing.proofs.encode.buffer.EncodeBuffer.open_message.Goals as goal

pub begin-requires-clause-some : goal.begin-requires-clause-some
begin-requires-clause-some c =
    let x = c.requires in
    let a = c.in_ok-close_all.ensures.closed x.0 x.1 x.2 x.3 in
    (c.args.at, (a.now, x.1, [], a.holds))

pub begin-requires-clause-few : goal.begin-requires-clause-few
begin-requires-clause-few c =
    let x = c.requires in
    let a = c.in_ok-close_all.ensures.closed x.0 x.1 x.2 x.3 in
    let none = zip_length IsHeld (inner c.close_all.new.self.rows) [] a.holds.rows in
    omega (arith, none)

pub returns-clause-opened : goal.returns-clause-opened
returns-clause-opened c = λ out more ns line number h can stands.
    opens_message c.args.self.now.limit c.close_all.new.self c.begin.new.self c.args.at c.args.held c.args.put out more ns line number (c.in_ok-close_all.ensures.closed out more ns h) c.begin.ensures.begun can stands
