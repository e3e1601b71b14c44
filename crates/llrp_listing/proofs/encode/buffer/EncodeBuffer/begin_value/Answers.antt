use Rattle.std.proofs.Common.{refl, true, arith}
use Rattle.llrp_listing.specs.declared.encode.buffer.EncodeBuffer.{EncodeBuffer}
use Rattle.llrp_listing.specs.Private.EncodeBuffer.{value_record}
use Rattle.llrp_listing.proofs.Beginning.{line_begun}
use Rattle.llrp_listing.proofs.encode.buffer.EncodeBuffer.begin_value.Goals as goal

pub returns-clause-begun : goal.returns-clause-begun
returns-clause-begun c = λ at out more ns line number h can chain few.
    let old = c.args.self.now in
    let new : EncodeBuffer = record old { room = c.cut.new.room; kept = c.is_kept-kept.result; rows = c.push_value.new.self } in
    line_begun old new at (value_record c.args.value) true c.is_kept-kept.result out more ns line number _ h can chain few (omega (arith, c.len.ensures, old.room.ok)) c.is_kept-kept.ensures c.cut.ensures refl refl refl c.push_value.ensures
