use Rattle.std.proofs.Common.{◌∙◌, true, ap, arith, refl}
use Rattle.llrp_listing.specs.declared.encode.buffer.EncodeBuffer.{EncodeBuffer}
use Rattle.llrp_listing.specs.Private.ShortLines.{value_node}
use Rattle.llrp_listing.proofs.Beginning.{put_after}
use Rattle.llrp_listing.proofs.encode.take_line.take_value.Goals as goal

pub open_value-requires-clause-some : goal.open_value-requires-clause-some
open_value-requires-clause-some c =
    let x = c.requires.stands in
    let old = c.args.writer.now in
    let mid : EncodeBuffer = record old { room = c.put_fitting.new.room } in
    let p = c.in-Ok.ensures c.args.number in
    (x.0, p.more, x.1, put_after old mid c.len-at.result x.0 p.more x.1 x.2 (omega (arith, c.len-at.ensures, old.room.ok)) p.appended refl refl refl refl, x.3, x.4)

pub returns-in-Ok-open_value-clause-taken : goal.returns-in-Ok-open_value-clause-taken
returns-in-Ok-open_value-clause-taken c = λ out ns h stands.
    let old = c.args.writer.now in
    let mid : EncodeBuffer = record old { room = c.put_fitting.new.room } in
    let p = c.in-Ok.ensures c.args.number in
    c.in-Ok-open_value.ensures.opened out p.more ns (value_node c.args.line) c.args.number (put_after old mid c.len-at.result out p.more ns h (omega (arith, c.len-at.ensures, old.room.ok)) p.appended refl refl refl refl) p.can stands

pub returns-in-Err-open_value-clause-stopped : goal.returns-in-Err-open_value-clause-stopped
returns-in-Err-open_value-clause-stopped c = λ out ns h.
    let old = c.args.writer.now in
    let mid : EncodeBuffer = record old { room = c.put_fitting.new.room } in
    let p = c.in-Ok.ensures c.args.number in
    let g = put_after old mid c.len-at.result out p.more ns h (omega (arith, c.len-at.ensures, old.room.ok)) p.appended refl refl refl refl in
    (c.in-Err-open_value.ensures.stopped out p.more ns g, c.in-Err-open_value.ensures.front out p.more ns g)
