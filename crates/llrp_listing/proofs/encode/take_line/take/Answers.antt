use Rattle.std.proofs.Common.{◌∙◌, ℕ, ap, arith, refl, subst, sym}
use Rattle.llrp_schema.specs.declared.kinds.Kind.{Kind}
use Rattle.llrp_listing.specs.declared.encode.buffer.EncodeBuffer.{EncodeBuffer}
use Rattle.llrp_listing.specs.Private.EncodeBuffer.{HoldsDeep}
use Rattle.llrp_listing.specs.Private.LineOctets.{begun_line}
use Rattle.llrp_listing.specs.Private.TakingLines.{said_node}
use Rattle.llrp_listing.proofs.Beginning.{begun_can, put_after}
use Rattle.llrp_listing.proofs.encode.take_line.take.Goals as goal

pub open_line-requires : goal.open_line-requires
open_line-requires c =
    let x = c.requires.stands in
    let old = c.args.writer.now in
    let mid : EncodeBuffer = record old { room = c.put_line.new.room } in
    let p = c.in-Ok.ensures c.args.number in
    subst (λ (level : ℕ). HoldsDeep mid c.len-at.result level) (sym c.level_of.ensures)
    (x.0, p.more, x.1, put_after old mid c.len-at.result x.0 p.more x.1 x.2 (omega (arith, c.len-at.ensures, old.room.ok)) p.appended refl refl refl refl, x.3, x.4)

pub returns-in-Ok-open_line-clause-taken : goal.returns-in-Ok-open_line-clause-taken
returns-in-Ok-open_line-clause-taken c = λ out ns h stands.
    let old = c.args.writer.now in
    let mid : EncodeBuffer = record old { room = c.put_line.new.room } in
    let p = c.in-Ok.ensures c.args.number in
    let begun = c.begun_by-begun.ensures ∙ ap (λ (kind : Kind). begun_line kind c.args.number c.in-Ok.own) c.kind_of.ensures in
    let opened = rw c.level_of.ensures at c.in-Ok-open_line.ensures.opened in
    opened out p.more ns (said_node c.args.said) c.args.number (put_after old mid c.len-at.result out p.more ns h (omega (arith, c.len-at.ensures, old.room.ok)) p.appended refl refl refl refl) (begun_can c.begun_by-begun.result _ p.more (said_node c.args.said) c.args.number begun p.can) stands

pub returns-in-Err-open_line-clause-stopped : goal.returns-in-Err-open_line-clause-stopped
returns-in-Err-open_line-clause-stopped c = λ out ns h.
    let old = c.args.writer.now in
    let mid : EncodeBuffer = record old { room = c.put_line.new.room } in
    let p = c.in-Ok.ensures c.args.number in
    let g = put_after old mid c.len-at.result out p.more ns h (omega (arith, c.len-at.ensures, old.room.ok)) p.appended refl refl refl refl in
    let stopped = rw c.level_of.ensures at c.in-Err-open_line.ensures.stopped in
    (stopped out p.more ns g, c.in-Err-open_line.ensures.front out p.more ns g)
