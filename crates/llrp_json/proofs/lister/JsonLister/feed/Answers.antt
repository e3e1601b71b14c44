use Rattle.std.proofs.Common.{sym}
use Rattle.llrp_json.proofs.PieceLemmas.{lists_last, lists_no_more, lists_on, sound_on}
use Rattle.llrp_json.proofs.lister.JsonLister.feed.Goals as goal

pub returns-in-Broken : goal.returns-in-Broken
returns-in-Broken c = rw (sym c.self.view_is) (lists_no_more (record { frames = c.self.inside.frames; printer = c.self.inside.printer; phase = c.self.inside.phase }) c.args.piece.now c.args.text.now.items c.in-Broken.is)

pub invariant_of-self : goal.invariant_of-self
invariant_of-self c =
    sound_on c.self.inside.frames c.list_piece.new.frames c.self.inside.printer c.list_piece.new.printer c.self.inside.phase c.args.piece.now c.args.text.now.items c.list_piece.new.text.items c.in-Ok-true.field-0 c.self.invariant c.in-Open.is c.in-Ok-true.field-0-test c.in-Ok-true.ensures.limit c.in-Ok-true.ensures.hands

pub returns-in-Ok-true : goal.returns-in-Ok-true
returns-in-Ok-true c =
    rw (sym c.self.view_is)
    (lists_on (record { frames = c.self.inside.frames; printer = c.self.inside.printer; phase = c.self.inside.phase }) c.list_piece.new.frames c.list_piece.new.printer c.self.inside.phase c.args.piece.now c.args.text.now.items c.list_piece.new.text.items c.in-Ok-true.field-0 c.in-Open.is c.in-Open.is c.in-Ok-true.field-0-test c.in-Ok-true.ensures.hands)

pub returns-in-Ok-false : goal.returns-in-Ok-false
returns-in-Ok-false c =
    rw (sym c.self.view_is)
    (lists_last (record { frames = c.self.inside.frames; printer = c.self.inside.printer; phase = c.self.inside.phase }) c.list_piece.new.frames c.list_piece.new.printer c.args.piece.now c.args.text.now.items c.list_piece.new.text.items c.in-Ok-false.field-0 c.in-Open.is c.in-Ok-false.field-0-test c.in-Ok-false.ensures.hands)
