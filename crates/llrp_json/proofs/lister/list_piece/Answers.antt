use Rattle.llrp_json.proofs.PieceLemmas.{piece_handed, piece_held}
use Rattle.llrp_json.proofs.lister.list_piece.Goals as goal

pub hand_out-requires : goal.hand_out-requires
hand_out-requires g c = record {
  some = piece_held g.P.ItemPrinter.is_text (g.P.Listener.begins c.args.printer.now) (g.P.Listener.stands c.args.printer.now) (g.P.Listener.begins c.gather.new.printer) (g.P.Listener.stands c.gather.new.printer) c.args.piece.now c.args.frames.now c.gather.new.frames c.in_ok-goes_on.goes_on c.requires.comes c.in_ok-goes_on.ensures.gathers;
}

pub returns-clause-hands : goal.returns-clause-hands
returns-clause-hands g c =
    piece_handed g.P.ItemPrinter.is_text (g.P.Listener.begins c.args.printer.now) (g.P.Listener.stands c.args.printer.now) (g.P.Listener.begins c.gather.new.printer) (g.P.Listener.stands c.gather.new.printer) c.args.piece.now c.args.frames.now c.gather.new.frames
    (g.P.Listener.begins c.hand_out.new.printer) (g.P.Listener.stands c.hand_out.new.printer) c.args.text.now.items c.hand_out.new.text.items c.in_ok-goes_on.goes_on c.in_ok-goes_on.ensures.gathers c.in_ok-hand_out.ensures.text c.in_ok-hand_out.ensures.begins c.in_ok-hand_out.ensures.stands
