use Rattle.std.proofs.Common.{◌∙◌, inl, arith, refl, sym, ◌++◌, [], take, append_assoc, subst, List, ℕ}
use Rattle.std.proofs.lemmas.List.{append-nil}
use Rattle.llrp_json.specs.Private.PieceLines.{GoesOn, IsOver}
use Rattle.llrp_listing.proofs.ShowLemmas.{as_far, further, takes_frame, takes_none}
use Rattle.llrp_json.proofs.PieceLemmas.{frame_gathered, nothing_listed, piece_breaks, piece_gathered}
use Rattle.llrp_json.proofs.lister.gather.Goals as goal

pub parts-init : goal.parts-init
parts-init g c = record { done = []; parts = refl; limit = refl; goes = λ p limit bytes sent goes. subst (λ (x : List ℕ). GoesOn g.P.ItemPrinter.is_text (g.P.Listener.begins c.args.printer.now) (g.P.Listener.stands c.args.printer.now) p limit x sent c.args.frames.now) (sym (append-nil bytes)) goes }

pub feed-requires-clause-least : goal.feed-requires-clause-least
feed-requires-clause-least g c = omega (arith, c.parts.invariant.limit, c.requires.least)

pub feed-requires-clause-most : goal.feed-requires-clause-most
feed-requires-clause-most g c = omega (arith, c.parts.invariant.limit, c.requires.most)

pub feed-requires-clause-comes : goal.feed-requires-clause-comes
feed-requires-clause-comes g c =
    let now = c.parts.invariant.goes _ _ _ _ (nothing_listed g.P.ItemPrinter.is_text (g.P.Listener.begins c.args.printer.now) (g.P.Listener.stands c.args.printer.now) c.args.frames.now c.requires.comes) in
    inl (now.gathered, now.front, now.comes)

pub returns-in-Err-Broken-clause-gathers : goal.returns-in-Err-Broken-clause-gathers
returns-in-Err-Broken-clause-gathers g c = λ p limit bytes sent goes.
    let done = c.parts.invariant.done in
    let now = c.parts.invariant.goes p limit bytes sent goes in
    let broken = rw c.in-Err-Broken.field-0-is at (c.in-Err-Broken.ensures.takes now.gathered now.front now.comes) in
    subst (λ (x : List ℕ). IsOver g.P.ItemPrinter.is_text (g.P.Listener.stands c.feed.new.listener) p limit x sent c.feed.new.self) (as_far bytes done c.parts.rest.now c.args.piece.now c.parts.invariant.parts)
    (piece_breaks g.P.ItemPrinter.is_text (g.P.Listener.begins c.parts.printer) (g.P.Listener.stands c.parts.printer) (g.P.Listener.stands c.feed.new.listener) p limit (bytes ++ done) sent c.parts.rest.now c.parts.frames c.feed.new.self now broken.0 broken.1 c.in-Err-Broken.ensures.set c.in-Err-Broken.ensures.limit)

pub returns-in_default-clause-gathers : goal.returns-in_default-clause-gathers
returns-in_default-clause-gathers g c = λ p limit bytes sent goes.
    let done = c.parts.invariant.done in
    let now = c.parts.invariant.goes p limit bytes sent goes in
    let came = takes_none (g.P.Listener.begins c.feed.new.listener) (g.P.Listener.stands c.feed.new.listener) (g.P.Listener.ends c.feed.new.listener) _ now.front now.gathered c.parts.rest.now c.feed.new.self c.in-Ok.came.used c.in-Ok.came.outcome c.in-Ok.ensures.limit c.in_default.not-Some (c.in-Ok.ensures.takes now.gathered now.front now.comes) in
    subst (λ (x : List ℕ). GoesOn g.P.ItemPrinter.is_text (g.P.Listener.begins c.feed.new.listener) (g.P.Listener.stands c.feed.new.listener) p limit x sent c.feed.new.self) (as_far bytes done c.parts.rest.now c.args.piece.now c.parts.invariant.parts)
    (piece_gathered g.P.ItemPrinter.is_text (g.P.Listener.begins c.parts.printer) (g.P.Listener.stands c.parts.printer) (g.P.Listener.begins c.feed.new.listener) (g.P.Listener.stands c.feed.new.listener) p limit (bytes ++ done) sent c.parts.rest.now c.parts.frames c.feed.new.self now came c.in-Ok.ensures.set c.in-Ok.ensures.limit)

pub parts-preserved : goal.parts-preserved
parts-preserved g c =
    let used = c.in-Ok.came.used in
    let done = c.parts.invariant.done in
    record {
      done = done ++ take used c.parts.rest.now;
      parts = further done c.parts.rest.now c.args.piece.now c.split_at.result.1.now used c.parts.invariant.parts c.split_at.ensures.back;
      limit = c.in-Ok.ensures.limit ∙ c.parts.invariant.limit;
      goes = λ p limit bytes sent goes.
          let now = c.parts.invariant.goes p limit bytes sent goes in
          let takes = takes_frame (g.P.Listener.begins c.feed.new.listener) (g.P.Listener.stands c.feed.new.listener) (g.P.Listener.ends c.feed.new.listener) p limit _ now.front now.gathered c.parts.rest.now c.feed.new.self used c.in-Ok.came.outcome c.in-Some.outcome (c.in-Ok.ensures.set ∙ now.listed.set_is) now.listed.limit_is c.in-Some.is (c.in-Ok.ensures.takes now.gathered now.front now.comes) in
          subst (λ (x : List ℕ). GoesOn g.P.ItemPrinter.is_text (g.P.Listener.begins c.take.new.printer) (g.P.Listener.stands c.take.new.printer) p limit x sent c.feed.new.self) (append_assoc bytes done (take used c.parts.rest.now))
          (frame_gathered g.P.ItemPrinter.is_text (g.P.Listener.begins c.take.new.printer) (g.P.Listener.stands c.take.new.printer) p limit (bytes ++ done) now.front now.gathered sent c.parts.rest.now used c.parts.frames c.feed.new.self now.listed takes.1 takes.3 c.in-Ok.ensures.set c.in-Ok.ensures.limit
          (c.in_ok-take.ensures p limit (now.front ++ take used c.parts.rest.now) now.gathered takes.2));
    }
