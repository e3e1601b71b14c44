use Rattle.std.proofs.Common.{◌∙◌, inl, arith, refl, sym, ◌++◌, [], take, append_assoc, subst, List, ℕ}
use Rattle.std.proofs.lemmas.List.{append-nil}
use Rattle.std.proofs.lemmas.Result.{err_from_is_err_and}
use Rattle.llrp_listing.specs.Private.Lister.{GoesOn, IsBrokenOff}
use Rattle.llrp_listing.proofs.ShowLemmas.{as_far, broken_few, goes_few, further, stopped_there, memory_stopped, piece_breaks, piece_listed, piece_stopped, frame_listed, frame_stopped, frame_ends, text_held, takes_frame, takes_none, lists_failures}
use Rattle.llrp_listing.proofs.show.Lister.feed.Goals as goal

pub frames-init : goal.frames-init
frames-init g c = record { done = []; parts = refl; sink = refl; goes = λ known limit bytes gathered log goes. (gathered, subst (λ (x : List ℕ). GoesOn g.P.ItemPrinter.is_text (g.P.Listener.begins c.args.self.now.printer) (g.P.Listener.stands c.args.self.now.printer) known limit x gathered log (g.W.Sink.log c.args.w.now) c.args.self.now.frames c.args.self.now.lawful) (sym (append-nil bytes)) goes) }

pub feed-requires-clause-least : goal.feed-requires-clause-least
feed-requires-clause-least g c =
    let w = c.requires.on in
    let now = (c.frames.invariant.goes w.0 w.1 w.4 w.5 w.6 w.7).1 in
    omega (arith, now.listed.limit_is, w.2)

pub feed-requires-clause-most : goal.feed-requires-clause-most
feed-requires-clause-most g c =
    let w = c.requires.on in
    let now = (c.frames.invariant.goes w.0 w.1 w.4 w.5 w.6 w.7).1 in
    omega (arith, now.listed.limit_is, w.3)

pub feed-requires-clause-comes : goal.feed-requires-clause-comes
feed-requires-clause-comes g c =
    let w = c.requires.on in
    let now = c.frames.invariant.goes w.0 w.1 w.4 w.5 w.6 w.7 in
    inl (now.0, now.1.front, now.1.comes)

pub returns-in-Err-Broken-clause-feeds : goal.returns-in-Err-Broken-clause-feeds
returns-in-Err-Broken-clause-feeds g c = λ known limit bytes gathered log goes.
    let done = c.frames.invariant.done in
    let now = c.frames.invariant.goes known limit bytes gathered log goes in
    let broken = rw c.in-Err-Broken.field-0-is at (c.in-Err-Broken.ensures.takes now.0 now.1.front now.1.comes) in
    let stopped = rw c.in-Err-Broken.field-0-is at c.in-Err-Broken.ensures.stops in
    subst (λ (x : List ℕ). IsBrokenOff g.P.ItemPrinter.is_text (g.P.Listener.stands c.feed.new.listener) known limit x log (g.W.Sink.log c.frames.w) c.feed.new.self c.frames.self.lawful) (as_far bytes done c.frames.rest.now c.args.piece.now c.frames.invariant.parts)
    (piece_breaks g.P.ItemPrinter.is_text (g.P.Listener.begins c.frames.self.printer) (g.P.Listener.stands c.frames.self.printer) (g.P.Listener.stands c.feed.new.listener) known limit (bytes ++ done) now.0 c.frames.rest.now log _ c.frames.self.frames c.feed.new.self c.frames.self.lawful now.1 broken.0 broken.1 stopped.0 c.in-Err-Broken.ensures.set c.in-Err-Broken.ensures.limit)

pub returns-in-Err-Memory-clause-feeds : goal.returns-in-Err-Memory-clause-feeds
returns-in-Err-Memory-clause-feeds g c = λ known limit bytes gathered log goes.
    let now = c.frames.invariant.goes known limit bytes gathered log goes in
    stopped_there g.P.ItemPrinter.is_text g.P.ItemPrinter.text_of_end known limit bytes c.frames.invariant.done c.frames.rest.now c.args.piece.now log _ _ c.frames.invariant.parts
    (memory_stopped g.P.ItemPrinter.is_text g.P.ItemPrinter.text_of_end c.requires.one known limit (bytes ++ c.frames.invariant.done) now.1.front now.0 c.frames.rest.now log _ _ _ now.1.listed)

pub hand_on-requires-clause-some : goal.hand_on-requires-clause-some
hand_on-requires-clause-some g c =
    let w = c.requires.on in
    let now = c.frames.invariant.goes w.0 w.1 w.4 w.5 w.6 w.7 in (
      now.0,
      text_held (g.P.Listener.begins c.feed.new.listener) (g.P.Listener.stands c.feed.new.listener) c.feed.new.self (now.1.front ++ c.frames.rest.now) now.0
          (takes_none (g.P.Listener.begins c.feed.new.listener) (g.P.Listener.stands c.feed.new.listener) (g.P.Listener.ends c.feed.new.listener) _ now.1.front now.0 c.frames.rest.now c.feed.new.self c.in-Ok.came.used c.in-Ok.came.outcome c.in-Ok.ensures.limit c.in_default.not-Some (c.in-Ok.ensures.takes now.0 now.1.front now.1.comes)),
    )

pub returns-in_err-hand_on-clause-feeds : goal.returns-in_err-hand_on-clause-feeds
returns-in_err-hand_on-clause-feeds g c = λ known limit bytes gathered log goes.
    let p = err_from_is_err_and c.from_residual.result c.from_residual.ensures.1 in
    let now = c.frames.invariant.goes known limit bytes gathered log goes in
    rw (p.1, p.2)
    (stopped_there g.P.ItemPrinter.is_text g.P.ItemPrinter.text_of_end known limit bytes c.frames.invariant.done c.frames.rest.now c.args.piece.now log _ _ c.frames.invariant.parts
    (piece_stopped g.P.ItemPrinter.is_text g.P.ItemPrinter.text_of_end c.requires.one known limit (bytes ++ c.frames.invariant.done) now.0 c.frames.rest.now now.1.front log _ _ _ _ _ now.1.listed
    (c.in_err-hand_on.ensures.written now.0 (text_held (g.P.Listener.begins c.feed.new.listener) (g.P.Listener.stands c.feed.new.listener) c.feed.new.self (now.1.front ++ c.frames.rest.now) now.0
    (takes_none (g.P.Listener.begins c.feed.new.listener) (g.P.Listener.stands c.feed.new.listener) (g.P.Listener.ends c.feed.new.listener) _ now.1.front now.0 c.frames.rest.now c.feed.new.self c.in-Ok.came.used c.in-Ok.came.outcome c.in-Ok.ensures.limit c.in_default.not-Some (c.in-Ok.ensures.takes now.0 now.1.front now.1.comes))))))

pub returns-in_default-clause-feeds : goal.returns-in_default-clause-feeds
returns-in_default-clause-feeds g c = λ known limit bytes gathered log goes.
    let done = c.frames.invariant.done in
    let now = c.frames.invariant.goes known limit bytes gathered log goes in
    let came = takes_none (g.P.Listener.begins c.feed.new.listener) (g.P.Listener.stands c.feed.new.listener) (g.P.Listener.ends c.feed.new.listener) _ now.1.front now.0 c.frames.rest.now c.feed.new.self c.in-Ok.came.used c.in-Ok.came.outcome c.in-Ok.ensures.limit c.in_default.not-Some (c.in-Ok.ensures.takes now.0 now.1.front now.1.comes) in
    subst (λ (x : List ℕ). GoesOn g.P.ItemPrinter.is_text (g.P.Listener.begins c.hand_on.new.printer) (g.P.Listener.stands c.hand_on.new.printer) known limit x [] log (g.W.Sink.log c.hand_on.new.w) c.feed.new.self c.frames.self.lawful) (as_far bytes done c.frames.rest.now c.args.piece.now c.frames.invariant.parts)
    (piece_listed g.P.ItemPrinter.is_text (g.P.Listener.begins c.feed.new.listener) (g.P.Listener.stands c.feed.new.listener) (g.P.Listener.begins c.hand_on.new.printer) (g.P.Listener.stands c.hand_on.new.printer) known limit (bytes ++ done) now.0 c.frames.rest.now now.1.front log _ _ c.frames.self.frames c.feed.new.self c.frames.self.lawful now.1.listed came
    c.in-Ok.ensures.set c.in-Ok.ensures.limit (c.in_ok-hand_on.ensures.written now.0 (text_held (g.P.Listener.begins c.feed.new.listener) (g.P.Listener.stands c.feed.new.listener) c.feed.new.self (now.1.front ++ c.frames.rest.now) now.0 came)) c.in_ok-hand_on.ensures.begins c.in_ok-hand_on.ensures.stands)

pub list-requires-clause-some : goal.list-requires-clause-some
list-requires-clause-some g c =
    let w = c.requires.on in
    let now = c.frames.invariant.goes w.0 w.1 w.4 w.5 w.6 w.7 in
    frame_ends (g.P.Listener.stands c.feed.new.listener) (g.P.Listener.ends c.feed.new.listener) w.0 w.1 now.1.front now.0 c.frames.rest.now c.feed.new.self c.in-Ok.came.used c.in-Some.outcome
    (takes_frame (g.P.Listener.begins c.feed.new.listener) (g.P.Listener.stands c.feed.new.listener) (g.P.Listener.ends c.feed.new.listener) w.0 w.1 _ now.1.front now.0 c.frames.rest.now c.feed.new.self c.in-Ok.came.used c.in-Ok.came.outcome c.in-Some.outcome (c.in-Ok.ensures.set ∙ now.1.listed.set_is) now.1.listed.limit_is c.in-Some.is (c.in-Ok.ensures.takes now.0 now.1.front now.1.comes))

pub returns-in_err-list-clause-feeds : goal.returns-in_err-list-clause-feeds
returns-in_err-list-clause-feeds g c = λ known limit bytes gathered log goes.
    let p = err_from_is_err_and c.from_residual-in_err-list.result c.from_residual-in_err-list.ensures.1 in
    let now = c.frames.invariant.goes known limit bytes gathered log goes in
    let takes = takes_frame (g.P.Listener.begins c.feed.new.listener) (g.P.Listener.stands c.feed.new.listener) (g.P.Listener.ends c.feed.new.listener) known limit _ now.1.front now.0 c.frames.rest.now c.feed.new.self c.in-Ok.came.used c.in-Ok.came.outcome c.in-Some.outcome (c.in-Ok.ensures.set ∙ now.1.listed.set_is) now.1.listed.limit_is c.in-Some.is (c.in-Ok.ensures.takes now.0 now.1.front now.1.comes) in
    rw (p.1, p.2)
    (stopped_there g.P.ItemPrinter.is_text g.P.ItemPrinter.text_of_end known limit bytes c.frames.invariant.done c.frames.rest.now c.args.piece.now log _ _ c.frames.invariant.parts
    (frame_stopped g.P.ItemPrinter.is_text g.P.ItemPrinter.text_of_end c.requires.one (g.P.Listener.stands c.list.new.self.printer) known limit (bytes ++ c.frames.invariant.done) now.1.front now.0 c.frames.rest.now c.in-Ok.came.used log _ _ c.frames.self.frames c.frames.self.lawful c.list.new.self.lawful _ now.1.listed takes.1
    (c.in_err-list.ensures.lists known limit (now.1.front ++ take c.in-Ok.came.used c.frames.rest.now) now.0 takes.2)))

pub frames-preserved : goal.frames-preserved
frames-preserved g c =
    let used = c.in-Ok.came.used in
    let w = c.requires.on in
    let seen = c.frames.invariant.goes w.0 w.1 w.4 w.5 w.6 w.7 in
    let taken = takes_frame (g.P.Listener.begins c.feed.new.listener) (g.P.Listener.stands c.feed.new.listener) (g.P.Listener.ends c.feed.new.listener) w.0 w.1 _ seen.1.front seen.0 c.frames.rest.now c.feed.new.self used c.in-Ok.came.outcome c.in-Some.outcome (c.in-Ok.ensures.set ∙ seen.1.listed.set_is) seen.1.listed.limit_is c.in-Some.is (c.in-Ok.ensures.takes seen.0 seen.1.front seen.1.comes) in
    record {
      done = c.frames.invariant.done ++ take used c.frames.rest.now;
      parts = further c.frames.invariant.done c.frames.rest.now c.args.piece.now c.split_at.result.1.now used c.frames.invariant.parts c.split_at.ensures.back;
      sink = lists_failures g.P.ItemPrinter.is_text (g.P.Listener.stands c.list.new.self.printer) w.0 w.1 _ _ _ _ _ _ (c.in_ok-list.ensures.lists w.0 w.1 (seen.1.front ++ take used c.frames.rest.now) seen.0 taken.2) ∙ c.frames.invariant.sink;
      goes = λ known limit bytes gathered log goes.
          let now = c.frames.invariant.goes known limit bytes gathered log goes in
          let takes = takes_frame (g.P.Listener.begins c.feed.new.listener) (g.P.Listener.stands c.feed.new.listener) (g.P.Listener.ends c.feed.new.listener) known limit _ now.1.front now.0 c.frames.rest.now c.feed.new.self used c.in-Ok.came.outcome c.in-Some.outcome (c.in-Ok.ensures.set ∙ now.1.listed.set_is) now.1.listed.limit_is c.in-Some.is (c.in-Ok.ensures.takes now.0 now.1.front now.1.comes) in
          let next = frame_listed g.P.ItemPrinter.is_text (g.P.Listener.begins c.list.new.self.printer) (g.P.Listener.stands c.list.new.self.printer) known limit (bytes ++ c.frames.invariant.done) now.1.front now.0 c.frames.rest.now used log _ _ c.frames.self.frames c.feed.new.self c.list.new.self.frames c.frames.self.lawful c.list.new.self.lawful now.1.listed takes.1 takes.3 c.in-Ok.ensures.set c.in-Ok.ensures.limit c.in_ok-list.ensures.frames
          (c.in_ok-list.ensures.lists known limit (now.1.front ++ take used c.frames.rest.now) now.0 takes.2) in
          (next.0, subst (λ (x : List ℕ). GoesOn g.P.ItemPrinter.is_text (g.P.Listener.begins c.list.new.self.printer) (g.P.Listener.stands c.list.new.self.printer) known limit x next.0 log (g.W.Sink.log c.list.new.w) c.list.new.self.frames c.list.new.self.lawful) (append_assoc bytes c.frames.invariant.done (take used c.frames.rest.now)) next.1);
    }

pub returns-in-Err-Broken-clause-held : goal.returns-in-Err-Broken-clause-held
returns-in-Err-Broken-clause-held g c = λ known limit bytes gathered log goes least.
    broken_few limit c.feed.new.self (rw c.in-Err-Broken.field-0-is at c.in-Err-Broken.ensures.stops)

pub returns-in_default-clause-held : goal.returns-in_default-clause-held
returns-in_default-clause-held g c = λ known limit bytes gathered log goes least.
    let done = c.frames.invariant.done in
    let now = c.frames.invariant.goes known limit bytes gathered log goes in
    let came = takes_none (g.P.Listener.begins c.feed.new.listener) (g.P.Listener.stands c.feed.new.listener) (g.P.Listener.ends c.feed.new.listener) _ now.1.front now.0 c.frames.rest.now c.feed.new.self c.in-Ok.came.used c.in-Ok.came.outcome c.in-Ok.ensures.limit c.in_default.not-Some (c.in-Ok.ensures.takes now.0 now.1.front now.1.comes) in
    goes_few g.P.ItemPrinter.is_text (g.P.Listener.begins c.hand_on.new.printer) (g.P.Listener.stands c.hand_on.new.printer) known limit ((bytes ++ done) ++ c.frames.rest.now) [] log (g.W.Sink.log c.hand_on.new.w) c.feed.new.self c.frames.self.lawful least
    (piece_listed g.P.ItemPrinter.is_text (g.P.Listener.begins c.feed.new.listener) (g.P.Listener.stands c.feed.new.listener) (g.P.Listener.begins c.hand_on.new.printer) (g.P.Listener.stands c.hand_on.new.printer) known limit (bytes ++ done) now.0 c.frames.rest.now now.1.front log _ _ c.frames.self.frames c.feed.new.self c.frames.self.lawful now.1.listed came
    c.in-Ok.ensures.set c.in-Ok.ensures.limit (c.in_ok-hand_on.ensures.written now.0 (text_held (g.P.Listener.begins c.feed.new.listener) (g.P.Listener.stands c.feed.new.listener) c.feed.new.self (now.1.front ++ c.frames.rest.now) now.0 came)) c.in_ok-hand_on.ensures.begins c.in_ok-hand_on.ensures.stands)
