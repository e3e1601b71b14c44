use Rattle.std.proofs.Common.{◌≡◌, inr, ℕ, ◌++◌, List, [], take, drop, refl, ap, subst, ◌∙◌, arith}
use Rattle.std.proofs.lemmas.List.{take-append-drop}
use Rattle.std.proofs.lemmas.Result.{err_from_is_err_and}
use Rattle.llrp_stream.specs.Cuts.{Breaks, length_field}
use Rattle.llrp_stream.specs.Calls.Frames.{IsRefused}
use Rattle.llrp_stream.proofs.FrontLemmas.{no_frame_breaks}
use Rattle.llrp_stream.proofs.FramesLemmas.{near_is, begins_faulty, begins_behind, begins_fails}
use Rattle.llrp_stream.proofs.RefusedLemmas.{header_refused, refused_behind, skip_refused}
use Rattle.llrp_stream.proofs.engine.frames.Frames.begin_here.Goals as goal

pub open_here-requires-clause-whole : goal.open_here-requires-clause-whole
open_here-requires-clause-whole g c = near_is c.args.piece.now c.split_at.result.0.now 10 c.requires.whole c.split_at.ensures.front

pub returns-in-Breaking-clause-takes : goal.returns-in-Breaking-clause-takes
returns-in-Breaking-clause-takes g c = λ was st.
    let piece : List ℕ = c.args.piece.now in
    let whole : take 10 piece ++ drop 10 piece ≡ piece = take-append-drop 10 piece in
    (subst (λ (x : List ℕ). Breaks x) whole (no_frame_breaks (take 10 piece) (drop 10 piece) (subst (λ (x : List ℕ). Breaks x) c.split_at.ensures.front c.in-Breaking.ensures)), st)

pub returns-in-Faulty-clause-takes : goal.returns-in-Faulty-clause-takes
returns-in-Faulty-clause-takes g c = λ was st.
    let near = near_is c.args.piece.now c.split_at.result.0.now 10 c.requires.whole c.split_at.ensures.front in
    rw c.after.ensures
    (begins_faulty (g.L.Listener.begins c.hand.new.listener was) (g.L.Listener.stands c.hand.new.listener was) (g.L.Listener.ends c.hand.new.listener was) (λ now. g.L.Listener.stands c.hand.new.listener now []) c.args.self.now.limit c.args.self.now.body.reader.set 10 c.skip-came.new.self [] c.args.piece.now c.split_at.result.0.now c.split_at.result.1.now c.in-Faulty.header c.skip-came.result c.requires.whole c.split_at.ensures.front c.split_at.ensures.back near c.in-Faulty.ensures (ap (λ x. x.reader.set) c.skip-came.ensures.body) (ap (λ x. x.raw.items) c.skip-came.ensures.body ∙ c.requires.fresh) (c.hand.ensures.stands was [] (inr st)) c.skip-came.ensures.skips)

pub returns-in_err-came-in-Sound-clause-takes : goal.returns-in_err-came-in-Sound-clause-takes
returns-in_err-came-in-Sound-clause-takes g c = λ was st.
    let p = err_from_is_err_and c.from_residual.result c.from_residual.ensures.1 in
    rw (p.1, p.2) (begins_fails (g.L.Listener.begins c.open_here.new.listener was) (g.L.Listener.stands c.open_here.new.listener was) (g.L.Listener.ends c.open_here.new.listener was) (λ now. g.L.Listener.stands c.open_here.new.listener now []) c.args.self.now.limit [] c.args.piece.now c.split_at.result.0.now c.split_at.result.1.now c.open_here.new.self c.in_err-came-in-Sound.field-0.0 (c.in_err-came-in-Sound.ensures.takes was st))

pub returns-in_ok-came-in-Sound-clause-takes : goal.returns-in_ok-came-in-Sound-clause-takes
returns-in_ok-came-in-Sound-clause-takes g c = λ was st.
    rw c.after-in-Sound.ensures
    (begins_behind (g.L.Listener.begins c.open_here.new.listener was) (g.L.Listener.stands c.open_here.new.listener was) (g.L.Listener.ends c.open_here.new.listener was) (λ now. g.L.Listener.stands c.open_here.new.listener now []) c.args.self.now.limit [] c.args.piece.now c.split_at.result.0.now c.split_at.result.1.now c.open_here.new.self 10 c.in_ok-came-in-Sound.came c.requires.whole c.split_at.ensures.front c.split_at.ensures.back (c.in_ok-came-in-Sound.ensures.takes was st))

pub returns-in-Faulty-clause-refuses : goal.returns-in-Faulty-clause-refuses
returns-in-Faulty-clause-refuses g c = λ was st.
    let faulty = g.L.Listener.faulty c.hand.new.listener was in
    let set = c.args.self.now.body.reader.set in
    let limit = c.args.self.now.limit in
    let bytes : List ℕ = c.split_at.result.0.now in
    let ten = near_is c.args.piece.now bytes 10 c.requires.whole c.split_at.ensures.front in
    let is = header_refused faulty set limit bytes (length_field bytes) c.in-Faulty.header ten c.in-Faulty.ensures in
    let refused : IsRefused faulty set limit bytes c.in-Faulty.header.fault = ([], bytes, c.hand.ensures.faulty was [] st set limit bytes (length_field bytes) is refl, is) in
    rw c.after.ensures
    (refused_behind faulty set limit [] c.args.piece.now bytes c.split_at.result.1.now c.skip-came.new.self.state c.skip-came.result.used 10 c.skip-came.result.outcome c.split_at.ensures.front c.split_at.ensures.back
    (skip_refused faulty set limit c.in-Faulty.header bytes c.split_at.result.1.now c.skip-came.new.self.state c.skip-came.result.used c.skip-came.result.outcome (omega (arith, ten)) c.skip-came.ensures.fault refused))

pub returns-in_ok-came-in-Sound-clause-refuses : goal.returns-in_ok-came-in-Sound-clause-refuses
returns-in_ok-came-in-Sound-clause-refuses g c = λ was st.
    rw c.after-in-Sound.ensures
    (refused_behind (g.L.Listener.faulty c.open_here.new.listener was) c.args.self.now.body.reader.set c.args.self.now.limit [] c.args.piece.now c.split_at.result.0.now c.split_at.result.1.now c.open_here.new.self.state c.in_ok-came-in-Sound.came.used 10 c.in_ok-came-in-Sound.came.outcome c.split_at.ensures.front c.split_at.ensures.back (c.in_ok-came-in-Sound.ensures.refuses was st))
