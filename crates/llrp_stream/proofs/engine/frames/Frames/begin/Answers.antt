use Rattle.std.proofs.Common.{◌≡◌, inr, ℕ, ◌+◌, ◌≤◌, ◌++◌, List, [], length, take, drop, refl, sym, ap, subst, ◌∙◌, arith, length-append, append_assoc}
use Rattle.std.proofs.lemmas.List.{take-append-drop}
use Rattle.std.proofs.lemmas.Result.{err_from_is_err_and}
use Rattle.llrp_schema.specs.declared.kinds.KindSet.{KindSet}
use Rattle.llrp_stream.specs.Cuts.{Breaks, length_field}
use Rattle.llrp_stream.specs.Calls.Frames.{EndsRefused, IsRefused}
use Rattle.llrp_stream.specs.Private.Headers.{IsFaulty, IsSound}
use Rattle.llrp_stream.proofs.FrontLemmas.{no_frame_breaks}
use Rattle.llrp_stream.proofs.FramesLemmas.{near_is, begins_short, begins_faulty, begins_behind, begins_fails}
use Rattle.llrp_stream.proofs.RefusedLemmas.{header_refused, refused_behind, skip_refused, start_refused}
use Rattle.llrp_stream.proofs.engine.frames.Frames.begin.Goals as goal

pub keep-requires : goal.keep-requires
keep-requires g c =
    let near = near_is c.args.piece.now c.split_at.result.0.now c.min-used.result (omega (arith, c.min-used.ensures)) c.split_at.ensures.front in
    omega (arith, near, c.min-used.ensures, c.len.ensures, c.requires.short)

pub open-requires-clause-whole : goal.open-requires-clause-whole
open-requires-clause-whole g c =
    let near = near_is c.args.piece.now c.split_at.result.0.now c.min-used.result (omega (arith, c.min-used.ensures)) c.split_at.ensures.front in
    let long = ap (λ (x : List ℕ). length x) (c.as_slice.ensures.value ∙ c.keep.ensures.raw) in
    let raw = ap (λ (x : List ℕ). length x) c.keep.ensures.raw in
    omega (arith, near, long, raw, c.in-Sound.ensures.long, c.min-used.ensures, c.len.ensures, c.requires.short, length-append c.args.self.now.body.raw.items c.split_at.result.0.now)

pub open-requires-clause-sound : goal.open-requires-clause-sound
open-requires-clause-sound g c = subst (λ (x : List ℕ). IsSound c.keep.new.self.reader.set c.args.self.now.limit x c.in-Sound.header) c.as_slice.ensures.value c.in-Sound.ensures

pub returns-in-Breaking-clause-takes : goal.returns-in-Breaking-clause-takes
returns-in-Breaking-clause-takes g c = λ was st.
    let front = c.args.self.now.body.raw.items in
    let n = c.min-used.result in
    let mid = c.as_slice.ensures.value ∙ c.keep.ensures.raw ∙ ap (λ (x : List ℕ). front ++ x) c.split_at.ensures.front in
    let whole : (front ++ take n c.args.piece.now) ++ drop n c.args.piece.now ≡ front ++ c.args.piece.now = append_assoc front (take n c.args.piece.now) (drop n c.args.piece.now) ∙ ap (λ (x : List ℕ). front ++ x) (take-append-drop n c.args.piece.now) in
    (subst (λ (x : List ℕ). Breaks x) whole (no_frame_breaks (front ++ take n c.args.piece.now) (drop n c.args.piece.now) (subst (λ (x : List ℕ). Breaks x) mid c.in-Breaking.ensures)), st)

pub returns-in-Short-clause-takes : goal.returns-in-Short-clause-takes
returns-in-Short-clause-takes g c = λ was st.
    let front = c.args.self.now.body.raw.items in
    let mid = c.as_slice.ensures.value ∙ c.keep.ensures.raw ∙ ap (λ (x : List ℕ). front ++ x) c.split_at.ensures.front in
    let same = c.as_slice-in-Short.ensures.value ∙ sym c.as_slice.ensures.value in
    begins_short (g.L.Listener.begins c.args.listener.now was) (g.L.Listener.stands c.args.listener.now was) (g.L.Listener.ends c.args.listener.now was) (λ now. g.L.Listener.stands c.args.listener.now now []) c.args.self.now.limit c.min-used.result (record { limit = c.args.self.now.limit; state = c.before_body-self.result; body = c.keep.new.self }) front c.args.piece.now c.as_slice.result.now (omega (arith, c.min-used.ensures, c.len.ensures)) mid c.in-Short.ensures.0 c.in-Short.ensures.1 (sym c.as_slice.ensures.value) st (λ e. c.before_body-self.ensures.none (same ∙ e)) (λ lt. c.before_body-self.ensures.some (let e = ap (λ (x : List ℕ). length x) same in omega (arith, lt)))

pub returns-in-Faulty-clause-takes : goal.returns-in-Faulty-clause-takes
returns-in-Faulty-clause-takes g c = λ was st.
    let front = c.args.self.now.body.raw.items in
    let used : c.min-used.result ≤ length c.args.piece.now = omega (arith, c.min-used.ensures) in
    let mid = c.as_slice.ensures.value ∙ c.keep.ensures.raw ∙ ap (λ (x : List ℕ). front ++ x) c.split_at.ensures.front in
    let near = near_is c.args.piece.now (take c.min-used.result c.args.piece.now) c.min-used.result used refl in
    let long : length c.as_slice.result.now ≡ 10 = (let e = ap (λ (x : List ℕ). length x) mid in omega (arith, c.in-Faulty.ensures.long, c.min-used.ensures, c.len.ensures, near, length-append front (take c.min-used.result c.args.piece.now), c.requires.short)) in
    rw c.after.ensures
    (begins_faulty (g.L.Listener.begins c.hand.new.listener was) (g.L.Listener.stands c.hand.new.listener was) (g.L.Listener.ends c.hand.new.listener was) (λ now. g.L.Listener.stands c.hand.new.listener now []) c.args.self.now.limit c.keep.new.self.reader.set c.min-used.result c.skip-came.new.self front c.args.piece.now c.as_slice.result.now c.split_at.result.1.now c.in-Faulty.header c.skip-came.result used mid c.split_at.ensures.back long c.in-Faulty.ensures (ap (λ x. x.reader.set) c.skip-came.ensures.body) (ap (λ x. x.raw.items) c.skip-came.ensures.body ∙ c.clear.ensures) (c.hand.ensures.stands was [] (inr st)) c.skip-came.ensures.skips)

pub returns-in_err-came-in-Sound-clause-takes : goal.returns-in_err-came-in-Sound-clause-takes
returns-in_err-came-in-Sound-clause-takes g c = λ was st.
    let p = err_from_is_err_and c.from_residual.result c.from_residual.ensures.1 in
    rw (p.1, p.2) (begins_fails (g.L.Listener.begins c.open.new.listener was) (g.L.Listener.stands c.open.new.listener was) (g.L.Listener.ends c.open.new.listener was) (λ now. g.L.Listener.stands c.open.new.listener now []) c.args.self.now.limit c.args.self.now.body.raw.items c.args.piece.now c.keep.new.self.raw.items c.split_at.result.1.now c.open.new.self c.in_err-came-in-Sound.field-0.0 (c.in_err-came-in-Sound.ensures.takes was st))

pub returns-in_ok-came-in-Sound-clause-takes : goal.returns-in_ok-came-in-Sound-clause-takes
returns-in_ok-came-in-Sound-clause-takes g c = λ was st.
    let front = c.args.self.now.body.raw.items in
    let used : c.min-used.result ≤ length c.args.piece.now = omega (arith, c.min-used.ensures) in
    let mid = c.keep.ensures.raw ∙ ap (λ (x : List ℕ). front ++ x) c.split_at.ensures.front in
    rw c.after-in-Sound.ensures
    (begins_behind (g.L.Listener.begins c.open.new.listener was) (g.L.Listener.stands c.open.new.listener was) (g.L.Listener.ends c.open.new.listener was) (λ now. g.L.Listener.stands c.open.new.listener now []) c.args.self.now.limit front c.args.piece.now c.keep.new.self.raw.items c.split_at.result.1.now c.open.new.self c.min-used.result c.in_ok-came-in-Sound.came used mid c.split_at.ensures.back (c.in_ok-came-in-Sound.ensures.takes was st))

pub returns-in-Short-clause-refuses : goal.returns-in-Short-clause-refuses
returns-in-Short-clause-refuses g c = λ was st.
    let front = c.args.self.now.body.raw.items in
    start_refused (g.L.Listener.faulty c.args.listener.now was) c.args.self.now.body.reader.set c.args.self.now.limit c.as_slice-in-Short.result.now (front ++ c.args.piece.now) c.before_body-self.result c.before_body-self.ensures.none c.before_body-self.ensures.some

pub returns-in-Faulty-clause-refuses : goal.returns-in-Faulty-clause-refuses
returns-in-Faulty-clause-refuses g c = λ was st.
    let front = c.args.self.now.body.raw.items in
    let faulty = g.L.Listener.faulty c.hand.new.listener was in
    let set = c.keep.new.self.reader.set in
    let limit = c.args.self.now.limit in
    let bytes : List ℕ = c.as_slice-in-Faulty.result.now in
    let same : c.as_slice.result.now ≡ bytes = c.as_slice.ensures.value ∙ sym c.as_slice-in-Faulty.ensures.value in
    let used : c.min-used.result ≤ length c.args.piece.now = omega (arith, c.min-used.ensures) in
    let mid = c.as_slice-in-Faulty.ensures.value ∙ c.keep.ensures.raw ∙ ap (λ (x : List ℕ). front ++ x) c.split_at.ensures.front in
    let near = near_is c.args.piece.now (take c.min-used.result c.args.piece.now) c.min-used.result used refl in
    let fails : IsFaulty set limit bytes c.in-Faulty.header = subst (λ (x : List ℕ). IsFaulty set limit x c.in-Faulty.header) same c.in-Faulty.ensures in
    let ten : length bytes ≡ 10 = (let e = ap (λ (x : List ℕ). length x) mid in omega (arith, fails.long, c.min-used.ensures, c.len.ensures, near, length-append front (take c.min-used.result c.args.piece.now), c.requires.short)) in
    let is = header_refused faulty set limit bytes (length_field bytes) c.in-Faulty.header ten fails in
    let refused : IsRefused faulty set limit bytes c.in-Faulty.header.fault = ([], bytes, c.hand.ensures.faulty was [] st set limit bytes (length_field bytes) is refl, is) in
    rw c.after.ensures
    (subst (λ (q : KindSet). EndsRefused faulty q limit front c.args.piece.now c.skip-came.new.self.state (c.skip-came.result.used + c.min-used.result) c.skip-came.result.outcome) (ap (λ x. x.set) c.keep.ensures.reader)
    (refused_behind faulty set limit front c.args.piece.now bytes c.split_at.result.1.now c.skip-came.new.self.state c.skip-came.result.used c.min-used.result c.skip-came.result.outcome mid c.split_at.ensures.back
    (skip_refused faulty set limit c.in-Faulty.header bytes c.split_at.result.1.now c.skip-came.new.self.state c.skip-came.result.used c.skip-came.result.outcome (omega (arith, ten)) c.skip-came.ensures.fault refused)))

pub returns-in_ok-came-in-Sound-clause-refuses : goal.returns-in_ok-came-in-Sound-clause-refuses
returns-in_ok-came-in-Sound-clause-refuses g c = λ was st.
    let front = c.args.self.now.body.raw.items in
    let faulty = g.L.Listener.faulty c.open.new.listener was in
    let mid = c.keep.ensures.raw ∙ ap (λ (x : List ℕ). front ++ x) c.split_at.ensures.front in
    rw c.after-in-Sound.ensures
    (subst (λ (q : KindSet). EndsRefused faulty q c.args.self.now.limit front c.args.piece.now c.open.new.self.state (c.in_ok-came-in-Sound.came.used + c.min-used.result) c.in_ok-came-in-Sound.came.outcome) (ap (λ x. x.set) c.keep.ensures.reader)
    (refused_behind faulty c.keep.new.self.reader.set c.args.self.now.limit front c.args.piece.now c.keep.new.self.raw.items c.split_at.result.1.now c.open.new.self.state c.in_ok-came-in-Sound.came.used c.min-used.result c.in_ok-came-in-Sound.came.outcome mid c.split_at.ensures.back (c.in_ok-came-in-Sound.ensures.refuses was st)))
