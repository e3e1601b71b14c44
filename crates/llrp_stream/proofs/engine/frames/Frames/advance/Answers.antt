use Rattle.std.proofs.Common.{subst, ℕ, ◌≤◌, List, [], length, sym, ap, ◌∙◌, arith, inl, inr}
use Rattle.llrp_schema.specs.declared.kinds.KindSet.{KindSet}
use Rattle.llrp_stream.specs.Private.Frames.{SkipsTo}
use Rattle.llrp_stream.specs.declared.engine.body.Body.{Body}
use Rattle.llrp_stream.specs.declared.state.State.{State}
use Rattle.llrp_stream.specs.declared.state.State.TheVariants as state
use Rattle.llrp_stream.specs.Calls.Frames.{is_skipped, IsRefusedAt, Refuses}
use Rattle.llrp_stream.proofs.FramesLemmas.{at_start, state_comes, starts_of, came_so, begun_of, start_unskipped, not_start, begins_takes, goes_on_goes, goes_on_progress, skip_takes}
use Rattle.llrp_stream.proofs.RefusedLemmas.{skip_refused}
use Rattle.llrp_stream.proofs.engine.frames.Frames.advance.Goals as goal

pub begin_any-requires-clause-short : goal.begin_any-requires-clause-short
begin_any-requires-clause-short g c = (starts_of (g.L.Listener.begins c.args.listener.now) (g.L.Listener.stands c.args.listener.now) c.args.self.now c.in-Between.is c.requires.comes).0

pub begin_any-requires-clause-told : goal.begin_any-requires-clause-told
begin_any-requires-clause-told g c = (starts_of (g.L.Listener.begins c.args.listener.now) (g.L.Listener.stands c.args.listener.now) c.args.self.now c.in-Between.is c.requires.comes).1

pub go_on-requires-clause-some : goal.go_on-requires-clause-some
go_on-requires-clause-some g c =
    let w = came_so (g.L.Listener.begins c.args.listener.now) (g.L.Listener.stands c.args.listener.now) c.args.self.now (state.Reading c.in-Reading.id) c.in-Reading.is (λ e. cc) (λ e. cc) c.requires.comes in
    (w.0, w.1, begun_of (g.L.Listener.begins c.args.listener.now w.0) (g.L.Listener.stands c.args.listener.now w.0) c.args.self.now.limit c.in-Reading.id c.args.self.now.body w.1 w.2)

pub skip-requires-clause-begun : goal.skip-requires-clause-begun
skip-requires-clause-begun g c = (came_so (g.L.Listener.begins c.args.listener.now) (g.L.Listener.stands c.args.listener.now) c.args.self.now (state.Skipping c.in-Skipping.count c.in-Skipping.header) c.in-Skipping.is (λ e. cc) (λ e. cc) c.requires.comes).2.1

pub skip-requires-clause-inside : goal.skip-requires-clause-inside
skip-requires-clause-inside g c = (let w = came_so (g.L.Listener.begins c.args.listener.now) (g.L.Listener.stands c.args.listener.now) c.args.self.now (state.Skipping c.in-Skipping.count c.in-Skipping.header) c.in-Skipping.is (λ e. cc) (λ e. cc) c.requires.comes in let lt = w.2.2 in omega (arith, lt))

pub returns-in-Between-clause-takes : goal.returns-in-Between-clause-takes
returns-in-Between-clause-takes g c = λ was front k.
    let q = at_start (g.L.Listener.begins c.args.listener.now was) (g.L.Listener.stands c.args.listener.now was) c.args.self.now.limit c.args.self.now.state c.args.self.now.body front c.in-Between.is k in
    begins_takes (g.L.Listener.begins c.begin_any.new.listener was) (g.L.Listener.stands c.begin_any.new.listener was) (g.L.Listener.ends c.begin_any.new.listener was) (λ now. g.L.Listener.stands c.begin_any.new.listener now []) c.args.self.now c.begin_any.new.self front c.args.piece.now c.args.self.now.body.raw.items c.begin_any.result q.0 (start_unskipped c.args.self.now.state c.in-Between.is) (c.begin_any.ensures.takes was q.2)

pub returns-in-Between-clause-broken : goal.returns-in-Between-clause-broken
returns-in-Between-clause-broken g c = λ e. absurd (not_start c.args.self.now.state c.in-Between.is (inl e))

pub returns-in-Between-clause-dead : goal.returns-in-Between-clause-dead
returns-in-Between-clause-dead g c = λ e. absurd (not_start c.args.self.now.state c.in-Between.is (inr e))

pub returns-in-Reading-clause-progress : goal.returns-in-Reading-clause-progress
returns-in-Reading-clause-progress g c =
    let w = came_so (g.L.Listener.begins c.args.listener.now) (g.L.Listener.stands c.args.listener.now) c.args.self.now (state.Reading c.in-Reading.id) c.in-Reading.is (λ e. cc) (λ e. cc) c.requires.comes in
    goes_on_progress (g.L.Listener.begins c.go_on.new.listener w.0) (g.L.Listener.stands c.go_on.new.listener w.0) (g.L.Listener.ends c.go_on.new.listener w.0) (λ now. g.L.Listener.stands c.go_on.new.listener now []) c.args.self.now.limit c.in-Reading.id c.args.self.now.body w.1 c.args.piece.now c.go_on.new.self c.go_on.result w.2.passed w.2.awaits.short.more (c.go_on.ensures.takes w.0 w.1 (begun_of (g.L.Listener.begins c.args.listener.now w.0) (g.L.Listener.stands c.args.listener.now w.0) c.args.self.now.limit c.in-Reading.id c.args.self.now.body w.1 w.2))

pub returns-in-Reading-clause-takes : goal.returns-in-Reading-clause-takes
returns-in-Reading-clause-takes g c = λ was front k.
    let r = state_comes (g.L.Listener.begins c.args.listener.now was) (g.L.Listener.stands c.args.listener.now was) c.args.self.now.limit c.args.self.now.state (state.Reading c.in-Reading.id) c.args.self.now.body front c.in-Reading.is k in
    goes_on_goes (g.L.Listener.begins c.go_on.new.listener was) (g.L.Listener.stands c.go_on.new.listener was) (g.L.Listener.ends c.go_on.new.listener was) (λ now. g.L.Listener.stands c.go_on.new.listener now []) c.args.self.now c.go_on.new.self front c.args.piece.now c.go_on.result (ap (λ (x : State). is_skipped x) c.in-Reading.is) (c.go_on.ensures.takes was front (begun_of (g.L.Listener.begins c.args.listener.now was) (g.L.Listener.stands c.args.listener.now was) c.args.self.now.limit c.in-Reading.id c.args.self.now.body front r))

pub returns-in-Reading-clause-broken : goal.returns-in-Reading-clause-broken
returns-in-Reading-clause-broken g c = λ e. absurd (let z = sym c.in-Reading.is ∙ e in cc)

pub returns-in-Reading-clause-dead : goal.returns-in-Reading-clause-dead
returns-in-Reading-clause-dead g c = λ e. absurd (let z = sym c.in-Reading.is ∙ e in cc)

pub returns-in-Skipping-clause-progress : goal.returns-in-Skipping-clause-progress
returns-in-Skipping-clause-progress g c = (let w = came_so (g.L.Listener.begins c.args.listener.now) (g.L.Listener.stands c.args.listener.now) c.args.self.now (state.Skipping c.in-Skipping.count c.in-Skipping.header) c.in-Skipping.is (λ e. cc) (λ e. cc) c.requires.comes in c.skip.ensures.progress w.2.2)

pub returns-in-Skipping-clause-takes : goal.returns-in-Skipping-clause-takes
returns-in-Skipping-clause-takes g c = λ was front k.
    let s = state_comes (g.L.Listener.begins c.args.listener.now was) (g.L.Listener.stands c.args.listener.now was) c.args.self.now.limit c.args.self.now.state (state.Skipping c.in-Skipping.count c.in-Skipping.header) c.args.self.now.body front c.in-Skipping.is k in
    skip_takes (g.L.Listener.begins c.args.listener.now was) (g.L.Listener.stands c.args.listener.now was) (g.L.Listener.ends c.args.listener.now was) (λ now. g.L.Listener.stands c.args.listener.now now []) c.args.self.now.limit front c.args.piece.now c.skip.new.self c.skip.result.used c.skip.result.outcome (ap (λ (x : Body). x.raw.items) c.skip.ensures.body ∙ s.3) s.4 (subst (λ (q : KindSet). SkipsTo q c.args.self.now.limit front c.args.piece.now c.skip.new.self c.skip.result.used c.skip.result.outcome) (sym (ap (λ (x : Body). x.reader.set) c.skip.ensures.body)) (c.skip.ensures.skips c.args.self.now.body.reader.set c.args.self.now.limit front s.0))

pub returns-in-Skipping-clause-broken : goal.returns-in-Skipping-clause-broken
returns-in-Skipping-clause-broken g c = λ e. absurd (let z = sym c.in-Skipping.is ∙ e in cc)

pub returns-in-Skipping-clause-dead : goal.returns-in-Skipping-clause-dead
returns-in-Skipping-clause-dead g c = λ e. absurd (let z = sym c.in-Skipping.is ∙ e in cc)

pub returns-in-Broken-clause-takes : goal.returns-in-Broken-clause-takes
returns-in-Broken-clause-takes g c = λ was front k. absurd (state_comes (g.L.Listener.begins c.args.listener.now was) (g.L.Listener.stands c.args.listener.now was) c.args.self.now.limit c.args.self.now.state state.Broken c.args.self.now.body front c.in-Broken.is k)

pub returns-in-Broken-clause-dead : goal.returns-in-Broken-clause-dead
returns-in-Broken-clause-dead g c = λ e. absurd (let z = sym c.in-Broken.is ∙ e in cc)

pub returns-in-Dead-clause-takes : goal.returns-in-Dead-clause-takes
returns-in-Dead-clause-takes g c = λ was front k. absurd (state_comes (g.L.Listener.begins c.args.listener.now was) (g.L.Listener.stands c.args.listener.now was) c.args.self.now.limit c.args.self.now.state state.Dead c.args.self.now.body front c.in-Dead.is k)

pub returns-in-Dead-clause-broken : goal.returns-in-Dead-clause-broken
returns-in-Dead-clause-broken g c = λ e. absurd (let z = sym c.in-Dead.is ∙ e in cc)

pub returns-in-Between-clause-refuses : goal.returns-in-Between-clause-refuses
returns-in-Between-clause-refuses g c = λ was front k r.
    let q = at_start (g.L.Listener.begins c.args.listener.now was) (g.L.Listener.stands c.args.listener.now was) c.args.self.now.limit c.args.self.now.state c.args.self.now.body front c.in-Between.is k in
    subst (λ (x : List ℕ). Refuses (g.L.Listener.faulty c.begin_any.new.listener was) c.args.self.now.body.reader.set c.args.self.now.limit x c.args.piece.now c.begin_any.new.self c.begin_any.result) q.0 (c.begin_any.ensures.refuses was q.2)

pub returns-in-Reading-clause-refuses : goal.returns-in-Reading-clause-refuses
returns-in-Reading-clause-refuses g c = λ was front k r.
    let reads = state_comes (g.L.Listener.begins c.args.listener.now was) (g.L.Listener.stands c.args.listener.now was) c.args.self.now.limit c.args.self.now.state (state.Reading c.in-Reading.id) c.args.self.now.body front c.in-Reading.is k in
    c.go_on.ensures.refuses was front (begun_of (g.L.Listener.begins c.args.listener.now was) (g.L.Listener.stands c.args.listener.now was) c.args.self.now.limit c.in-Reading.id c.args.self.now.body front reads)

pub returns-in-Skipping-clause-refuses : goal.returns-in-Skipping-clause-refuses
returns-in-Skipping-clause-refuses g c = λ was front k r.
    let faulty = g.L.Listener.faulty c.args.listener.now was in
    let set = c.args.self.now.body.reader.set in
    let limit = c.args.self.now.limit in
    let s = state_comes (g.L.Listener.begins c.args.listener.now was) (g.L.Listener.stands c.args.listener.now was) limit c.args.self.now.state (state.Skipping c.in-Skipping.count c.in-Skipping.header) c.args.self.now.body front c.in-Skipping.is k in
    let ten : 10 ≤ length front = omega (arith, s.1, s.0.count_is) in
    skip_refused faulty set limit c.in-Skipping.header front c.args.piece.now c.skip.new.self.state c.skip.result.used c.skip.result.outcome ten c.skip.ensures.fault (subst (λ (x : State). IsRefusedAt faulty set limit x front) c.in-Skipping.is r)
