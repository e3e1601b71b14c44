use Rattle.std.proofs.Common.{Ok, Bool, ℕ, ◌+◌, ◌≤◌, ◌++◌, List, [], length, refl, sym, ap, subst, ◌∙◌, arith, length-append}
use Rattle.llrp_tree.specs.declared.fault.FrameErr.{FrameErr}
use Rattle.llrp_tree.specs.Lawful.{AreOctets}
use Rattle.llrp_stream.specs.Private.Front.{FailsHanded}
use Rattle.llrp_stream.specs.Private.Pieces.{Feeds}
use Rattle.llrp_stream.specs.declared.header.FaultyHeader.{FaultyHeader}
use Rattle.llrp_stream.specs.declared.state.State.TheVariants as state
use Rattle.llrp_tree.proofs.OctetLemmas.{are_octets, octets-append}
use Rattle.llrp_stream.proofs.FramesLemmas.{within, near_is, octets-take, whole_frame, goes_on_reading, goes_on_end, goes_on_failed, on_ok}
use Rattle.llrp_stream.proofs.RefusedLemmas.{body_refused, refused_behind, skip_refused, whole_refuses}
use Rattle.llrp_stream.proofs.engine.frames.Frames.go_on.Goals as goal

pub taken-done-requires : goal.taken-done-requires
taken-done-requires g c =
    let w = c.requires.some in
    let q = within (g.L.Listener.begins c.args.listener.now w.0) (g.L.Listener.stands c.args.listener.now w.0) c.args.self.now.body w.1 w.2.stands_for in
    omega (arith, q.all, q.fits, q.small)

pub overflow_sub-octets : goal.overflow_sub-octets
overflow_sub-octets g c =
    let w = c.requires.some in
    let q = within (g.L.Listener.begins c.args.listener.now w.0) (g.L.Listener.stands c.args.listener.now w.0) c.args.self.now.body w.1 w.2.stands_for in
    omega (arith, q.all, q.fits, c.taken-done.ensures)

pub feed-requires : goal.feed-requires
feed-requires g c =
    let w = c.requires.some in
    let q = within (g.L.Listener.begins c.args.listener.now w.0) (g.L.Listener.stands c.args.listener.now w.0) c.args.self.now.body w.1 w.2.stands_for in
    let near = near_is c.args.piece.now c.split_at.result.0.now c.min-used.result (omega (arith, c.min-used.ensures)) c.split_at.ensures.front in
    (w.0, w.1, w.2.stands_for, omega (arith, near, q.all, q.fits, c.taken-done.ensures, c.min-used.ensures, length-append w.1 c.split_at.result.0.now))

pub end-requires-clause-some : goal.end-requires-clause-some
end-requires-clause-some g c =
    let w = c.requires.some in
    let q = within (g.L.Listener.begins c.args.listener.now w.0) (g.L.Listener.stands c.args.listener.now w.0) c.args.self.now.body w.1 w.2.stands_for in
    let near = near_is c.args.piece.now c.split_at.result.0.now c.min-used.result (omega (arith, c.min-used.ensures)) c.split_at.ensures.front in
    let le : length (w.1 ++ c.split_at.result.0.now) ≤ c.args.self.now.body.reader.octets = omega (arith, near, q.all, q.fits, c.taken-done.ensures, c.min-used.ensures, length-append w.1 c.split_at.result.0.now) in
    let f = subst (λ (b : Bool). Feeds (g.L.Listener.begins c.feed.new.listener w.0) (g.L.Listener.stands c.feed.new.listener w.0) (g.L.Listener.faulty c.feed.new.listener w.0) c.args.self.now.body c.feed.new.self w.1 c.split_at.result.0.now (Ok b)) c.in-Ok-true.field-0-test (c.in-Ok-true.ensures w.0 w.1 w.2.stands_for le) in
    (w.0, w.1 ++ c.split_at.result.0.now, f.0, octets-append w.1 c.split_at.result.0.now w.2.passed.octets (subst (λ (x : List ℕ). AreOctets x) (sym c.split_at.ensures.front) (octets-take c.min-used.result c.args.piece.now (are_octets c.args.piece.now (λ i. c.type_inv.piece i)))), omega (arith, f.1, w.2.passed.within))

pub give_up-came-requires-clause-begun : goal.give_up-came-requires-clause-begun
give_up-came-requires-clause-begun g c =
    let w = c.requires.some in
    let q = within (g.L.Listener.begins c.args.listener.now w.0) (g.L.Listener.stands c.args.listener.now w.0) c.args.self.now.body w.1 w.2.stands_for in
    omega (arith, q.all, c.taken-done.ensures, w.2.passed.long)

pub give_up-came-requires-clause-inside : goal.give_up-came-requires-clause-inside
give_up-came-requires-clause-inside g c =
    let w = c.requires.some in
    let q = within (g.L.Listener.begins c.args.listener.now w.0) (g.L.Listener.stands c.args.listener.now w.0) c.args.self.now.body w.1 w.2.stands_for in
    omega (arith, q.all, q.fits, c.taken-done.ensures, c.min-used.ensures)

pub returns-in-Ok-true-clause-takes : goal.returns-in-Ok-true-clause-takes
returns-in-Ok-true-clause-takes g c = λ was front b.
    let q = within (g.L.Listener.begins c.args.listener.now was) (g.L.Listener.stands c.args.listener.now was) c.args.self.now.body front b.stands_for in
    let used : c.min-used.result ≤ length c.args.piece.now = omega (arith, c.min-used.ensures) in
    let near = near_is c.args.piece.now c.split_at.result.0.now c.min-used.result used c.split_at.ensures.front in
    let le : length (front ++ c.split_at.result.0.now) ≤ c.args.self.now.body.reader.octets = omega (arith, near, q.all, q.fits, c.taken-done.ensures, c.min-used.ensures, length-append front c.split_at.result.0.now) in
    let f = subst (λ (b : Bool). Feeds (g.L.Listener.begins c.feed.new.listener was) (g.L.Listener.stands c.feed.new.listener was) (g.L.Listener.faulty c.feed.new.listener was) c.args.self.now.body c.feed.new.self front c.split_at.result.0.now (Ok b)) c.in-Ok-true.field-0-test (c.in-Ok-true.ensures was front b.stands_for le) in
    let is = whole_frame (g.L.Listener.stands c.feed.new.listener was) c.args.self.now.limit c.args.id c.args.self.now.body c.feed.new.self.reader front c.split_at.result.0.now b.passed f.1 f.0 in
    let os = octets-append front c.split_at.result.0.now b.passed.octets (subst (λ (x : List ℕ). AreOctets x) (sym c.split_at.ensures.front) (octets-take c.min-used.result c.args.piece.now (are_octets c.args.piece.now (λ i. c.type_inv.piece i)))) in
    goes_on_end (g.L.Listener.begins c.end.new.listener was) (g.L.Listener.stands c.end.new.listener was) (g.L.Listener.ends c.end.new.listener was) (λ now. g.L.Listener.stands c.end.new.listener now []) c.args.self.now.limit c.min-used.result c.end.new.self front c.args.piece.now c.split_at.result.0.now c.end.result is c.split_at.ensures.front used c.end.ensures.came c.end.ensures.idle c.end.ensures.fails (on_ok c.end.result _ _ c.end.ensures.gives (λ h. h was (front ++ c.split_at.result.0.now) f.0 os (omega (arith, f.1, b.passed.within))))

pub returns-in-Ok-false-clause-takes : goal.returns-in-Ok-false-clause-takes
returns-in-Ok-false-clause-takes g c = λ was front b.
    let q = within (g.L.Listener.begins c.args.listener.now was) (g.L.Listener.stands c.args.listener.now was) c.args.self.now.body front b.stands_for in
    let used : c.min-used.result ≤ length c.args.piece.now = omega (arith, c.min-used.ensures) in
    let near = near_is c.args.piece.now c.split_at.result.0.now c.min-used.result used c.split_at.ensures.front in
    let le : length (front ++ c.split_at.result.0.now) ≤ c.args.self.now.body.reader.octets = omega (arith, near, q.all, q.fits, c.taken-done.ensures, c.min-used.ensures, length-append front c.split_at.result.0.now) in
    let f = subst (λ (b : Bool). Feeds (g.L.Listener.begins c.feed.new.listener was) (g.L.Listener.stands c.feed.new.listener was) (g.L.Listener.faulty c.feed.new.listener was) c.args.self.now.body c.feed.new.self front c.split_at.result.0.now (Ok b)) c.in-Ok-false.field-0-test (c.in-Ok-false.ensures was front b.stands_for le) in
    goes_on_reading (g.L.Listener.begins c.feed.new.listener was) (g.L.Listener.stands c.feed.new.listener was) (g.L.Listener.ends c.feed.new.listener was) (λ now. g.L.Listener.stands c.feed.new.listener now []) c.args.self.now.limit c.args.id c.min-used.result c.args.self.now.body (record { limit = c.args.self.now.limit; state = state.Reading c.args.id; body = c.feed.new.self }) front c.args.piece.now c.split_at.result.0.now b.passed (are_octets c.args.piece.now (λ i. c.type_inv.piece i)) (omega (arith, c.min-used.ensures, c.taken-done.ensures, q.all)) c.split_at.ensures.front refl f.0 f.1 f.2

pub returns-in-Err-Bad-clause-takes : goal.returns-in-Err-Bad-clause-takes
returns-in-Err-Bad-clause-takes g c = λ was front b.
    let q = within (g.L.Listener.begins c.args.listener.now was) (g.L.Listener.stands c.args.listener.now was) c.args.self.now.body front b.stands_for in
    let used : c.min-used.result ≤ length c.args.piece.now = omega (arith, c.min-used.ensures) in
    let near = near_is c.args.piece.now c.split_at.result.0.now c.min-used.result used c.split_at.ensures.front in
    let le : length (front ++ c.split_at.result.0.now) ≤ c.args.self.now.body.reader.octets = omega (arith, near, q.all, q.fits, c.taken-done.ensures, c.min-used.ensures, length-append front c.split_at.result.0.now) in
    let f = subst (λ (e : FrameErr). FailsHanded (g.L.Listener.stands c.feed.new.listener was) (g.L.Listener.faulty c.feed.new.listener was) c.args.self.now.body.reader.set (front ++ c.split_at.result.0.now) c.args.self.now.body.reader.octets e) c.in-Err-Bad.field-0-is (c.in-Err-Bad.ensures was front b.stands_for le) in
    rw c.after.ensures
    (goes_on_failed (g.L.Listener.begins c.feed.new.listener was) (g.L.Listener.stands c.feed.new.listener was) (g.L.Listener.ends c.feed.new.listener was) (λ now. g.L.Listener.stands c.feed.new.listener now []) c.args.self.now.limit c.args.id (c.taken-done.result + c.min-used.result) c.min-used.result c.args.self.now.body c.give_up-came.new.self front c.args.piece.now c.split_at.result.0.now c.split_at.result.1.now c.in-Err-Bad.fault c.give_up-came.result b.passed (omega (arith, q.all, c.taken-done.ensures)) f.0 c.give_up-came.ensures.raw f.1 used c.split_at.ensures.front c.split_at.ensures.back (c.give_up-came.ensures.set) (c.give_up-came.ensures.skips c.args.self.now.body.reader.set))

pub returns-in-Err-Bad-clause-refuses : goal.returns-in-Err-Bad-clause-refuses
returns-in-Err-Bad-clause-refuses g c = λ was front b.
    let q = within (g.L.Listener.begins c.args.listener.now was) (g.L.Listener.stands c.args.listener.now was) c.args.self.now.body front b.stands_for in
    let used : c.min-used.result ≤ length c.args.piece.now = omega (arith, c.min-used.ensures) in
    let near = near_is c.args.piece.now c.split_at.result.0.now c.min-used.result used c.split_at.ensures.front in
    let le : length (front ++ c.split_at.result.0.now) ≤ c.args.self.now.body.reader.octets = omega (arith, near, q.all, q.fits, c.taken-done.ensures, c.min-used.ensures, length-append front c.split_at.result.0.now) in
    let f = subst (λ (e : FrameErr). FailsHanded (g.L.Listener.stands c.feed.new.listener was) (g.L.Listener.faulty c.feed.new.listener was) c.args.self.now.body.reader.set (front ++ c.split_at.result.0.now) c.args.self.now.body.reader.octets e) c.in-Err-Bad.field-0-is (c.in-Err-Bad.ensures was front b.stands_for le) in
    let faulty = g.L.Listener.faulty c.feed.new.listener was in
    let set = c.args.self.now.body.reader.set in
    let limit = c.args.self.now.limit in
    let mid : List ℕ = front ++ c.split_at.result.0.now in
    let refused = body_refused faulty limit c.args.id c.args.self.now.body front c.split_at.result.0.now c.in-Err-Bad.fault b.passed f.2 in
    let ten : 10 ≤ length mid = omega (arith, b.passed.long, length-append front c.split_at.result.0.now) in
    let header : FaultyHeader = record { octets = c.args.self.now.body.reader.octets; id = c.args.id; fault = c.in-Err-Bad.fault } in
    rw c.after.ensures
    (refused_behind faulty set limit front c.args.piece.now mid c.split_at.result.1.now c.give_up-came.new.self.state c.give_up-came.result.used c.min-used.result c.give_up-came.result.outcome (ap (λ (x : List ℕ). front ++ x) c.split_at.ensures.front) c.split_at.ensures.back
    (skip_refused faulty set limit header mid c.split_at.result.1.now c.give_up-came.new.self.state c.give_up-came.result.used c.give_up-came.result.outcome ten c.give_up-came.ensures.fault refused))

pub returns-in-Ok-true-clause-refuses : goal.returns-in-Ok-true-clause-refuses
returns-in-Ok-true-clause-refuses g c = λ was front b. whole_refuses (g.L.Listener.faulty c.end.new.listener was) c.args.self.now.body.reader.set c.args.self.now.limit c.min-used.result front c.args.piece.now c.end.new.self c.end.result c.end.ensures.came

pub returns-in-Ok-true-clause-set : goal.returns-in-Ok-true-clause-set
returns-in-Ok-true-clause-set g c =
    let w = c.requires.some in
    let q = within (g.L.Listener.begins c.args.listener.now w.0) (g.L.Listener.stands c.args.listener.now w.0) c.args.self.now.body w.1 w.2.stands_for in
    let near = near_is c.args.piece.now c.split_at.result.0.now c.min-used.result (omega (arith, c.min-used.ensures)) c.split_at.ensures.front in
    let le : length (w.1 ++ c.split_at.result.0.now) ≤ c.args.self.now.body.reader.octets = omega (arith, near, q.all, q.fits, c.taken-done.ensures, c.min-used.ensures, length-append w.1 c.split_at.result.0.now) in
    let f = subst (λ (b : Bool). Feeds (g.L.Listener.begins c.feed.new.listener w.0) (g.L.Listener.stands c.feed.new.listener w.0) (g.L.Listener.faulty c.feed.new.listener w.0) c.args.self.now.body c.feed.new.self w.1 c.split_at.result.0.now (Ok b)) c.in-Ok-true.field-0-test (c.in-Ok-true.ensures w.0 w.1 w.2.stands_for le) in
    c.end.ensures.set ∙ f.2

pub returns-in-Ok-false-clause-set : goal.returns-in-Ok-false-clause-set
returns-in-Ok-false-clause-set g c =
    let w = c.requires.some in
    let q = within (g.L.Listener.begins c.args.listener.now w.0) (g.L.Listener.stands c.args.listener.now w.0) c.args.self.now.body w.1 w.2.stands_for in
    let near = near_is c.args.piece.now c.split_at.result.0.now c.min-used.result (omega (arith, c.min-used.ensures)) c.split_at.ensures.front in
    let le : length (w.1 ++ c.split_at.result.0.now) ≤ c.args.self.now.body.reader.octets = omega (arith, near, q.all, q.fits, c.taken-done.ensures, c.min-used.ensures, length-append w.1 c.split_at.result.0.now) in
    let f = subst (λ (b : Bool). Feeds (g.L.Listener.begins c.feed.new.listener w.0) (g.L.Listener.stands c.feed.new.listener w.0) (g.L.Listener.faulty c.feed.new.listener w.0) c.args.self.now.body c.feed.new.self w.1 c.split_at.result.0.now (Ok b)) c.in-Ok-false.field-0-test (c.in-Ok-false.ensures w.0 w.1 w.2.stands_for le) in
    f.2
