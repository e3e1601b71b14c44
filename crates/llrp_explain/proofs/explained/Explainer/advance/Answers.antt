use Rattle.std.proofs.Common.{◌≡◌, ◌++◌, List, ℕ, [], length, take, inl, Some, None, ap, sym, ◌∙◌, subst, arith, refl, append_assoc}
use Rattle.std.proofs.lemmas.List.{take_all}
use Rattle.llrp_stream.specs.Calls.Frames.{EndsRefused, TakesOn}
use Rattle.llrp_explain.specs.declared.explained.Explainer.{Explainer}
use Rattle.llrp_explain.specs.Calls.Explaining.{ExplainedSoFar}
use Rattle.llrp_explain.specs.Calls.Printing.{Begins, IsRefusal, Stands}
use Rattle.llrp_explain.specs.Private.Printing.{Ends}
use Rattle.llrp_explain.proofs.ExplainedLemmas.{broken_after, by_own, comes_of, frame_came, given, more_came, more_octets, of_frame, room_of}
use Rattle.llrp_explain.proofs.explained.Explainer.advance.Goals as goal

pub feed-requires-clause-comes : goal.feed-requires-clause-comes
feed-requires-clause-comes c = let w = c.requires.some in comes_of c.args.self.now w.0 w.1 w.2

pub feed-requires-clause-least : goal.feed-requires-clause-least
feed-requires-clause-least c = let w = c.requires.some in let l = w.2.limit_is in omega (arith, l, c.requires.least)

pub feed-requires-clause-most : goal.feed-requires-clause-most
feed-requires-clause-most c = let w = c.requires.some in let l = w.2.limit_is in omega (arith, l, c.requires.most)

pub returns-in-Err-Broken-clause-goes : goal.returns-in-Err-Broken-clause-goes
returns-in-Err-Broken-clause-goes c = λ stream taken s room more.
    let new : Explainer = record c.args.self.now { frames = c.feed.new.self; printer = c.feed.new.listener } in
    let piece : List ℕ = c.args.piece.now in
    let stopped = rw c.in-Err-Broken.field-0-is at c.in-Err-Broken.ensures.stops in
    subst (λ (x : List ℕ). ExplainedSoFar new x taken) (sym (append_assoc stream piece more))
    (more_came c.args.self.now new stream taken (piece ++ more) s refl refl refl refl refl refl refl
    (broken_after c.args.self.now new stream taken piece more s stopped.0 (λ front comes. (rw c.in-Err-Broken.field-0-is at (c.in-Err-Broken.ensures.takes [] front comes)).0))
    (c.in-Err-Broken.ensures.set ∙ s.set_is) (c.in-Err-Broken.ensures.limit ∙ s.limit_is))

pub end_frame-requires-clause-some : goal.end_frame-requires-clause-some
end_frame-requires-clause-some c =
    let w = c.requires.some in
    let s = w.2 in
    let o = of_frame c.args.self.now w.0 w.1 s c.in-Ok.came _ (λ b. (c.in-Ok.ensures.broken b).0) in
    let t = rw c.in-Some.is at (c.in-Ok.ensures.takes [] s.front o.0) in
    let r = rw c.in-Some.is at (c.in-Ok.ensures.refuses [] s.front o.0 o.1) in
    let f = by_own c.feed.new.listener _ c.args.self.now.set _ c.args.self.now.limit c.feed.new.self.state s.front c.args.piece.now c.in-Ok.came.used (Some c.in-Some.outcome) s.set_is s.limit_is r in
    (s.front ++ take c.in-Ok.came.used c.args.piece.now, subst (λ (n : ℕ). Rattle.llrp_explain.specs.Private.Printing.IsGiven c.feed.new.listener c.args.self.now.set n (s.front ++ take c.in-Ok.came.used c.args.piece.now) c.in-Some.outcome) s.limit_is (given c.feed.new.listener c.args.self.now.set _ _ s.front c.args.piece.now c.feed.new.self.state c.in-Ok.came.used c.in-Some.outcome (c.in-Ok.ensures.set ∙ s.set_is) t.2 (subst (λ (n : ℕ). EndsRefused (IsRefusal c.feed.new.listener) c.args.self.now.set n s.front c.args.piece.now c.feed.new.self.state c.in-Ok.came.used (Some c.in-Some.outcome)) (sym s.limit_is) f)), t.1)

pub returns-in_ok-end_frame-clause-goes : goal.returns-in_ok-end_frame-clause-goes
returns-in_ok-end_frame-clause-goes c = λ stream taken s room.
    let o = of_frame c.args.self.now stream taken s c.in-Ok.came _ (λ b. (c.in-Ok.ensures.broken b).0) in
    let t = rw c.in-Some.is at (c.in-Ok.ensures.takes [] s.front o.0) in
    let r = rw c.in-Some.is at (c.in-Ok.ensures.refuses [] s.front o.0 o.1) in
    let f = by_own c.feed.new.listener _ c.args.self.now.set _ c.args.self.now.limit c.feed.new.self.state s.front c.args.piece.now c.in-Ok.came.used (Some c.in-Some.outcome) s.set_is s.limit_is r in
    let frame : List ℕ = s.front ++ take c.in-Ok.came.used c.args.piece.now in
    let g = subst (λ (n : ℕ). Rattle.llrp_explain.specs.Private.Printing.IsGiven c.feed.new.listener c.args.self.now.set n frame c.in-Some.outcome) s.limit_is (given c.feed.new.listener c.args.self.now.set _ _ s.front c.args.piece.now c.feed.new.self.state c.in-Ok.came.used c.in-Some.outcome (c.in-Ok.ensures.set ∙ s.set_is) t.2 (subst (λ (n : ℕ). EndsRefused (IsRefusal c.feed.new.listener) c.args.self.now.set n s.front c.args.piece.now c.feed.new.self.state c.in-Ok.came.used (Some c.in-Some.outcome)) (sym s.limit_is) f)) in
    let enough = room_of c.args.self.now stream taken c.args.piece.now c.in-Ok.came.used s o.2 room c.in-Ok.ensures.within t.1.header in
    let head = c.in_ok-keep_head.ensures s.front o.3 ∙ ap (λ (x : List ℕ). take 10 (s.front ++ x)) c.split_at.ensures.front in
    let same = c.in_ok-end_frame.ensures in
    frame_came c.args.self.now c.end_frame.new.self stream taken c.args.piece.now c.in-Ok.came.used s same.form same.only same.set same.limit (same.count enough.0) same.octets same.head t.1 (same.text frame g t.1 (c.saturating_add-self.ensures ∙ enough.1) head enough.0)
    (subst (λ x. Rattle.llrp_stream.specs.Calls.Frames.IsIdle x) (sym same.frames) t.3) (ap Rattle.llrp_stream.specs.Calls.Frames.set_of same.frames ∙ c.in-Ok.ensures.set ∙ s.set_is ∙ sym same.set) (ap Rattle.llrp_stream.specs.Calls.Frames.limit_of same.frames ∙ c.in-Ok.ensures.limit ∙ s.limit_is ∙ sym same.limit)

pub returns-in_default-clause-progress : goal.returns-in_default-clause-progress
returns-in_default-clause-progress c = λ some.
    let w = c.requires.some in
    let s = w.2 in
    let o = of_frame c.args.self.now w.0 w.1 s c.in-Ok.came _ (λ b. (c.in-Ok.ensures.broken b).0) in
    let t = rw c.in_default.is at (c.in-Ok.ensures.takes [] s.front o.0) in
    let all = t.0 in
    omega (arith, all, some)

pub returns-in_default-clause-goes : goal.returns-in_default-clause-goes
returns-in_default-clause-goes c = λ stream taken s room.
    let o = of_frame c.args.self.now stream taken s c.in-Ok.came _ (λ b. (c.in-Ok.ensures.broken b).0) in
    let t = rw c.in_default.is at (c.in-Ok.ensures.takes [] s.front o.0) in
    let r = rw c.in_default.is at (c.in-Ok.ensures.refuses [] s.front o.0 o.1) in
    let f = by_own c.feed.new.listener _ c.args.self.now.set _ c.args.self.now.limit c.feed.new.self.state s.front c.args.piece.now c.in-Ok.came.used None s.set_is s.limit_is r in
    let new : Explainer = record c.args.self.now { frames = c.feed.new.self; printer = c.feed.new.listener; octets = c.saturating_add-self.result; head = c.keep_head.new.head } in
    let all : c.in-Ok.came.used ≡ length c.args.piece.now = t.0 in
    let piece : take c.in-Ok.came.used c.args.piece.now ≡ c.args.piece.now = take_all c.in-Ok.came.used c.args.piece.now (omega (arith, all)) in
    subst (λ (x : List ℕ). ExplainedSoFar new (stream ++ x) taken) (sym piece)
    (more_came c.args.self.now new stream taken c.args.piece.now s refl refl refl refl refl refl refl
    (inl (subst (λ (n : ℕ). Rattle.llrp_stream.specs.Calls.Frames.ComesAt (Begins c.feed.new.listener) (Stands c.feed.new.listener) n c.feed.new.self.state c.feed.new.self.body (s.front ++ c.args.piece.now)) (sym c.in-Ok.ensures.limit) t.1, f, more_octets s.front c.args.piece.now c.args.self.now.octets c.in-Ok.came.used c.saturating_add-self.result o.2 all c.saturating_add-self.ensures, c.in_ok-keep_head.ensures s.front o.3 ∙ ap (λ (x : List ℕ). take 10 (s.front ++ x)) (c.split_at.ensures.front ∙ piece)))
    (c.in-Ok.ensures.set ∙ s.set_is) (c.in-Ok.ensures.limit ∙ s.limit_is))
