use Rattle.std.proofs.Common.{◌≡◌, ℕ, ◌<◌, List, [], ◌++◌, length, take, refl, sym, ap, ◌∙◌, subst, append_assoc}
use Rattle.std.proofs.lemmas.List.{append-nil, take-append-drop}
use Rattle.llrp_explain.specs.Calls.Explaining.{ExplainedSoFar}
use Rattle.llrp_explain.proofs.explained.Explainer.feed.Goals as goal

pub frames-init : goal.frames-init
frames-init c = record { done = []; parts = refl; form = refl; only = refl; set = refl; limit = refl; goes = λ stream taken s room. subst (λ (x : List ℕ). ExplainedSoFar c.args.self.now x taken) (sym (append-nil stream)) s }

pub advance-requires-clause-some : goal.advance-requires-clause-some
advance-requires-clause-some c = let w = c.requires.some in (w.0 ++ c.frames.invariant.done, w.1, c.frames.invariant.goes w.0 w.1 w.2 w.3)

pub frames-preserved : goal.frames-preserved
frames-preserved c =
    let done : List ℕ = c.frames.invariant.done in
    let rest : List ℕ = c.frames.rest.now in
    let used : ℕ = c.in-Some.used in
    let near : List ℕ = take used rest in
    let parts = c.frames.invariant.parts in
    record {
      done = done ++ near;
      parts = parts ∙ ap (λ (x : List ℕ). done ++ x) (sym (take-append-drop used rest) ∙ ap (λ (x : List ℕ). near ++ x) (sym c.split_at.ensures.back)) ∙ sym (append_assoc done near c.split_at.result.1.now);
      form = c.in_ok-used.ensures.form ∙ c.frames.invariant.form;
      only = c.in_ok-used.ensures.only ∙ c.frames.invariant.only;
      set = c.in_ok-used.ensures.set ∙ c.frames.invariant.set;
      limit = c.in_ok-used.ensures.limit ∙ c.frames.invariant.limit;
      goes = λ stream taken s room.
          let before = c.frames.invariant.goes stream taken s room in
          let whole : (stream ++ done) ++ rest ≡ stream ++ c.args.piece.now = append_assoc stream done rest ∙ ap (λ (x : List ℕ). stream ++ x) (sym parts) in
          let few = subst (λ (x : List ℕ). length x < 18446744073709551616) (sym whole) room in
          let step = rw c.in-Some.is at (c.in_ok-used.ensures.goes (stream ++ done) taken before few) in
          subst (λ (x : List ℕ). ExplainedSoFar c.advance.new.self x taken) (append_assoc stream done near) step;
    }

pub returns-in_default-clause-goes : goal.returns-in_default-clause-goes
returns-in_default-clause-goes c = λ stream taken s room.
    let done : List ℕ = c.frames.invariant.done in
    let rest : List ℕ = c.frames.rest.now in
    let before = c.frames.invariant.goes stream taken s room in
    let whole : (stream ++ done) ++ rest ≡ stream ++ c.args.piece.now = append_assoc stream done rest ∙ ap (λ (x : List ℕ). stream ++ x) (sym c.frames.invariant.parts) in
    let few = subst (λ (x : List ℕ). length x < 18446744073709551616) (sym whole) room in
    let step = rw c.in_default.is at (c.in_ok-used.ensures.goes (stream ++ done) taken before few) in
    subst (λ (x : List ℕ). ExplainedSoFar c.advance.new.self x taken) (append-nil ((stream ++ done) ++ rest) ∙ whole) (step [])

pub returns-in_default-clause-stopped : goal.returns-in_default-clause-stopped
returns-in_default-clause-stopped c = λ stops stream taken others s room.
    let done : List ℕ = c.frames.invariant.done in
    let rest : List ℕ = c.frames.rest.now in
    let before = c.frames.invariant.goes stream taken s room in
    let whole : (stream ++ done) ++ rest ≡ stream ++ c.args.piece.now = append_assoc stream done rest ∙ ap (λ (x : List ℕ). stream ++ x) (sym c.frames.invariant.parts) in
    let few = subst (λ (x : List ℕ). length x < 18446744073709551616) (sym whole) room in
    let step = rw c.in_default.is at (c.in_ok-used.ensures.goes (stream ++ done) taken before few) in
    subst (λ (x : List ℕ). ExplainedSoFar c.advance.new.self (x ++ others) taken) whole (step others)
