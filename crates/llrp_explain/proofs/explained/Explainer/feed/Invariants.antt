use Rattle.std.proofs.Common.{◌≡◌, ℕ, ◌<◌, List, ◌++◌, length}
use Rattle.llrp_explain.specs.Calls.Explaining.{ExplainedSoFar}
use Rattle.llrp_explain.proofs.explained.Explainer.feed.Given as goal

abbrev pub invariant-frames : goal.invariant-frames
invariant-frames l = record {
  done : List ℕ;
  parts : l.piece ≡ done ++ l.rest;
  form : l.self.form ≡ l.fn.self.form;
  only : l.self.only ≡ l.fn.self.only;
  set : l.self.set ≡ l.fn.self.set;
  limit : l.self.limit ≡ l.fn.self.limit;
  goes : (stream taken : List ℕ) → ExplainedSoFar l.fn.self stream taken → length (stream ++ l.piece) < 18446744073709551616 → ExplainedSoFar l.self (stream ++ done) taken;
}

abbrev pub decreases-frames : goal.decreases-frames
decreases-frames l = length l.rest
