-- What is taken of a piece of a stream at a time.
use Rattle.std.specs.Prelude.{ℕ, List, ◌++◌, take, Option, Some, None}
use Rattle.llrp_explain.specs.declared.explained.Explainer.{Explainer}
use Rattle.llrp_explain.specs.Calls.Explaining.{ExplainedSoFar}

-- This many octets of a piece were taken; or no frame begins with it, whatever follows.
abbrev pub IsStep : Explainer → (stream taken piece : List ℕ) → Option ℕ → Type 0
IsStep explainer stream taken piece None = (more : List ℕ) → ExplainedSoFar explainer ((stream ++ piece) ++ more) taken
IsStep explainer stream taken piece (Some used) = ExplainedSoFar explainer (stream ++ take used piece) taken
