-- What is explained of a stream that comes in pieces.
use Rattle.std.specs.Prelude.{◌≡◌, ◌⊎◌, ℕ, List, ◌++◌, length, min, take}
use Rattle.std.specs.List.{AllByRecursion}
use Rattle.llrp_stream.specs.Cuts.{IsFrame, Breaks, joined}
use Rattle.llrp_stream.specs.Calls.Frames.{ComesTo, IsBroken, IsRefusedAt, limit_of, set_of}
use Rattle.llrp_explain.specs.declared.explained.Explainer.{Explainer}
use Rattle.llrp_explain.specs.Calls.Explained.{AreExplained}
use Rattle.llrp_explain.specs.Calls.Printing.{Begins, IsRefusal, Stands}

-- This front of a frame came, of which its first ten octets are kept (among them the id), or one that no frame has.
abbrev pub StandsAt : Explainer → List ℕ → Type 0
StandsAt explainer front =
    (ComesTo (Begins explainer.printer) (Stands explainer.printer) explainer.frames front × IsRefusedAt (IsRefusal explainer.printer) explainer.set explainer.limit explainer.frames.state front × (explainer.octets ≡ min (length front) 18446744073709551615) × (explainer.head.items ≡ take 10 front))
    ⊎ (IsBroken explainer.frames × Breaks front)

-- Of a stream that began so, the text of the whole frames was written: what was taken of it, and what is kept.
pub record ExplainedSoFar (explainer : Explainer) (stream taken : List ℕ) : Type 0 where
  pub parts : List (List ℕ)
  pub front : List ℕ
  pub whole : stream ≡ joined parts ++ front
  pub each : AllByRecursion IsFrame parts
  pub are : AreExplained explainer.form explainer.only explainer.set explainer.limit 1 parts (taken ++ explainer.text.items) explainer.lawful
  pub count_is : explainer.count ≡ length parts
  pub stands : StandsAt explainer front
  pub set_is : set_of explainer.frames ≡ explainer.set
  pub limit_is : limit_of explainer.frames ≡ explainer.limit
