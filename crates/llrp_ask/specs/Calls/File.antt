-- A file of messages: listings, as `show --all` prints them, and between two of them a line of the file's own: a pause, or octets as they are.
use Rattle.std.specs.Prelude.{◌≡◌, ◌⊎◌, ℕ, ◌+◌, ◌<◌, ◌==◌, ◌&&◌, ◌||◌, Bool, true, if◌then◌else◌, List, [], ◌∷◌, ◌++◌, length, Some, None, count_by}
use Rattle.std.specs.List.{AllZip}
use Rattle.llrp_schema.specs.declared.kinds.KindSet.TheVariants.{Standard}
use Rattle.llrp_tree.specs.Tree.{MessageTree}
use Rattle.llrp_tree.specs.Frame.{Frame}
use Rattle.llrp_tree.specs.declared.TheConstants.{MAX_LIMIT}
use Rattle.llrp_listing.specs.declared.outcome.Refusal.{Refusal}
use Rattle.llrp_listing.specs.declared.outcome.Refusal.TheVariants.{Line}
use Rattle.llrp_listing.specs.Calls.ListingLaws.{IsListing, IsRefused}
use Rattle.llrp_listing.specs.Calls.Splits.{Lacks, IsSplit}
use Rattle.llrp_ask.specs.declared.step.Step.{Step}
use Rattle.llrp_ask.specs.declared.step.Wait.TheVariants.{Pause}
use Rattle.llrp_ask.specs.Calls.Pause.{IsPause}
use Rattle.llrp_ask.specs.Calls.Raw.{IsRaw, IsNoOwn}
use Rattle.llrp_ask.specs.Calls.Responses.{awaited}

-- ---- steps

-- The step sends the message's frame, and waits for its response if it has one.
pub record IsStepOf (m : MessageTree) (step : Step) : Type 0 where
  pub frame : Frame m step.octets.items MAX_LIMIT
  pub waits : step.wait ≡ awaited m

-- The step sends nothing, and waits for this many milliseconds.
pub record IsPauseStep (milliseconds : ℕ) (step : Step) : Type 0 where
  pub silent : step.octets.items ≡ []
  pub waits : step.wait ≡ Some (Pause milliseconds)

-- The step sends these octets, and waits for nothing.
pub record IsRawStep (octets : List ℕ) (step : Step) : Type 0 where
  pub sends : step.octets.items ≡ octets
  pub waits : step.wait ≡ None

-- a line of the file's own, without its LF, says this step
abbrev pub IsOwnLine : List ℕ → Step → Type 0
IsOwnLine line step = ((milliseconds : ℕ) × IsPause line milliseconds × IsPauseStep milliseconds step) ⊎ ((octets : List ℕ) × IsRaw line octets × IsRawStep octets step)

-- the text is a listing, of whose messages these are the steps
abbrev pub ListsSteps : List ℕ → List Step → Type 0
ListsSteps text steps = (ms : List MessageTree) × IsListing Standard MAX_LIMIT text ms × AllZip IsStepOf ms steps

-- ---- lines of the file's own: those that begin with = (61) and, where octets may stand in a file, with ! (33)

abbrev pub begins_own : Bool → ℕ → Bool
begins_own raw b = (b == 61) || (raw && (b == 33))

-- the octets before the first such line, where a line begins here or does not; 10 is LF
abbrev pub before_own : Bool → Bool → List ℕ → List ℕ
before_own raw starts [] = []
before_own raw starts (b ∷ bs) = if starts && begins_own raw b then [] else (b ∷ before_own raw (b == 10) bs)

-- that line, and all after it
abbrev pub from_own : Bool → Bool → List ℕ → List ℕ
from_own raw starts [] = []
from_own raw starts (b ∷ bs) = if starts && begins_own raw b then (b ∷ bs) else from_own raw (b == 10) bs

-- the lines before it
abbrev pub listed : Bool → List ℕ → List ℕ
listed raw text = before_own raw true text

-- how many lines a text has, each with its LF
abbrev pub lines_in : List ℕ → ℕ
lines_in text = count_by (λ b. b == 10) text

-- The text is a listing and a line of the file's own, and then this rest.
pub record BeginsWithOwn (raw : Bool) (text : List ℕ) (steps : List Step) (step : Step) (rest : List ℕ) : Type 0 where
  pub lists : ListsSteps (listed raw text) steps
  pub line : List ℕ
  pub split : IsSplit 10 (from_own raw true text) line rest
  pub own : IsOwnLine line step

-- ---- files, in which octets may stand or may not

-- the text asks for these steps
pub data IsFile (raw : Bool) : List ℕ → List Step → Type 0 where
  all_listed : (text : List ℕ) (steps : List Step) → ListsSteps text steps → IsFile raw text steps
  with_own : (text rest : List ℕ) (steps more : List Step) (step : Step) → BeginsWithOwn raw text steps step rest → IsFile raw rest more → IsFile raw text (steps ++ (step ∷ more))

-- the text is refused at this line, counted from 1, for this reason
pub data IsRefusedFile (raw : Bool) : List ℕ → ℕ → Refusal → Type 0 where
  -- a line of a listing, for the reason that `encode --all` has
  no_listing : (text : List ℕ) (ms : List MessageTree) (line : ℕ) (reason : Refusal) → IsRefused Standard MAX_LIMIT (listed raw text) line reason ms → IsRefusedFile raw text line reason
  -- a line of its own that has no LF
  unended : (text : List ℕ) (steps : List Step) → ListsSteps (listed raw text) steps → 0 < length (from_own raw true text) → Lacks 10 (from_own raw true text) → IsRefusedFile raw text (lines_in (listed raw text) + 1) Line
  -- a line that begins as one of its own and is none
  no_own : (text line rest : List ℕ) (steps : List Step) (reason : Refusal) → ListsSteps (listed raw text) steps → IsSplit 10 (from_own raw true text) line rest → IsNoOwn line reason → IsRefusedFile raw text (lines_in (listed raw text) + 1) reason
  -- a line after one of its own
  later : (text rest : List ℕ) (steps : List Step) (step : Step) (line : ℕ) (reason : Refusal) → BeginsWithOwn raw text steps step rest → IsRefusedFile raw rest line reason → IsRefusedFile raw text (lines_in (listed raw text) + 1 + line) reason
