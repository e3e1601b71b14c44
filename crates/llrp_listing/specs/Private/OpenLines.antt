-- Lines that are open, as the encoder holds them, and how they are closed and begun.
use Rattle.std.specs.Prelude.{◌≡◌, ℕ, suc, ◌≤◌, List, [], ◌∷◌, ◌++◌, length, map, Some, None}
use Rattle.llrp_tree.specs.Tree as tree
use Rattle.llrp_tree.specs.Tree.{MessageTree}
use Rattle.llrp_listing.specs.declared.outcome.Refusal.{Refusal}
use Rattle.llrp_listing.specs.FirstRefusal.{Sound}
use Rattle.llrp_listing.specs.ListingRules.{row, lines_onto, closing}
use Rattle.llrp_listing.specs.NodeLine.{NodeLine}
use Rattle.llrp_listing.specs.OpenText.{Outline, end, OpenLine, OpenText, lines_covered}
use Rattle.llrp_listing.specs.Private.OpenTextSteps.{text_of, cut, put}

-- an open line with its number
pub record Entry : Type 0 where
  pub begun : OpenLine NodeLine
  pub number : ℕ

-- the lines of parameters
abbrev pub lines_below : List tree.Tree → Outline NodeLine
lines_below ts = lines_onto (tree.forest ts) end

abbrev pub entry : NodeLine → Outline NodeLine → ℕ → Entry
entry line below number = record { begun = record { head = line; below = below }; number = number }

abbrev pub chain : List Entry → List (OpenLine NodeLine)
chain es = map (λ e. e.begun) es

-- messages that are whole, and lines that are open
abbrev pub open_over : Outline NodeLine → List Entry → OpenText NodeLine
open_over whole es = text_of whole (chain es)

abbrev pub open_of : List MessageTree → List Entry → OpenText NodeLine
open_of done es = open_over (row done) es

-- each open line has the number of its line
abbrev pub AreNumbered : Outline NodeLine → List Entry → Type 0
AreNumbered whole [] = Unit {0}
AreNumbered whole (e ∷ outer) = (e.number ≡ suc (length (lines_covered (open_over whole outer)))) × AreNumbered whole outer

-- all that is whole can be closed
abbrev pub IsSound : ℕ → OpenText NodeLine → Type 0
IsSound limit o = Sound (closing limit) o

-- Lines were closed from the innermost on, and each could be.
pub record Closed (old new : List Entry) : Type 0 where
  pub fewer : length new ≤ length old
  pub is : (whole : Outline NodeLine) → cut (length new) (open_over whole old) ≡ open_over whole new
  pub sound : (limit : ℕ) (whole : Outline NodeLine) → IsSound limit (open_over whole old) → IsSound limit (open_over whole new)
  pub numbered : (whole : Outline NodeLine) → AreNumbered whole old → AreNumbered whole new

-- A line that was reached can't be closed.
pub record ClosingFails (limit depth : ℕ) (old : List Entry) (number : ℕ) (reason : Refusal) : Type 0 where
  pub top : Entry
  pub outer : List Entry
  pub closed : Closed old (top ∷ outer)
  pub reached : depth ≤ length outer
  pub number_is : number ≡ top.number
  pub refused : closing limit top.begun.head top.begun.below ≡ Some reason

-- the line can be closed
abbrev pub CanClose : ℕ → Entry → Type 0
CanClose limit e = closing limit e.begun.head e.begun.below ≡ None

-- The next line is open, messages were closed before it, and these bytes are theirs.
pub record Begins (limit : ℕ) (old new : List Entry) (level : ℕ) (line : NodeLine) (number : ℕ) (messages : List MessageTree) : Type 0 where
  pub is : (done : List MessageTree) → open_of (done ++ messages) new ≡ put (open_of done old) (level, line)
  pub sound : (done : List MessageTree) → IsSound limit (open_of done old) → IsSound limit (open_of (done ++ messages) new)
  pub numbered : (done : List MessageTree) → AreNumbered (row done) old → number ≡ suc (length (lines_covered (open_of done old))) → AreNumbered (row (done ++ messages)) new

-- All lines were closed, and with them these messages.
pub record AllClosed (limit : ℕ) (old : List Entry) (messages : List MessageTree) : Type 0 where
  pub is : (done : List MessageTree) → cut 0 (open_of done old) ≡ open_of (done ++ messages) []
  pub sound : (done : List MessageTree) → IsSound limit (open_of done old) → IsSound limit (open_of (done ++ messages) [])
