-- The frame of a line that is printed.
use Rattle.std.specs.Prelude.{◌≡◌, ℕ, List, ◌++◌, Bool, true, false}
use Rattle.llrp_schema.specs.declared.kinds.KindSet.{KindSet}
use Rattle.llrp_tree.specs.Frame.{Frame}
use Rattle.llrp_tree.specs.Tree.{MessageTree}
use Rattle.llrp_json_read.specs.JsonLine.{SaysLine}

-- the line says the message with this frame
abbrev pub IsLineOf : KindSet → ℕ → MessageTree → List ℕ → List ℕ → Type 0
IsLineOf p limit m frame line = SaysLine p line m × Frame m frame limit

-- the frame of the line was appended, or nothing was
abbrev pub AppendsLine : KindSet → ℕ → (line old new : List ℕ) → Bool → Type 0
AppendsLine p limit line old new true = (m : MessageTree) × (frame : List ℕ) × SaysLine p line m × Frame m frame limit × (new ≡ old ++ frame)
AppendsLine p limit line old new false = new ≡ old
