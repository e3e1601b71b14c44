-- What is determined by the segments that came.
use Rattle.std.specs.Prelude.{◌≡◌, ℕ, List}
use Rattle.llrp_capture.specs.Calls.Pieces.{Piece, IsRun, IsPlace}

abbrev pub HasOneRun : Type 0
HasOneRun = (pieces : List Piece) (start : ℕ) (a b : List ℕ) → IsRun pieces start a → IsRun pieces start b → a ≡ b

abbrev pub HasOnePlace : Type 0
HasOnePlace = (here sequence a b : ℕ) → IsPlace here sequence a → IsPlace here sequence b → a ≡ b
