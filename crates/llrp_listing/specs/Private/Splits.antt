-- Beside Calls/Splits: words of private functions.
use Rattle.std.specs.Prelude.{ℕ, List, [], Option, Some, None}
use Rattle.std.specs.Borrow.{Bor}
use Rattle.llrp_listing.specs.Lines.{words}

-- the words that are left, if some are
abbrev pub words_in : Option (Bor (List ℕ)) → List (List ℕ)
words_in None = []
words_in (Some rest) = words rest.now
