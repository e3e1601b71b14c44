-- Beside LineChecks: words of private functions.
use Rattle.std.specs.Prelude.{ℕ, List, Result, Ok, Err}
use Rattle.llrp_listing.specs.declared.outcome.Refusal.{Refusal}
use Rattle.llrp_listing.specs.NodeLine.{NumberForm, IsNumberText}
use Rattle.llrp_listing.specs.LineChecks.{IsInForm, HasNumber, TellsNumber}

-- ---- the checks of an ended line, in the order in which they are made

-- what is read of the word of a number: the number, or the reason that is given for the word
abbrev pub ReadsNumber : NumberForm → List ℕ → Result ℕ Refusal → Type 0
ReadsNumber form w (Ok n) = IsInForm form n × IsNumberText form n w
ReadsNumber form w (Err reason) = (¬ HasNumber form w) × TellsNumber form w reason
