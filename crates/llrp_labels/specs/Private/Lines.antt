-- A line whose labels are taken off.
use Rattle.std.specs.Prelude.{◌≡◌, ℕ, List, ◌++◌, Result, Ok, Err}
use Rattle.llrp_labels.specs.declared.labels.Labels.{Labels}
use Rattle.llrp_labels.specs.declared.fault.PlainErr.{PlainErr}
use Rattle.llrp_labels.specs.declared.fault.PlainErr.TheVariants as err
use Rattle.llrp_labels.specs.declared.plain.LineErr.{LineErr}
use Rattle.llrp_labels.specs.declared.plain.LineErr.TheVariants.{Refused, Memory}
use Rattle.llrp_labels.specs.LabelledLines.{ReadsLine, RefusesLine}

-- the line without labels was appended, or the line is refused, or memory ran out
abbrev pub PlainOf : Labels → List ℕ → List ℕ → List ℕ → Result (Unit {0}) LineErr → Type 0
PlainOf labels line old new (Ok u) = (plain : List ℕ) × ReadsLine labels line plain × (new ≡ old ++ plain)
PlainOf labels line old new (Err (Refused fault)) = RefusesLine labels line fault
PlainOf labels line old new (Err Memory) = Unit {0}

-- the error of the line with this number
abbrev pub error_at : ℕ → LineErr → PlainErr
error_at number (Refused fault) = err.Line number fault
error_at number Memory = err.Memory
