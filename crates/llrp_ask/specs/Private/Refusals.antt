-- Errors at a line of a file.
use Rattle.std.specs.Prelude.{◌≡◌, ℕ, ◌+◌, ◌-◌, ◌^◌, min, List}
use Rattle.llrp_texts.specs.declared.texts.TextErr.{TextErr}
use Rattle.llrp_texts.specs.declared.texts.TextErr.TheVariants.{Line, Memory}
use Rattle.llrp_ask.specs.Calls.Raw.{IsNoOwn}

-- an error at a line that comes after this many
abbrev pub later_by : ℕ → TextErr → TextErr
later_by lines (Line line reason) = Line (min (lines + line) (2 ^ 64 - 1)) reason
later_by lines Memory = Memory

-- a line of the file's own with this number is refused, or memory ran out
abbrev pub RefusesOwn : List ℕ → ℕ → TextErr → Type 0
RefusesOwn line number (Line at reason) = (at ≡ number) × IsNoOwn line reason
RefusesOwn line number Memory = Unit {0}
