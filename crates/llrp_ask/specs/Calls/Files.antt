-- The steps of a file, or why it has none.
use Rattle.std.specs.Prelude.{◌≡◌, ℕ, ◌-◌, ◌^◌, min, Bool, List}
use Rattle.llrp_texts.specs.declared.texts.TextErr.{TextErr}
use Rattle.llrp_texts.specs.declared.texts.TextErr.TheVariants.{Line, Memory}
use Rattle.llrp_ask.specs.Calls.File.{IsRefusedFile}

-- the text has no steps, for this reason: by the rules of files, or since memory ran out; no text has as many lines as a u64 counts
abbrev pub RefusesFile : Bool → List ℕ → TextErr → Type 0
RefusesFile raw text (Line line reason) = (number : ℕ) × IsRefusedFile raw text number reason × (line ≡ min number (2 ^ 64 - 1))
RefusesFile raw text Memory = Unit {0}
