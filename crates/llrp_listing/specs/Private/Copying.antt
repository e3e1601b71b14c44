-- Beside Copying: words of private functions.
use Rattle.std.specs.Prelude.{◌≡◌, ℕ, List, ◌++◌}
use Rattle.llrp_stream.specs.Device.{SinkLog, Wrote}

-- a front of the bytes was written, and the others are left
abbrev pub HandsOn : List ℕ → List ℕ → SinkLog → SinkLog → Type 0
HandsOn old new w0 w1 = (front : List ℕ) × (old ≡ front ++ new) × Wrote w0 w1 front
