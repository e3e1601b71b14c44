-- Encoding a listing that is in memory.
use Rattle.std.specs.Prelude.{ℕ, ◌⊎◌, List}
use Rattle.llrp_schema.specs.declared.kinds.KindSet.{KindSet}
use Rattle.llrp_stream.specs.Device.{SinkLog, Wrote, WroteAndFailed}
use Rattle.llrp_listing.specs.declared.outcome.ToolErr.{ToolErr}
use Rattle.llrp_listing.specs.declared.outcome.ToolErr.TheVariants.{Listing, Write, Memory}
use Rattle.llrp_listing.specs.Copying.{IsPrefix}
use Rattle.llrp_listing.specs.Encoding.{BeginsEncoding, EncodesIn, RefusesIn}

-- the encoder stopped at the end of this text
abbrev pub StoppedAtEnd : KindSet → ℕ → SinkLog → SinkLog → List ℕ → ToolErr → Type 0
StoppedAtEnd p limit w0 w1 text (Listing line reason) = (bytes : List ℕ) × Wrote w0 w1 bytes × RefusesIn p limit text line reason bytes
StoppedAtEnd p limit w0 w1 text Write = (bytes : List ℕ) × WroteAndFailed w0 w1 bytes × (BeginsEncoding p limit text bytes ⊎ ((spellings : List ℕ) × EncodesIn p limit text spellings × IsPrefix bytes spellings))
StoppedAtEnd p limit w0 w1 text Memory = (bytes : List ℕ) × Wrote w0 w1 bytes × BeginsEncoding p limit text bytes
StoppedAtEnd p limit w0 w1 text _ = ⊥

-- the encoding of the text was written
abbrev pub WroteEncoding : KindSet → ℕ → SinkLog → SinkLog → List ℕ → Type 0
WroteEncoding p limit w0 w1 text = (bytes : List ℕ) × EncodesIn p limit text bytes × Wrote w0 w1 bytes
