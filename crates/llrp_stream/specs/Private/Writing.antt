-- Beside Calls/Writing: words of private functions.
use Rattle.std.specs.Prelude.{ℕ, List, Result, Ok, Err}
use Rattle.llrp_stream.specs.declared.message_writer.WriteErr.{WriteErr}
use Rattle.llrp_stream.specs.declared.message_writer.WriteErr.TheVariants.{OverLimit, Write}
use Rattle.llrp_stream.specs.Device.{SinkLog, Wrote}
use Rattle.llrp_stream.specs.Calls.Writing.{Failed}

-- All the bytes were written, or a write failed.
abbrev pub Written : List ℕ → SinkLog → SinkLog → Result (Unit {0}) WriteErr → Type 0
Written bytes old new (Ok u) = Wrote old new bytes
Written bytes old new (Err Write) = Failed bytes old new
Written bytes old new (Err OverLimit) = ⊥
