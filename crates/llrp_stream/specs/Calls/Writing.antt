-- What it is to write bytes, and the frame of a message, to a sink.
use Rattle.std.specs.Prelude.{◌≡◌, ℕ, ◌<◌, List, ◌++◌, Result, Ok, Err}
use Rattle.llrp_tree.specs.Tree.{MessageTree}
use Rattle.llrp_tree.specs.Lawful.{message_octets}
use Rattle.llrp_tree.specs.Frame.{Frame}
use Rattle.llrp_stream.specs.declared.message_writer.WriteErr.{WriteErr}
use Rattle.llrp_stream.specs.declared.message_writer.WriteErr.TheVariants.{OverLimit, Write}
use Rattle.llrp_stream.specs.declared.message_writer.WriteFailed.{WriteFailed}
use Rattle.llrp_stream.specs.Device.{SinkLog, Wrote, WroteAndFailed}

-- A front of the bytes was written, and then a write failed.
pub record Failed (bytes : List ℕ) (old new : SinkLog) : Type 0 where
  pub front : List ℕ
  pub back : List ℕ
  pub parts : bytes ≡ front ++ back
  pub written : WroteAndFailed old new front

-- All the bytes were written, or a write failed after a front of them.
abbrev pub WritesAll : List ℕ → SinkLog → SinkLog → Result (Unit {0}) WriteFailed → Type 0
WritesAll bytes old new (Ok u) = Wrote old new bytes
WritesAll bytes old new (Err failed) = Failed bytes old new

-- The frame of the message was written, or a front of it where a write failed; where it is longer than the limit,
-- nothing.
abbrev pub WritesFrame : MessageTree → ℕ → SinkLog → SinkLog → Result (Unit {0}) WriteErr → Type 0
WritesFrame m limit old new (Ok u) = (bytes : List ℕ) × Frame m bytes limit × Wrote old new bytes
WritesFrame m limit old new (Err Write) = (bytes : List ℕ) × Frame m bytes limit × Failed bytes old new
WritesFrame m limit old new (Err OverLimit) = (limit < message_octets m) × (new ≡ old)
