-- Beside Calls/Command: words of private functions.
use Rattle.std.specs.Prelude.{ℕ, List, Result, Ok, Err}
use Rattle.llrp_schema.specs.declared.kinds.KindSet.{KindSet}
use Rattle.llrp_listing.specs.declared.outcome.ToolErr.{ToolErr}
use Rattle.llrp_listing.specs.declared.outcome.ToolErr.TheVariants.{Listing, Script, Hex, Read, Write, Bound, Memory, Broken, Peer, Strange, Early}
use Rattle.llrp_listing.specs.Copying.{ReadAll}
use Rattle.llrp_stream.specs.Device.{SourceLog}
use Rattle.llrp_listing.specs.Encoding.{EncodesIn}
use Rattle.llrp_commands.specs.Calls.Command.{NotEncoded}

-- the encoding of all that was read, or why there is none
abbrev pub Gathers : KindSet → ℕ → SourceLog → SourceLog → Result (List ℕ) ToolErr → Type 0
Gathers p limit r0 r1 (Ok bytes) = (text : List ℕ) × ReadAll r0 r1 text × EncodesIn p limit text bytes
Gathers p limit r0 r1 (Err error) = NotEncoded p limit r0 r1 error

-- where memory takes what is written, a failed write is that of memory
abbrev pub memory_error : ToolErr → ToolErr
memory_error Write = Memory
memory_error (Listing line reason) = Listing line reason
memory_error (Script line) = Script line
memory_error Hex = Hex
memory_error Broken = Broken
memory_error (Peer status) = Peer status
memory_error Strange = Strange
memory_error Early = Early
memory_error Read = Read
memory_error Bound = Bound
memory_error Memory = Memory
