-- How a run ends whose memory ran out before there was a command to say so.
use Rattle.std.specs.Prelude.{◌≡◌, ℕ, ◌⊎◌, List}
use Rattle.llrp_stream.specs.Device.{SinkLog, Wrote, WroteAndFailed}
use Rattle.llrp_listing.specs.Copying.{IsPrefix}
use Rattle.llrp_listing.specs.declared.outcome.ToolErr.TheVariants.{Memory}
use Rattle.llrp_commands.specs.Calls.Command.{error_line}

-- The exit status is 3. The line of refused memory was written to the sink for errors, or a write failed after a front of it.
abbrev pub EndsWithoutMemory : SinkLog → SinkLog → ℕ → Type 0
EndsWithoutMemory e0 e1 status =
    (status ≡ 3)
    × (Wrote e0 e1 (error_line Memory)
    ⊎ ((front : List ℕ) × IsPrefix front (error_line Memory) × WroteAndFailed e0 e1 front))
