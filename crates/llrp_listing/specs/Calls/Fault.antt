-- The errors of a decoder as those of a command.
use Rattle.llrp_stream.specs.declared.item.FeedErr.{FeedErr}
use Rattle.llrp_stream.specs.declared.item.FeedErr.TheVariants as decoder
use Rattle.llrp_listing.specs.declared.outcome.ToolErr.{ToolErr}
use Rattle.llrp_listing.specs.declared.outcome.ToolErr.TheVariants.{Broken, Memory}

-- the error of a decoder that takes nothing more
abbrev pub error_by : FeedErr → ToolErr
error_by decoder.Broken = Broken
error_by decoder.Memory = Memory
error_by decoder.Dead = Memory
