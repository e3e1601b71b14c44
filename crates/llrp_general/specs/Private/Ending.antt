-- How a client is served on after an error.
use Rattle.std.specs.Prelude.{Result, Ok, Err}
use Rattle.llrp_stream.specs.declared.item.FeedErr.{FeedErr}
use Rattle.llrp_stream.specs.declared.item.FeedErr.TheVariants as decoder
use Rattle.llrp_listing.specs.declared.outcome.ToolErr.{ToolErr}
use Rattle.llrp_listing.specs.declared.outcome.ToolErr.TheVariants.{Memory}
use Rattle.llrp_general.specs.declared.serving.Going.{Going}
use Rattle.llrp_general.specs.declared.serving.Going.TheVariants as going

-- by the error of the decoder
abbrev pub end_of : FeedErr → Result Going ToolErr
end_of decoder.Broken = Ok going.Broken
end_of decoder.Memory = Err Memory
end_of decoder.Dead = Err Memory
