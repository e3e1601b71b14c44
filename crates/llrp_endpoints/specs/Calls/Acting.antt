-- What the code that lets a reader act promises.
use Rattle.std.specs.Prelude.{Result, Ok, Err, Bool, true, false}
use Rattle.llrp_listing.specs.declared.outcome.ToolErr.{ToolErr}
use Rattle.llrp_endpoints.specs.declared.serving.Phase.{Phase}
use Rattle.llrp_endpoints.specs.declared.serving.Phase.TheVariants.{Open, Closed, Failed}

-- the phase that an answer of `feed` leaves
abbrev pub phase_after : Result Bool ToolErr → Phase
phase_after (Ok false) = Open
phase_after (Ok true) = Closed
phase_after (Err error) = Failed error
