-- How the next of several general clients is served.
use Rattle.std.specs.Prelude.{List, Option, Some, None, Result}
use Rattle.llrp_session.specs.ReaderMachine.{Reader}
use Rattle.llrp_listing.specs.declared.outcome.ToolErr.{ToolErr}
use Rattle.llrp_answers.specs.declared.answers.Pair.{Pair}
use Rattle.llrp_endpoints.specs.declared.script.Entry.{Entry}
use Rattle.llrp.specs.Calls.GeneralClients.{ServesGeneral}

-- It was served; nothing is said of a network that failed.
abbrev pub MayServeGeneral : List Pair → List Entry → Reader → Option (Result (Unit {0}) ToolErr × Reader) → Type 0
MayServeGeneral answers entries core None = Unit {0}
MayServeGeneral answers entries core (Some served) = ServesGeneral answers entries core served.1 served.0
