-- Beside Calls/Doings: words of private functions.
use Rattle.std.specs.Prelude.{◌≡◌}
use Rattle.llrp_session.specs.Calls.ReaderSteps.{event_of}
use Rattle.llrp_live.specs.declared.doing.Doing.{Doing as Code}
use Rattle.llrp_live.specs.declared.doing.Doing.TheVariants as code
use Rattle.llrp_live.specs.Calls.Doings.{Doing, Answers, Happens}

-- what the code has for a doing
abbrev pub IsDoing : Code → Doing → Type 0
IsDoing (code.Answer replies) d = d ≡ Answers replies.items
IsDoing (code.Happen event) d = d ≡ Happens (event_of event)
