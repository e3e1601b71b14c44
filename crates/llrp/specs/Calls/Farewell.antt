-- What a client says last to a reader whose connection stands.
use Rattle.std.specs.Prelude.{◌≡◌, ℕ, ◌⊎◌, Bool, true, false, List, [], ◌++◌, Result, Ok, Err, codes, decimal}
use Rattle.llrp_stream.specs.Device.{SinkLog}
use Rattle.llrp_schema.specs.declared.kinds.KindSet.TheVariants.{Profile}
use Rattle.llrp_listing.specs.declared.outcome.ToolErr.{ToolErr}
use Rattle.llrp_listing.specs.declared.outcome.ToolErr.TheVariants.{Memory}
use Rattle.llrp_listing.specs.Calls.MemoryListing.{StoppedAtEnd, WroteEncoding}
use Rattle.llrp_commands.specs.declared.command.TheConstants.{LIMIT}

-- the line of DISABLE_ROSPEC for this ROSpec, if it is disabled
abbrev pub disabling_text : (disables : Bool) → ℕ → List ℕ
disabling_text true id = codes "0 DISABLE_ROSPEC 1 4294967293 " ++ (decimal id ++ codes "\n")
disabling_text false id = []

-- after it those of DELETE_ROSPEC, and of CLOSE_CONNECTION
abbrev pub farewell_text : (disables : Bool) → ℕ → List ℕ
farewell_text disables id = disabling_text disables id ++ (codes "0 DELETE_ROSPEC 1 4294967294 " ++ (decimal id ++ codes "\n0 CLOSE_CONNECTION 1 4294967295\n"))

-- Their octets were written; or why not all of them.
abbrev pub Leaves : (disables : Bool) → ℕ → SinkLog → SinkLog → Result (Unit {0}) ToolErr → Type 0
Leaves disables id w0 w1 (Ok done) = WroteEncoding Profile LIMIT w0 w1 (farewell_text disables id)
Leaves disables id w0 w1 (Err error) = ((error ≡ Memory) × (w1 ≡ w0)) ⊎ StoppedAtEnd Profile LIMIT w0 w1 (farewell_text disables id) error
