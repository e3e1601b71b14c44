-- What encode with labels did is what it does with the listing without them.
use Rattle.std.proofs.Common.{◌≡◌, ◌∙◌, ℕ, List, Bool, Some, ap, subst}
use Rattle.std.specs.Prelude.{Result}
use Rattle.llrp_schema.specs.declared.kinds.KindSet.{KindSet}
use Rattle.llrp_stream.specs.Device.{SourceLog, SinkLog}
use Rattle.llrp_stream.specs.Calls.Device.{new_source}
use Rattle.llrp_listing.specs.declared.outcome.ToolErr.{ToolErr}
use Rattle.llrp_commands.specs.Calls.Command.{DoesEncode}

-- what was encoded is a text in memory
pub encoded_plain : (hex : Bool) (p : KindSet) (limit : ℕ) (r0 s : SourceLog) (bytes items : List ℕ) (w0 w1 : SinkLog) (outcome : Result (Unit {0}) ToolErr) → r0 ≡ new_source (Some bytes) → bytes ≡ items → DoesEncode hex p limit r0 s w0 w1 outcome
    → DoesEncode hex p limit (new_source (Some items)) s w0 w1 outcome
encoded_plain hex p limit r0 s bytes items w0 w1 outcome e f h = subst (λ (r : SourceLog). DoesEncode hex p limit r s w0 w1 outcome) (e ∙ ap (λ (b : List ℕ). new_source (Some b)) f) h
