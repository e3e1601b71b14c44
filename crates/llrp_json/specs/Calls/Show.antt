-- Beside JsonLines: what contracts say that no promise rests on.
use Rattle.std.specs.Prelude.{ℕ, List}
use Rattle.llrp_schema.specs.declared.kinds.KindSet.{KindSet}
use Rattle.llrp_stream.specs.Device.{SinkLog}
use Rattle.llrp_listing.specs.declared.outcome.ToolErr.{ToolErr}
use Rattle.llrp_listing.specs.declared.outcome.Verdict.{Verdict}
use Rattle.llrp_listing.specs.Show.{ListedAs, StoppedAs}
use Rattle.llrp_json.specs.JsonLines.{IsItemJson, end_json}

abbrev pub ListedJson : KindSet → ℕ → List ℕ → SinkLog → SinkLog → Verdict → Type 0
ListedJson p limit bytes old new verdict = ListedAs IsItemJson end_json p limit bytes old new verdict

abbrev pub StoppedJson : KindSet → ℕ → List ℕ → SinkLog → SinkLog → ToolErr → Type 0
StoppedJson p limit bytes old new error = StoppedAs IsItemJson end_json p limit bytes old new error
