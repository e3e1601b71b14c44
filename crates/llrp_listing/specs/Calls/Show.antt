-- Beside Show: what contracts say that no promise rests on.
use Rattle.std.specs.Prelude.{ℕ, List}
use Rattle.llrp_schema.specs.declared.kinds.KindSet.{KindSet}
use Rattle.llrp_schema.specs.declared.kinds.KindSet.TheVariants.{Profile}
use Rattle.llrp_stream.specs.Device.{SinkLog}
use Rattle.llrp_listing.specs.declared.outcome.ToolErr.{ToolErr}
use Rattle.llrp_listing.specs.declared.outcome.Verdict.{Verdict}
use Rattle.llrp_listing.specs.Show.{ListedAs, StoppedAs}
use Rattle.llrp_listing.specs.StreamListing.{IsItemText, end_text}

-- ---- of listings

abbrev pub ListedIn : KindSet → ℕ → List ℕ → SinkLog → SinkLog → Verdict → Type 0
ListedIn p limit bytes old new verdict = ListedAs IsItemText end_text p limit bytes old new verdict

abbrev pub StoppedIn : KindSet → ℕ → List ℕ → SinkLog → SinkLog → ToolErr → Type 0
StoppedIn p limit bytes old new error = StoppedAs IsItemText end_text p limit bytes old new error

-- ---- of the profile

abbrev pub Listed : ℕ → List ℕ → SinkLog → SinkLog → Verdict → Type 0
Listed limit bytes old new verdict = ListedIn Profile limit bytes old new verdict

abbrev pub Stopped : ℕ → List ℕ → SinkLog → SinkLog → ToolErr → Type 0
Stopped limit bytes old new error = StoppedIn Profile limit bytes old new error
