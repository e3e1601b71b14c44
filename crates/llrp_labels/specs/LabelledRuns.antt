-- What is read of a source and written to a sink where a listing has labels.
use Rattle.std.specs.Prelude.{◌≡◌, ◌⊎◌, ℕ, List, ◌++◌, Bool, true, false, codes, Result, Ok, Err}
use Rattle.llrp_schema.specs.declared.kinds.KindSet.{KindSet}
use Rattle.llrp_stream.specs.Device.{SourceLog, SinkLog}
use Rattle.llrp_listing.specs.declared.outcome.ToolErr.{ToolErr}
use Rattle.llrp_listing.specs.declared.outcome.ToolErr.TheVariants.{Hex, Memory}
use Rattle.llrp_listing.specs.declared.outcome.Verdict.{Verdict}
use Rattle.llrp_listing.specs.Copying.{ReadAll}
use Rattle.llrp_listing.specs.Calls.Copying.{ReadStopped}
use Rattle.llrp_listing.specs.Calls.Hexadecimal.{IsHexOf, IsNoHex}
use Rattle.tag_schemes.specs.Calls.Faults.{scheme_fault_name}
use Rattle.llrp_labels.specs.declared.labels.Labels.{Labels}
use Rattle.llrp_labels.specs.declared.fault.LabelErr.{LabelErr}
use Rattle.llrp_labels.specs.declared.fault.LabelErr.TheVariants.{Line, Stopped}
use Rattle.llrp_labels.specs.declared.fault.LabelFault.{LabelFault}
use Rattle.llrp_labels.specs.declared.fault.LabelFault.TheVariants as fault
use Rattle.llrp_labels.specs.LabelledTexts.{IsPlainText, ListsLabelled, RefusesAt}

-- the octets that were read, or with --hex those that their digits spell
abbrev pub AreOctets : Bool → (input octets : List ℕ) → Type 0
AreOctets false input octets = octets ≡ input
AreOctets true input octets = IsHexOf input octets

-- What showing a source did: it stopped while it read; or it read all, of which no octets were made, or whose listing it wrote with labels.
abbrev pub ShowsLabelled : Labels → Bool → KindSet → (limit : ℕ) → SourceLog → SourceLog → SinkLog → SinkLog → Result Verdict ToolErr → Type 0
ShowsLabelled labels hex p limit r0 r1 w0 w1 outcome =
    ((input : List ℕ) × (error : ToolErr) × (outcome ≡ Err error) × ReadStopped r0 r1 input error × (w1 ≡ w0))
    ⊎ ((input : List ℕ) × (error : ToolErr) × (outcome ≡ Err error) × ReadAll r0 r1 input × (w1 ≡ w0) × (hex ≡ true) × ((error ≡ Memory) ⊎ ((error ≡ Hex) × IsNoHex input)))
    ⊎ ((input octets : List ℕ) × ReadAll r0 r1 input × AreOctets hex input octets × ListsLabelled labels p limit octets w0 w1 outcome)

-- What reading a listing with labels answers: the listing without them, or why there is none.
abbrev pub ReadsPlain : {A : Type 0} → (A → List ℕ) → Labels → SourceLog → SourceLog → Result A LabelErr → Type 0
ReadsPlain items labels r0 r1 (Ok plain) = (text : List ℕ) × ReadAll r0 r1 text × IsPlainText labels text (items plain)
ReadsPlain items labels r0 r1 (Err (Line number f)) = (text : List ℕ) × ReadAll r0 r1 text × RefusesAt labels text number f
ReadsPlain items labels r0 r1 (Err (Stopped error)) = (text : List ℕ) × (ReadStopped r0 r1 text error ⊎ (ReadAll r0 r1 text × (error ≡ Memory)))

-- the words for a refusal
abbrev pub label_fault_name : LabelFault → List ℕ
label_fault_name fault.Key = codes "Epc Key"
label_fault_name (fault.Epc f) = codes "Epc " ++ scheme_fault_name f
