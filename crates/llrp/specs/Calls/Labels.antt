-- The labels that the words of inventory and watch ask for, and the lines of tags that have them.
use Rattle.std.specs.Prelude.{◌≡◌, ℕ, ◌||◌, Bool, true, false, if◌then◌else◌, List, Option, Some, None, Result, is_some}
use Rattle.std.specs.List.{AllZip, flat_map}
use Rattle.std.specs.Io.KnownBytes.{Appends}
use Rattle.llrp_stream.specs.Device.{SourceLog, SinkLog}
use Rattle.llrp_stream.specs.Calls.Device.{new_sink, new_source}
use Rattle.llrp_listing.specs.declared.outcome.ToolErr.{ToolErr}
use Rattle.llrp_endpoints.specs.declared.form.LineForm.{LineForm}
use Rattle.llrp_endpoints.specs.declared.form.LineForm.TheVariants.{Words, Json, Full, Tags}
use Rattle.llrp_endpoints.specs.declared.summary.Summary.{Summary}
use Rattle.llrp_endpoints.specs.Plan.{Plan}
use Rattle.llrp_endpoints.specs.Watching.{RunsWatching, Turn}
use Rattle.llrp_labels.specs.declared.labels.Labels.{Labels}
use Rattle.llrp_labels.specs.LabelledTags.{AreLabelledTags}
use Rattle.llrp_words.specs.declared.arguments.label_words.LabelWords.{LabelWords}
use Rattle.llrp.specs.Calls.Network.{Concludes, MayEnd, unnumbered}

-- the labels that the words ask for, of which a word for the schemes is that for all; none where they ask for none
abbrev pub asked_labels : LabelWords → Option Labels
asked_labels words = if words.keys || is_some words.schemes then Some (record { schemes = is_some words.schemes; keys = words.keys }) else None

-- the lines of a form are objects of JSON
abbrev pub are_objects : LineForm → Bool
are_objects Words = false
are_objects Json = true
are_objects Full = true
are_objects Tags = false

-- lines of tags in a form, with these labels; without any they stay
abbrev pub AreLabelledLines : Option Labels → LineForm → List ℕ → List ℕ → Type 0
AreLabelledLines None form lines text = text ≡ lines
AreLabelledLines (Some labels) form lines text = AreLabelledTags labels (are_objects form) lines text

-- The lines of these turns with these labels, turn by turn.
pub record AreLabelledTurns (labels : Labels) (form : LineForm) (turns : List Turn) (text : List ℕ) : Type 0 where
  pub texts : List (List ℕ)
  pub each : AllZip (λ t made. AreLabelledTags labels (are_objects form) t.lines made) turns texts
  pub text_is : text ≡ flat_map (λ made. made) texts

-- what a report with labels says of itself whose output has these octets: it wrote the lines of all turns with their labels
abbrev pub ReportsTo : Labels → LineForm → Option (List ℕ) → SinkLog → List Turn → Type 0
ReportsTo labels form taken base turns = (text : List ℕ) × AreLabelledTurns labels form turns text × Appends base.taken taken text

-- A client followed the plan so, over a source and a sink of which nothing was read or written before, and reported each read.
abbrev pub FollowsTold : (limit : ℕ) → Plan → (old new : SinkLog → List Turn → Type 0) → Result (Unit {0}) ToolErr → Type 0
FollowsTold limit plan old new outcome = (run : Result Summary ToolErr) × (source : SourceLog) × (sink : SinkLog)
    × RunsWatching limit plan (new_source None) source (new_sink None) sink old new run × (outcome ≡ unnumbered run)

-- what `inventory` does with labels
abbrev pub RunsLabelled : (limit : ℕ) → Plan → (old new : SinkLog → List Turn → Type 0) → (taken0 taken1 : Option (List ℕ)) → SinkLog → SinkLog → Result ℕ ToolErr → Type 0
RunsLabelled limit plan old new taken0 taken1 e0 e1 answer = (outcome : Option (Result (Unit {0}) ToolErr)) × MayEnd (taken1 ≡ taken0) (FollowsTold limit plan old new) outcome × Concludes outcome e0 e1 answer
