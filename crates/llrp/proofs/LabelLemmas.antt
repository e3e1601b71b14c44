-- What a report with labels says of itself, turn by turn.
use Rattle.std.proofs.Common.{◌≡◌, ◌∙◌, List, [], ◌∷◌, ◌++◌, ℕ, Option, None, ap, refl, sym}
use Rattle.std.specs.Prelude.{Result}
use Rattle.std.specs.List.{flat_map}
use Rattle.std.specs.Io.KnownBytes.{Appends}
use Rattle.std.proofs.KnownBytes.{Appends-trans}
use Rattle.std.proofs.lemmas.List.{append-nil}
use Rattle.std.proofs.lemmas.List.Concat.{flat_map-append}
use Rattle.llrp_stream.specs.Device.{SourceLog, SinkLog}
use Rattle.llrp_stream.specs.Calls.Device.{new_sink, new_source}
use Rattle.llrp_listing.specs.declared.outcome.ToolErr.{ToolErr}
use Rattle.llrp_listing.proofs.Zips.{zip_append}
use Rattle.llrp_endpoints.specs.declared.form.LineForm.{LineForm}
use Rattle.llrp_endpoints.specs.declared.summary.Summary.{Summary}
use Rattle.llrp_endpoints.specs.Plan.{Plan}
use Rattle.llrp_endpoints.specs.Watching.{RunsWatching, Turn}
use Rattle.llrp_labels.specs.declared.labels.Labels.{Labels}
use Rattle.llrp_labels.specs.LabelledTags.{AreLabelledTags}
use Rattle.llrp.specs.Calls.Labels.{FollowsTold, ReportsTo, are_objects}
use Rattle.llrp.specs.Calls.Network.{unnumbered}

-- a text after others
joined : (texts : List (List ℕ)) (more : List ℕ) → flat_map (λ (x : List ℕ). x) texts ++ more ≡ flat_map (λ (x : List ℕ). x) (texts ++ more ∷ [])
joined texts more = ap (λ (x : List ℕ). flat_map (λ (y : List ℕ). y) texts ++ x) (sym (append-nil more)) ∙ sym (flat_map-append (λ (y : List ℕ). y) texts (more ∷ []))

-- a report that was told of a turn, and appended its lines with their labels
pub reports_more : (labels : Labels) (form : LineForm) (o0 o1 : Option (List ℕ)) (t : Turn) (more : List ℕ) → AreLabelledTags labels (are_objects form) t.lines more → Appends o0 o1 more
    → (base : SinkLog) (before : List Turn) → ReportsTo labels form o0 base before → ReportsTo labels form o1 base (before ++ t ∷ [])
reports_more labels form o0 o1 t more are appends base before (text, so, took) = (
  text ++ more,
  record {
    texts = so.texts ++ more ∷ [];
    each = zip_append (λ (u : Turn) (made : List ℕ). AreLabelledTags labels (are_objects form) u.lines made) before (t ∷ []) so.texts (more ∷ []) so.each (are, tt);
    text_is = ap (λ (x : List ℕ). x ++ more) so.text_is ∙ joined so.texts more;
  },
  Appends-trans base.taken o0 o1 text more took appends,
)

-- devices as new
pub follows_told : (limit : ℕ) (plan : Plan) (r0 r1 : SourceLog) (w0 w1 : SinkLog) (v0 v1 : SinkLog → List Turn → Type 0) (run : Result Summary ToolErr) → r0 ≡ new_source None → w0 ≡ new_sink None → RunsWatching limit plan r0 r1 w0 w1 v0 v1 run
    → FollowsTold limit plan v0 v1 (unnumbered run)
follows_told limit plan r0 r1 w0 w1 v0 v1 run source sink runs = (run, r1, w1, rw (source, sink) at runs, refl)
