-- What runs of watch and stop say of devices as new, and texts of parts.
use Rattle.std.proofs.Common.{◌≡◌, ◌∙◌, Bool, List, [], ◌∷◌, ◌++◌, ℕ, Option, None, Ok, Err, ap, append_assoc, inr, refl, subst, sym}
use Rattle.std.specs.Prelude.{MatchResult, Result}
use Rattle.llrp_stream.specs.Device.{SourceLog, SinkLog}
use Rattle.llrp_stream.specs.Calls.Device.{new_sink, new_source}
use Rattle.llrp_schema.specs.declared.kinds.KindSet.TheVariants.{Profile}
use Rattle.llrp_listing.specs.declared.outcome.ToolErr.{ToolErr}
use Rattle.llrp_listing.specs.Calls.MemoryListing.{StoppedAtEnd, WroteEncoding}
use Rattle.llrp_commands.specs.declared.command.TheConstants.{LIMIT}
use Rattle.llrp_endpoints.specs.declared.summary.Summary.{Summary}
use Rattle.llrp_endpoints.specs.Plan.{Plan}
use Rattle.llrp_endpoints.specs.RunInventory.{RunsInventory}
use Rattle.llrp_endpoints.specs.Watching.{RunsWatching, Turn}
use Rattle.llrp.specs.declared.watch.TheConstants.{MOST_OCTETS}
use Rattle.llrp.specs.Calls.Farewell.{Leaves, farewell_text}
use Rattle.llrp.specs.Calls.Network.{unnumbered}
use Rattle.std.specs.Io.KnownBytes.{Appends}
use Rattle.llrp_endpoints.specs.declared.form.LineForm.{LineForm}
use Rattle.llrp_endpoints.specs.MarkedLines.{AreMarked}
use Rattle.llrp_labels.specs.declared.labels.Labels.{Labels}
use Rattle.llrp.specs.Calls.Labels.{AreLabelledLines}
use Rattle.llrp.specs.Calls.Watch.Prints.{one_more}
use Rattle.llrp.specs.Calls.Watch.{FollowsLasting, FollowsStop, Prints, PrintsMessages, PrintsTo}
use Rattle.llrp_endpoints.specs.ReportedTags.{AreTagsOfStream}
use Rattle.llrp_endpoints.specs.declared.tag_lister.TagLister.{TagLister}
use Rattle.llrp_endpoints.specs.Calls.TagListing.{HasTags}
use Rattle.llrp_endpoints.specs.TagPieces.{TakesTags}
use Rattle.std.proofs.KnownBytes.{Appends-trans}
use Rattle.std.proofs.lemmas.List.{append-nil}
use Rattle.std.proofs.lemmas.List.Concat.{flat_map-append}
use Rattle.llrp_endpoints.specs.Watching.{pieces_of}
use Rattle.llrp_json.specs.Calls.PieceLines.{HasListed, Listing, ListsPiece}
use Rattle.llrp_stream.specs.Calls.Frames.{limit_of}

pub lasts : (limit : ℕ) (plan : Plan) (r0 r1 : SourceLog) (w0 w1 : SinkLog) (v0 v1 : SinkLog → List Turn → Type 0) (run : Result Summary ToolErr) → RunsWatching limit plan r0 r1 w0 w1 v0 v1 run
    → FollowsLasting limit plan r0 r1 w0 w1 v0 v1 (unnumbered run)
lasts limit plan r0 r1 w0 w1 v0 v1 run runs = (run, runs, refl)

pub stops : (plan : Plan) (r0 r1 : SourceLog) (w0 w1 t0 t1 : SinkLog) (bytes : List ℕ) (run : Result Summary ToolErr) → r0 ≡ new_source None → w0 ≡ new_sink None
    → RunsInventory MOST_OCTETS plan r0 r1 w0 w1 t0 t1 bytes run → FollowsStop plan t0 t1 (unnumbered run)
stops plan r0 r1 w0 w1 t0 t1 bytes run source sink runs = (run, r1, w1, bytes, rw (source, sink) at runs, refl)

-- the octets of turns, with those of one more
pieces_more : (before : List Turn) (t : Turn) → pieces_of before ++ t.piece ≡ pieces_of (before ++ t ∷ [])
pieces_more before t = ap (λ (x : List ℕ). pieces_of before ++ x) (sym (append-nil t.piece)) ∙ sym (flat_map-append (λ (u : Turn). u.piece) before (t ∷ []))

-- a printer that was told of a turn, and appended the lines of the tags in its piece
pub prints_more : (old new : TagLister) (labels : Option Labels) (name : Option (List ℕ)) (o0 o1 : Option (List ℕ)) (t : Turn) (micros : ℕ) (lines labelled text : List ℕ) → TakesTags t.piece old new [] lines → new.form ≡ old.form
    → AreLabelledLines labels old.form lines labelled → AreMarked old.form micros name labelled text → Appends o0 o1 text → (base : SinkLog) (before : List Turn) → PrintsTo old labels name o0 base before → PrintsTo new labels name o1 base (before ++ t ∷ [])
prints_more old new labels name o0 o1 t micros lines labelled text takes same with_labels marked appends base before p =
    let limit : ℕ = old.decoder.limit in
    let took = takes limit (pieces_of before) p.0 p.1 in
    let has : HasTags limit (pieces_of (before ++ t ∷ [])) (p.0 ++ took.0) new = subst (λ (x : List ℕ). HasTags limit x (p.0 ++ took.0) new) (pieces_more before t) took.2 in
    let are : AreTagsOfStream old.form limit (pieces_of (before ++ t ∷ [])) (p.0 ++ took.0) = subst (λ (x : List ℕ). AreTagsOfStream old.form limit x (p.0 ++ took.0)) (pieces_more before t) (subst (λ (f : LineForm). AreTagsOfStream f limit (pieces_of before ++ t.piece) (p.0 ++ took.0)) same took.3) in
    let printed : Prints old.form limit labels name base.taken (before ++ t ∷ []) (p.0 ++ took.0) o1 =
    one_more before p.0 o0 t took.0 labelled micros text o1 p.2 are (subst (λ (x : List ℕ). AreLabelledLines labels old.form x labelled) took.1 with_labels) marked appends in (
      p.0 ++ took.0,
      subst (λ (n : ℕ). HasTags n (pieces_of (before ++ t ∷ [])) (p.0 ++ took.0) new) (sym has.limit_is) has,
      subst (λ (n : ℕ). Prints new.form n labels name base.taken (before ++ t ∷ []) (p.0 ++ took.0) o1) (sym has.limit_is)
          (subst (λ (f : LineForm). Prints f limit labels name base.taken (before ++ t ∷ []) (p.0 ++ took.0) o1) (sym same) printed),
    )

-- a printer of messages that was told of a turn, and appended the lines of its piece
pub prints_messages : (old new : Listing) (o0 o1 : Option (List ℕ)) (t : Turn) (text : List ℕ) → ListsPiece t.piece old new [] text → Appends o0 o1 text
    → (base : SinkLog) (before : List Turn) → PrintsMessages old o0 base before → PrintsMessages new o1 base (before ++ t ∷ [])
prints_messages old new o0 o1 t text lists appends base before p =
    let l = lists (limit_of old.frames) (pieces_of before) p.0 p.1 in
    let pieces = pieces_more before t in (
      p.0 ++ l.0,
      subst (λ (x : List ℕ). HasListed (limit_of new.frames) x (p.0 ++ l.0) new) pieces (subst (λ (n : ℕ). HasListed n (pieces_of before ++ t.piece) (p.0 ++ l.0) new) (sym l.2.listed.limit_is) l.2),
      Appends-trans base.taken o0 o1 p.0 l.0 p.2 (subst (λ (x : List ℕ). Appends o0 o1 x) l.1 appends),
    )

-- three parts, appended one after another
pub three_parts : (a b c start one two three : List ℕ) → one ≡ start ++ a → two ≡ one ++ b → three ≡ two ++ c → three ≡ start ++ (a ++ (b ++ c))
three_parts a b c start one two three p q r =
    r ∙ ap (λ (x : List ℕ). x ++ c) (q ∙ ap (λ (x : List ℕ). x ++ b) p) ∙ append_assoc (start ++ a) b c ∙ append_assoc start a (b ++ c)

-- five of them
pub five_parts : (a b c d e start one two three four five : List ℕ) → one ≡ start ++ a → two ≡ one ++ b → three ≡ two ++ c → four ≡ three ++ d → five ≡ four ++ e
    → five ≡ start ++ (a ++ (b ++ (c ++ (d ++ e))))
five_parts a b c d e start one two three four five p q r s t =
    three_parts c d e two three four five r s t ∙ three_parts a b (c ++ (d ++ e)) start one two (two ++ (c ++ (d ++ e))) p q refl

-- seven of them
pub seven_parts : (a b c d e f g start one two three four five six seven : List ℕ) → one ≡ start ++ a → two ≡ one ++ b → three ≡ two ++ c → four ≡ three ++ d → five ≡ four ++ e → six ≡ five ++ f → seven ≡ six ++ g
    → seven ≡ start ++ (a ++ (b ++ (c ++ (d ++ (e ++ (f ++ g))))))
seven_parts a b c d e f g start one two three four five six seven p q r s t u v =
    five_parts c d e f g two three four five six seven r s t u v ∙ three_parts a b (c ++ (d ++ (e ++ (f ++ g)))) start one two (two ++ (c ++ (d ++ (e ++ (f ++ g))))) p q refl

-- nine of them
pub nine_parts : (a b c d e f g h i start one two three four five six seven eight nine : List ℕ) → one ≡ start ++ a → two ≡ one ++ b → three ≡ two ++ c → four ≡ three ++ d → five ≡ four ++ e → six ≡ five ++ f → seven ≡ six ++ g → eight ≡ seven ++ h → nine ≡ eight ++ i
    → nine ≡ start ++ (a ++ (b ++ (c ++ (d ++ (e ++ (f ++ (g ++ (h ++ i))))))))
nine_parts a b c d e f g h i start one two three four five six seven eight nine p q r s t u v w x =
    seven_parts c d e f g h i two three four five six seven eight nine r s t u v w x
    ∙ three_parts a b (c ++ (d ++ (e ++ (f ++ (g ++ (h ++ i)))))) start one two (two ++ (c ++ (d ++ (e ++ (f ++ (g ++ (h ++ i))))))) p q refl

-- what encoding the last messages answers
pub leaves : (disables : Bool) (id : ℕ) (w0 w1 : SinkLog) (result : Result (Unit {0}) ToolErr)
    → MatchResult result (λ _. WroteEncoding Profile LIMIT w0 w1 (farewell_text disables id)) (StoppedAtEnd Profile LIMIT w0 w1 (farewell_text disables id)) → Leaves disables id w0 w1 result
leaves disables id w0 w1 (Ok done) h = h
leaves disables id w0 w1 (Err error) h = inr h
