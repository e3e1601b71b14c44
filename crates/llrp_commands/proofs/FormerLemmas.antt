-- What is said of each command by itself follows from what runs for the words.
use Rattle.std.proofs.Common.{◌≡◌, ◌∙◌, ◌≢◌, ℕ, ◌&&◌, ◌||◌, Bool, true, false, not, List, Option, Some, None, is_some, refl, sym, ap, subst, inl, inr, codes}
use Rattle.std.specs.Prelude.{◌⊎◌, Result, Ok, Err, is_none, cond}
use Rattle.std.specs.Str.{bytes_eq}
use Rattle.std.proofs.lemmas.Bool.{and_parts}
use Rattle.llrp_labels.specs.declared.labels.Labels.{Labels}
use Rattle.std.proofs.lemmas.Slice.Eq.{bytes_eq-Decides}
use Rattle.clap.specs.Words.{Row, Text}
use Rattle.llrp_stream.specs.Device.{SourceLog, SinkLog}
use Rattle.llrp_listing.specs.declared.outcome.ToolErr.{ToolErr}
use Rattle.llrp_listing.specs.declared.outcome.Verdict.{Verdict}
use Rattle.llrp_json.specs.declared.names.Names.{Names}
use Rattle.llrp_json.specs.declared.names.Names.TheVariants.{Own}
use Rattle.llrp_words.specs.Calls.Arguments.{Asks, AsksElsewhere, AsksEpcFile, AsksEpcWith, AsksExplain, AsksFields, AsksLabels, AsksSegments, all_in, asks_segments, command_in, flag_in, hex_in, json_in, name_in, word_in}
use Rattle.llrp_words.specs.Calls.Asked.{Asked, Encode, Epc, Explain, Fields, Show, asked, asked_by, elsewhere, encode, encode_in, epc, epc_in, explain, explain_in, fields, fields_in, show, show_in}
use Rattle.llrp_commands.specs.Calls.Command.{Answers, DoesShow, IsNotBegun, own_names, set_of, verdict_status}
use Rattle.llrp_commands.specs.Calls.Does.{Does, IsLeft, IsNames, MeansLines, MeansTexts, Runs, RunsEncode, RunsEpc, RunsExplain, RunsFields, RunsShow, captured, json_text, labelled, labelled_text, listing, objects, plain_text}
use Rattle.llrp_commands.specs.Calls.Encode.{EncodedTo}
use Rattle.llrp_commands.specs.Calls.Labelled.{LabelsEncodedTo, MeansLabels, ShownTo, asks_labels}
use Rattle.llrp_commands.specs.Calls.ShowNames.{NamedTo}
use Rattle.llrp_commands.specs.Calls.ShowSegments.{CapturesTo, MeansPort, SegmentsTo, is_plain}
use Rattle.llrp_words.specs.Private.Parse.{IsFound}
use Rattle.llrp_words.proofs.AskedLemmas.{given_flag, limit_is, named_asked, number_is, same_encode, same_epc, same_explain, same_fields, same_show}
use Rattle.llrp_words.proofs.CommandLemmas.{no_fault}
use Rattle.llrp_words.proofs.GivenArguments.{found_if_parsed}
use Rattle.llrp_commands.proofs.RunLemmas.{both_ways, means_port, nameless, neither, not_none, one_port, port_means, untrue}

-- ---- the words ask for one thing

pub show_asked : (words : List Text) (s : Show) → Asks words (codes "show") s.hex s.all s.json s.limit → word_in (codes "names") (command_in words) ≡ s.names → AsksLabels words s.keys s.schemes → AsksSegments words s.segments s.port → asked words ≡ show s
show_asked words s asks names marks cut =
    named_asked words (codes "show") asks.parsed asks.named
    ∙ ap show (same_show (show_in (command_in words)) s (given_flag (hex_in (command_in words)) s.hex asks.flag) (given_flag (all_in (command_in words)) s.all asks.kinds) (given_flag (json_in (command_in words)) s.json asks.form) (sym (limit_is (command_in words) s.limit asks.bound)) names (given_flag (flag_in (codes "keys") (command_in words)) s.keys marks.0) marks.1 (given_flag (flag_in (codes "segments") (command_in words)) s.segments cut.0) cut.1)

pub encode_asked : (words : List Text) (s : Encode) → Asks words (codes "encode") s.hex s.all s.json s.limit → AsksLabels words s.keys s.schemes → asked words ≡ encode s
encode_asked words s asks marks =
    named_asked words (codes "encode") asks.parsed asks.named
    ∙ ap encode (same_encode (encode_in (command_in words)) s (given_flag (hex_in (command_in words)) s.hex asks.flag) (given_flag (all_in (command_in words)) s.all asks.kinds) (given_flag (json_in (command_in words)) s.json asks.form) (sym (limit_is (command_in words) s.limit asks.bound)) (given_flag (flag_in (codes "keys") (command_in words)) s.keys marks.0) marks.1)

pub epc_asked : (words : List Text) (s : Epc) → AsksEpcWith words s.text s.forms s.list s.json s.to s.schemes s.count s.filter s.file → asked words ≡ epc s
epc_asked words s asks =
    let c = command_in words in
    named_asked words (codes "epc") asks.parsed asks.named
    ∙ ap epc (same_epc (epc_in c) s asks.given (given_flag (flag_in (codes "forms") c) s.forms asks.all) (given_flag (flag_in (codes "list") c) s.list asks.lines) (given_flag (json_in c) s.json asks.object) asks.form asks.set (sym (number_is (codes "prefix-digits") c s.count asks.digits)) (sym (number_is (codes "filter") c s.filter asks.value)) asks.table)

-- epc with a file of company prefixes
pub epc_file_asked : (words : List Text) (file : Text) → AsksEpcFile words file → (s : Epc) × (asked words ≡ epc (record s { file = Some file }))
epc_file_asked words file asks =
    let s = epc_in (command_in words) in
    (s, named_asked words (codes "epc") asks.parsed asks.named ∙ ap (λ (f : Option Text). epc (record s { file = f })) asks.table)

pub fields_asked : (words : List Text) (s : Fields) → AsksFields words s.all s.name → asked words ≡ fields s
fields_asked words s asks = named_asked words (codes "fields") asks.parsed asks.named ∙ ap fields (same_fields (fields_in (command_in words)) s (given_flag (all_in (command_in words)) s.all asks.kinds) asks.given)

pub explain_asked : (words : List Text) (s : Explain) → AsksExplain words s.hex s.all s.json s.only s.limit → asked words ≡ explain s
explain_asked words s (asks, only) =
    named_asked words (codes "explain") asks.parsed asks.named
    ∙ ap explain (same_explain (explain_in (command_in words)) s (given_flag (hex_in (command_in words)) s.hex asks.flag) (given_flag (all_in (command_in words)) s.all asks.kinds) (given_flag (json_in (command_in words)) s.json asks.form) (sym (limit_is (command_in words) s.limit asks.bound)) (sym (number_is (codes "only") (command_in words) s.only only)))

-- what runs for words that ask for this
pub runs_as : (words : List Text) (a : Asked) (r0 r1 : SourceLog) (w0 w1 e0 e1 : SinkLog) (answer : Result ℕ ToolErr) → asked words ≡ a → Runs words r0 r1 w0 w1 e0 e1 answer → IsNotBegun r0 r1 w0 w1 e0 e1 answer ⊎ Does a r0 r1 w0 w1 e0 e1 answer
runs_as words a r0 r1 w0 w1 e0 e1 answer e (inl none) = inl none
runs_as words a r0 r1 w0 w1 e0 e1 answer e (inr does) = inr (subst (λ (x : Asked). Does x r0 r1 w0 w1 e0 e1 answer) e does)

pub apart : {A : Type 0} → true ≡ false → A
apart e = absurd (let bad : true ≡ false = e in cc)

-- ---- show

-- without an option that changes its lines
pub show_alone : (s : Show) (r0 r1 : SourceLog) (w0 w1 e0 e1 : SinkLog) (answer : Result ℕ ToolErr) → asks_labels s.keys s.schemes ≡ false → asks_segments s.segments s.port ≡ false → s.names ≡ None → RunsShow s r0 r1 w0 w1 e0 e1 answer
    → (outcome : Result Verdict ToolErr) × DoesShow (own_names s.json) s.hex (set_of s.all) s.limit r0 r1 w0 w1 outcome × Answers (verdict_status outcome) e0 e1 answer
show_alone s r0 r1 w0 w1 e0 e1 answer unlabelled uncut unnamed (inl (listing, m, did)) =
    subst (λ (json : Bool). (outcome : Result Verdict ToolErr) × DoesShow (own_names json) s.hex (set_of s.all) s.limit r0 r1 w0 w1 outcome × Answers (verdict_status outcome) e0 e1 answer) (sym m.3) did
show_alone s r0 r1 w0 w1 e0 e1 answer unlabelled uncut unnamed (inl (labelled labels, m, did)) = both_ways (asks_labels s.keys s.schemes) m.0 unlabelled
show_alone s r0 r1 w0 w1 e0 e1 answer unlabelled uncut unnamed (inl (objects names, m, did)) =
    let own : names ≡ Own = go s.names unnamed m.2 in
    let shows : (outcome : Result Verdict ToolErr) × DoesShow (Some Own) s.hex (set_of s.all) s.limit r0 r1 w0 w1 outcome × Answers (verdict_status outcome) e0 e1 answer =
    subst (λ (n : Names). (outcome : Result Verdict ToolErr) × DoesShow (Some n) s.hex (set_of s.all) s.limit r0 r1 w0 w1 outcome × Answers (verdict_status outcome) e0 e1 answer) own did in
    subst (λ (json : Bool). (outcome : Result Verdict ToolErr) × DoesShow (own_names json) s.hex (set_of s.all) s.limit r0 r1 w0 w1 outcome × Answers (verdict_status outcome) e0 e1 answer) (sym m.3) shows
  where
    go : (o : Option Text) → o ≡ None → IsNames o names → names ≡ Own
    go None e is = is
    go (Some w) e is = cc
show_alone s r0 r1 w0 w1 e0 e1 answer unlabelled uncut unnamed (inl (captured port, m, did)) = both_ways s.segments m.1 (neither s.segments (is_some s.port) uncut).0
show_alone s r0 r1 w0 w1 e0 e1 answer unlabelled uncut unnamed (inr (none, unread, unwritten, mistake)) = go s.json refl
  where
    go : (json : Bool) → s.json ≡ json → (outcome : Result Verdict ToolErr) × DoesShow (own_names s.json) s.hex (set_of s.all) s.limit r0 r1 w0 w1 outcome × Answers (verdict_status outcome) e0 e1 answer
    go false e = absurd (none listing (unlabelled, uncut, unnamed, e))
    go true e = absurd (none (objects Own) (unlabelled, uncut, subst (λ (o : Option Text). IsNames o Own) (sym unnamed) refl, e))

pub show_named : (s : Show) (word : Text) (r0 r1 : SourceLog) (w0 w1 e0 e1 : SinkLog) (answer : Result ℕ ToolErr) → asks_labels s.keys s.schemes ≡ false → asks_segments s.segments s.port ≡ false → s.names ≡ Some word → RunsShow s r0 r1 w0 w1 e0 e1 answer
    → NamedTo s.json word s.hex (set_of s.all) s.limit r0 r1 w0 w1 e0 e1 answer
show_named s word r0 r1 w0 w1 e0 e1 answer unlabelled uncut is (inl (listing, m, did)) = let bad : None ≡ Some word = sym m.2 ∙ is in cc
show_named s word r0 r1 w0 w1 e0 e1 answer unlabelled uncut is (inl (labelled labels, m, did)) = both_ways (asks_labels s.keys s.schemes) m.0 unlabelled
show_named s word r0 r1 w0 w1 e0 e1 answer unlabelled uncut is (inl (objects names, m, (outcome, shows, answers))) = inl (names, outcome, (m.3, subst (λ (o : Option Text). IsNames o names) is m.2), shows, answers)
show_named s word r0 r1 w0 w1 e0 e1 answer unlabelled uncut is (inl (captured port, m, did)) = both_ways s.segments m.1 (neither s.segments (is_some s.port) uncut).0
show_named s word r0 r1 w0 w1 e0 e1 answer unlabelled uncut is (inr (none, unread, unwritten, mistake)) =
    inr (λ names asks. none (objects names) (unlabelled, uncut, subst (λ (o : Option Text). IsNames o names) (sym is) asks.1, asks.0), unread, unwritten, mistake)

pub show_captured : (s : Show) (r0 r1 : SourceLog) (w0 w1 e0 e1 : SinkLog) (answer : Result ℕ ToolErr) → asks_labels s.keys s.schemes ≡ false → asks_segments s.segments s.port ≡ true → RunsShow s r0 r1 w0 w1 e0 e1 answer
    → ((port : ℕ) → MeansLines s (captured port) → CapturesTo s port r0 r1 w0 w1 e0 e1 answer) → SegmentsTo (is_plain s.segments s.hex s.names) s.json s.port (set_of s.all) s.limit r0 r1 w0 w1 e0 e1 answer
show_captured s r0 r1 w0 w1 e0 e1 answer unlabelled cut (inl (listing, m, did)) captures = both_ways (asks_segments s.segments s.port) cut m.1
show_captured s r0 r1 w0 w1 e0 e1 answer unlabelled cut (inl (labelled labels, m, did)) captures = both_ways (asks_labels s.keys s.schemes) m.0 unlabelled
show_captured s r0 r1 w0 w1 e0 e1 answer unlabelled cut (inl (objects names, m, did)) captures = both_ways (asks_segments s.segments s.port) cut m.1
show_captured s r0 r1 w0 w1 e0 e1 answer unlabelled cut (inl (captured port, m, did)) captures =
    let named : (not s.hex && is_none s.names) ≡ true = ap (λ (b : Bool). not b && is_none s.names) m.4 ∙ ap (λ (o : Option Text). is_none o) m.3 in
    let alone : is_plain s.segments s.hex s.names ≡ true = ap (λ (b : Bool). b && (not s.hex && is_none s.names)) m.1 ∙ named in
    inl (port, port_means (is_plain s.segments s.hex s.names) s.port port alone m.2, captures port m)
show_captured s r0 r1 w0 w1 e0 e1 answer unlabelled cut (inr (none, unread, unwritten, mistake)) captures = inr (no, unread, unwritten, mistake)
  where
    no : (port : ℕ) → MeansPort (is_plain s.segments s.hex s.names) s.port port → ⊥
    no port means =
        let m = means_port (is_plain s.segments s.hex s.names) s.port port means in
        let parts = and_parts s.segments (not s.hex && is_none s.names) m.0 in
        let rest = and_parts (not s.hex) (is_none s.names) parts.1 in
        none (captured port) (unlabelled, parts.0, m.1, nameless s.names rest.1, untrue s.hex rest.0)

-- the same, where memory may have run out before it began
pub captured_or : (s : Show) (r0 r1 : SourceLog) (w0 w1 e0 e1 : SinkLog) (answer : Result ℕ ToolErr) → asks_labels s.keys s.schemes ≡ false → asks_segments s.segments s.port ≡ true → RunsShow s r0 r1 w0 w1 e0 e1 answer
    → ((port : ℕ) → MeansLines s (captured port) → IsNotBegun r0 r1 w0 w1 e0 e1 answer ⊎ CapturesTo s port r0 r1 w0 w1 e0 e1 answer)
    → IsNotBegun r0 r1 w0 w1 e0 e1 answer ⊎ SegmentsTo (is_plain s.segments s.hex s.names) s.json s.port (set_of s.all) s.limit r0 r1 w0 w1 e0 e1 answer
captured_or s r0 r1 w0 w1 e0 e1 answer unlabelled cut (inl (captured port, m, did)) captures =
    elim (captures port m) [
      | inl none ↦ inl none
      | inr does ↦ inr (show_captured s r0 r1 w0 w1 e0 e1 answer unlabelled cut (inl (captured port, m, did)) (λ n o. subst (λ (x : ℕ). CapturesTo s x r0 r1 w0 w1 e0 e1 answer) (one_port s.port port n m.2 o.2) does))
    ]
captured_or s r0 r1 w0 w1 e0 e1 answer unlabelled cut (inl (listing, m, did)) captures = both_ways (asks_segments s.segments s.port) cut m.1
captured_or s r0 r1 w0 w1 e0 e1 answer unlabelled cut (inl (labelled labels, m, did)) captures = both_ways (asks_labels s.keys s.schemes) m.0 unlabelled
captured_or s r0 r1 w0 w1 e0 e1 answer unlabelled cut (inl (objects names, m, did)) captures = both_ways (asks_segments s.segments s.port) cut m.1
captured_or s r0 r1 w0 w1 e0 e1 answer unlabelled cut (inr (none, unread, unwritten, mistake)) captures = inr (show_captured s r0 r1 w0 w1 e0 e1 answer unlabelled cut (inr (none, unread, unwritten, mistake)) (λ n m. absurd (none (captured n) m)))

pub show_labelled : (s : Show) (r0 r1 : SourceLog) (w0 w1 e0 e1 : SinkLog) (answer : Result ℕ ToolErr) → asks_labels s.keys s.schemes ≡ true → RunsShow s r0 r1 w0 w1 e0 e1 answer
    → ShownTo (s.json || (is_some s.names || asks_segments s.segments s.port)) s.keys s.schemes s.hex (set_of s.all) s.limit r0 r1 w0 w1 e0 e1 answer
show_labelled s r0 r1 w0 w1 e0 e1 answer asks (inl (listing, m, did)) = both_ways (asks_labels s.keys s.schemes) asks m.0
show_labelled s r0 r1 w0 w1 e0 e1 answer asks (inl (labelled labels, m, (outcome, shows, answers))) =
    let cut : (is_some s.names || asks_segments s.segments s.port) ≡ false = ap (λ (o : Option Text). is_some o || asks_segments s.segments s.port) m.4 ∙ m.3 in
    let alone : (s.json || (is_some s.names || asks_segments s.segments s.port)) ≡ false = ap (λ (b : Bool). b || (is_some s.names || asks_segments s.segments s.port)) m.5 ∙ cut in
    inl (labels, outcome, (alone, m.1, m.2), shows, answers)
show_labelled s r0 r1 w0 w1 e0 e1 answer asks (inl (objects names, m, did)) = both_ways (asks_labels s.keys s.schemes) asks m.0
show_labelled s r0 r1 w0 w1 e0 e1 answer asks (inl (captured port, m, did)) = both_ways (asks_labels s.keys s.schemes) asks m.0
show_labelled s r0 r1 w0 w1 e0 e1 answer asks (inr (none, unread, unwritten, mistake)) = inr (no, unread, unwritten, mistake)
  where
    no : (labels : Labels) → MeansLabels (s.json || (is_some s.names || asks_segments s.segments s.port)) s.keys s.schemes labels → ⊥
    no labels (alone, keys, schemes) =
        let parts = neither s.json (is_some s.names || asks_segments s.segments s.port) alone in
        let rest = neither (is_some s.names) (asks_segments s.segments s.port) parts.1 in
        none (labelled labels) (asks, keys, schemes, rest.1, not_none s.names rest.0, parts.0)

-- ---- encode

pub encode_alone : (s : Encode) (r0 r1 : SourceLog) (w0 w1 e0 e1 : SinkLog) (answer : Result ℕ ToolErr) → asks_labels s.keys s.schemes ≡ false → RunsEncode s r0 r1 w0 w1 e0 e1 answer → EncodedTo s.json s.hex (set_of s.all) s.limit r0 r1 w0 w1 e0 e1 answer
encode_alone s r0 r1 w0 w1 e0 e1 answer unlabelled (inl (plain_text, m, did)) = subst (λ (json : Bool). EncodedTo json s.hex (set_of s.all) s.limit r0 r1 w0 w1 e0 e1 answer) (sym m.1) did
encode_alone s r0 r1 w0 w1 e0 e1 answer unlabelled (inl (labelled_text labels, m, did)) = both_ways (asks_labels s.keys s.schemes) m.0 unlabelled
encode_alone s r0 r1 w0 w1 e0 e1 answer unlabelled (inl (json_text, m, did)) = subst (λ (json : Bool). EncodedTo json s.hex (set_of s.all) s.limit r0 r1 w0 w1 e0 e1 answer) (sym m.1) did
encode_alone s r0 r1 w0 w1 e0 e1 answer unlabelled (inr (none, unread, unwritten, mistake)) = go s.json refl
  where
    go : (json : Bool) → s.json ≡ json → EncodedTo s.json s.hex (set_of s.all) s.limit r0 r1 w0 w1 e0 e1 answer
    go false e = absurd (none plain_text (unlabelled, e))
    go true e = absurd (none json_text (unlabelled, e))

pub encode_labelled : (s : Encode) (r0 r1 : SourceLog) (w0 w1 e0 e1 : SinkLog) (answer : Result ℕ ToolErr) → asks_labels s.keys s.schemes ≡ true → RunsEncode s r0 r1 w0 w1 e0 e1 answer → LabelsEncodedTo s.json s.keys s.schemes s.hex (set_of s.all) s.limit r0 r1 w0 w1 e0 e1 answer
encode_labelled s r0 r1 w0 w1 e0 e1 answer asks (inl (plain_text, m, did)) = both_ways (asks_labels s.keys s.schemes) asks m.0
encode_labelled s r0 r1 w0 w1 e0 e1 answer asks (inl (labelled_text labels, m, (outcome, encodes, answers))) = inl (labels, outcome, (m.3, m.1, m.2), encodes, answers)
encode_labelled s r0 r1 w0 w1 e0 e1 answer asks (inl (json_text, m, did)) = both_ways (asks_labels s.keys s.schemes) asks m.0
encode_labelled s r0 r1 w0 w1 e0 e1 answer asks (inr (none, unread, unwritten, mistake)) = inr (λ labels means. none (labelled_text labels) (asks, means.1, means.2, means.0), unread, unwritten, mistake)

-- ---- the other commands

unequal : (n wanted : Text) → n ≢ wanted → bytes_eq n wanted ≡ false
unequal n wanted differ = go (bytes_eq n wanted) refl
  where
    go : (b : Bool) → bytes_eq n wanted ≡ b → b ≡ false
    go true e = absurd (differ ((bytes_eq-Decides n wanted).0 e))
    go false e = refl

named_none : (found : Option (Text × List Row)) → IsFound found → name_in found ≡ None → ⊥
named_none None there e = there
named_none (Some p) there e = absurd (let bad : Some p.0 ≡ None = e in cc)

other_name : (o : Option Text) (n wanted : Text) → o ≡ Some n → o ≢ Some wanted → bytes_eq n wanted ≡ false
other_name o n wanted is differ = unequal n wanted (λ e. differ (is ∙ ap (λ (t : Text). Some t) e))

-- words that name none of these commands are left to the program
pub elsewhere_asked : (words : List Text) → AsksElsewhere words → asked words ≡ elsewhere
elsewhere_asked words asks = go (name_in (command_in words)) refl
  where
    go : (o : Option Text) → name_in (command_in words) ≡ o → asked words ≡ elsewhere
    go None is = absurd (named_none (command_in words) (found_if_parsed words (no_fault words asks.parsed)) is)
    go (Some n) is =
        let no_show = other_name (name_in (command_in words)) n (codes "show") is asks.no_show in
        let no_encode = other_name (name_in (command_in words)) n (codes "encode") is asks.no_encode in
        let no_epc = other_name (name_in (command_in words)) n (codes "epc") is asks.no_epc in
        let no_fields = other_name (name_in (command_in words)) n (codes "fields") is asks.no_fields in
        let no_explain = other_name (name_in (command_in words)) n (codes "explain") is asks.no_explain in
        named_asked words n asks.parsed is ∙ rw (no_show, no_encode, no_epc, no_fields, no_explain) refl
