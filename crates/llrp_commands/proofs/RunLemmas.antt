-- What the commands did is what their arguments mean.
use Rattle.std.proofs.Common.{◌≡◌, ◌∙◌, ℕ, ◌&&◌, ◌||◌, Bool, true, false, not, List, Option, Some, None, is_some, refl, sym, ap, subst, inl, inr}
use Rattle.std.specs.Prelude.{◌⊎◌, Result, Ok, is_none}
use Rattle.std.proofs.lemmas.Bool.{and_parts}
use Rattle.std.specs.Borrow.{Bor}
use Rattle.clap.specs.Words.{Text}
use Rattle.llrp_words.specs.declared.arguments.label_words.LabelWords.{LabelWords}
use Rattle.llrp_words.specs.declared.arguments.segment_words.SegmentWords.{SegmentWords}
use Rattle.llrp_words.specs.Calls.Said.{text_of}
use Rattle.llrp_schema.specs.declared.kinds.KindSet.{KindSet}
use Rattle.llrp_stream.specs.Device.{SourceLog, SinkLog}
use Rattle.llrp_listing.specs.declared.outcome.ToolErr.{ToolErr}
use Rattle.llrp_listing.specs.declared.outcome.Verdict.{Verdict}
use Rattle.llrp_json.specs.declared.names.Names.TheVariants.{Own}
use Rattle.llrp_words.specs.Calls.Arguments.{asks_segments}
use Rattle.llrp_words.specs.Calls.Asked.{Encode, Show}
use Rattle.llrp_commands.specs.Calls.Command.{Answers, DoesShow, own_names, set_of, verdict_status}
use Rattle.llrp_commands.specs.Calls.Does.{IsNames, IsReaderPort, Lines, MeansLines, MeansTexts, RunsEncode, RunsShow, Texts, captured, json_text, labelled, labelled_text, listing, objects, plain_text}
use Rattle.llrp_commands.specs.Calls.Encode.{EncodedTo}
use Rattle.llrp_commands.specs.Calls.Labelled.{LabelsEncodedTo, ShownTo, asks_labels}
use Rattle.llrp_commands.specs.Calls.ShowNames.{NamedTo}
use Rattle.llrp_commands.specs.Calls.ShowSegments.{CapturesTo, MeansPort, SegmentsTo}

pub neither : (a b : Bool) → (a || b) ≡ false → (a ≡ false) × (b ≡ false)
neither true b e = cc
neither false b e = (refl, e)

pub not_none : (o : Option Text) → is_some o ≡ false → o ≡ None
not_none None e = refl
not_none (Some t) e = cc

pub untrue : (b : Bool) → not b ≡ true → b ≡ false
untrue true e = cc
untrue false e = refl

pub nameless : (o : Option Text) → is_none o ≡ true → o ≡ None
nameless None e = refl
nameless (Some t) e = cc

pub both_ways : (b : Bool) {A : Type 0} → b ≡ true → b ≡ false → A
both_ways b e f = absurd (let bad : true ≡ false = sym e ∙ f in cc)

-- ---- what the words ask for

some_given : (o : Option (Bor Text)) → is_some (text_of o) ≡ is_some o
some_given None = refl
some_given (Some t) = refl

none_given : (o : Option (Bor Text)) → is_none o ≡ is_none (text_of o)
none_given None = refl
none_given (Some t) = refl

-- whether they ask for labels
pub labels_are : (labels : LabelWords) (asks b : Bool) → asks ≡ (labels.keys || is_some labels.schemes) → asks ≡ b → asks_labels labels.keys (text_of labels.schemes) ≡ b
labels_are labels asks b e f = ap (λ (x : Bool). labels.keys || x) (some_given labels.schemes) ∙ sym e ∙ f

-- whether they ask for segments
pub segments_are : (capture : SegmentWords) (asks b : Bool) → asks ≡ (capture.segments || is_some capture.port) → asks ≡ b → asks_segments capture.segments (text_of capture.port) ≡ b
segments_are capture asks b e f = ap (λ (x : Bool). capture.segments || x) (some_given capture.port) ∙ sym e ∙ f

-- whether they have an option that goes with no labels
pub others_are : (json : Bool) (names : Option (Bor Text)) (capture : SegmentWords) (other : Bool) → other ≡ (json || (is_some names || (capture.segments || is_some capture.port))) → other ≡ (json || (is_some (text_of names) || asks_segments capture.segments (text_of capture.port)))
others_are json names capture other e =
    e ∙ ap (λ (b : Bool). json || (b || (capture.segments || is_some capture.port))) (sym (some_given names)) ∙ ap (λ (b : Bool). json || (is_some (text_of names) || (capture.segments || b))) (sym (some_given capture.port))

-- whether --segments is there alone
pub plain_is : (hex : Bool) (names : Option (Bor Text)) (segments plain : Bool) → plain ≡ (segments && (not hex && is_none names)) → plain ≡ (segments && (not hex && is_none (text_of names)))
plain_is hex names segments plain e = e ∙ ap (λ (b : Bool). segments && (not hex && b)) (none_given names)

-- ---- show

-- show with labels
pub shows_labelled : (s : Show) (other : Bool) (r0 r1 : SourceLog) (w0 w1 e0 e1 : SinkLog) (answer : Result ℕ ToolErr) → asks_labels s.keys s.schemes ≡ true → other ≡ (s.json || (is_some s.names || asks_segments s.segments s.port))
    → ShownTo other s.keys s.schemes s.hex (set_of s.all) s.limit r0 r1 w0 w1 e0 e1 answer → RunsShow s r0 r1 w0 w1 e0 e1 answer
shows_labelled s other r0 r1 w0 w1 e0 e1 answer asks given (inl (labels, outcome, (none, keys, schemes), shows, answers)) =
    let parts = neither s.json (is_some s.names || asks_segments s.segments s.port) (sym given ∙ none) in
    let rest = neither (is_some s.names) (asks_segments s.segments s.port) parts.1 in
    inl (labelled labels, (asks, keys, schemes, rest.1, not_none s.names rest.0, parts.0), (outcome, shows, answers))
shows_labelled s other r0 r1 w0 w1 e0 e1 answer asks given (inr (none, unread, unwritten, mistake)) = inr (no, unread, unwritten, mistake)
  where
    no : (lines : Lines) → MeansLines s lines → ⊥
    no listing m = both_ways (asks_labels s.keys s.schemes) asks m.0
    no (labelled labels) m =
        let segments : (is_some s.names || asks_segments s.segments s.port) ≡ false = ap (λ (o : Option Text). is_some o || asks_segments s.segments s.port) m.4 ∙ m.3 in
        let alone : other ≡ false = given ∙ ap (λ (b : Bool). b || (is_some s.names || asks_segments s.segments s.port)) m.5 ∙ segments in
        none labels (alone, m.1, m.2)
    no (objects names) m = both_ways (asks_labels s.keys s.schemes) asks m.0
    no (captured port) m = both_ways (asks_labels s.keys s.schemes) asks m.0

-- what a word of --port means, where it goes with the other words
pub port_means : (plain : Bool) (word : Option Text) (port : ℕ) → plain ≡ true → IsReaderPort word port → MeansPort plain word port
port_means plain None port e is = (e, is)
port_means plain (Some word) port e is = (e, is)

pub means_port : (plain : Bool) (word : Option Text) (port : ℕ) → MeansPort plain word port → (plain ≡ true) × IsReaderPort word port
means_port plain None port m = (m.0, m.1)
means_port plain (Some word) port m = (m.0, m.1)

-- show with --segments
pub shows_captured : (s : Show) (plain : Bool) (r0 r1 : SourceLog) (w0 w1 e0 e1 : SinkLog) (answer : Result ℕ ToolErr) → asks_labels s.keys s.schemes ≡ false → asks_segments s.segments s.port ≡ true
    → plain ≡ (s.segments && (not s.hex && is_none s.names)) → SegmentsTo plain s.json s.port (set_of s.all) s.limit r0 r1 w0 w1 e0 e1 answer → RunsShow s r0 r1 w0 w1 e0 e1 answer
shows_captured s plain r0 r1 w0 w1 e0 e1 answer unlabelled asks given (inl (port, means, did)) =
    let m = means_port plain s.port port means in
    let parts = and_parts s.segments (not s.hex && is_none s.names) (sym given ∙ m.0) in
    let rest = and_parts (not s.hex) (is_none s.names) parts.1 in
    inl (captured port, (unlabelled, parts.0, m.1, nameless s.names rest.1, untrue s.hex rest.0), tt)
shows_captured s plain r0 r1 w0 w1 e0 e1 answer unlabelled asks given (inr (none, unread, unwritten, mistake)) = inr (no, unread, unwritten, mistake)
  where
    no : (lines : Lines) → MeansLines s lines → ⊥
    no listing m = both_ways (asks_segments s.segments s.port) asks m.1
    no (labelled labels) m = both_ways (asks_labels s.keys s.schemes) m.0 unlabelled
    no (objects names) m = both_ways (asks_segments s.segments s.port) asks m.1
    no (captured port) m =
        let named : (not s.hex && is_none s.names) ≡ true = ap (λ (b : Bool). not b && is_none s.names) m.4 ∙ ap (λ (o : Option Text). is_none o) m.3 in
        let alone : plain ≡ true = given ∙ ap (λ (b : Bool). b && (not s.hex && is_none s.names)) m.1 ∙ named in
        none port (port_means plain s.port port alone m.2)

-- a word spells one port
pub one_port : (word : Option Text) (a b : ℕ) → IsReaderPort word a → IsReaderPort word b → a ≡ b
one_port None a b p q = p ∙ sym q
one_port (Some word) a b p q = p.value ∙ sym q.value

-- what show did with a capture, by the one port that its words mean
pub captures : (s : Show) (plain : Bool) (port : ℕ) (r0 r1 : SourceLog) (w0 w1 e0 e1 : SinkLog) (answer : Result ℕ ToolErr) → plain ≡ (s.segments && (not s.hex && is_none s.names)) → SegmentsTo plain s.json s.port (set_of s.all) s.limit r0 r1 w0 w1 e0 e1 answer
    → MeansLines s (captured port) → CapturesTo s port r0 r1 w0 w1 e0 e1 answer
captures s plain port r0 r1 w0 w1 e0 e1 answer given (inl (other, means, did)) m = subst (λ (n : ℕ). CapturesTo s n r0 r1 w0 w1 e0 e1 answer) (one_port s.port other port (means_port plain s.port other means).1 m.2) did
captures s plain port r0 r1 w0 w1 e0 e1 answer given (inr (none, unread, unwritten, mistake)) m =
    let named : (not s.hex && is_none s.names) ≡ true = ap (λ (b : Bool). not b && is_none s.names) m.4 ∙ ap (λ (o : Option Text). is_none o) m.3 in
    let alone : plain ≡ true = given ∙ ap (λ (b : Bool). b && (not s.hex && is_none s.names)) m.1 ∙ named in
    absurd (none port (port_means plain s.port port alone m.2))

-- words that ask for no capture
pub no_capture : (s : Show) (port : ℕ) {A : Type 0} → asks_segments s.segments s.port ≡ false → MeansLines s (captured port) → A
no_capture s port uncut m = both_ways s.segments m.1 (neither s.segments (is_some s.port) uncut).0

-- show with --names
pub shows_named : (s : Show) (word : Text) (r0 r1 : SourceLog) (w0 w1 e0 e1 : SinkLog) (answer : Result ℕ ToolErr) → asks_labels s.keys s.schemes ≡ false → asks_segments s.segments s.port ≡ false → s.names ≡ Some word
    → NamedTo s.json word s.hex (set_of s.all) s.limit r0 r1 w0 w1 e0 e1 answer → RunsShow s r0 r1 w0 w1 e0 e1 answer
shows_named s word r0 r1 w0 w1 e0 e1 answer unlabelled uncut is (inl (names, outcome, (json, word_is), shows, answers)) =
    inl (objects names, (unlabelled, uncut, subst (λ (o : Option Text). IsNames o names) (sym is) word_is, json), (outcome, shows, answers))
shows_named s word r0 r1 w0 w1 e0 e1 answer unlabelled uncut is (inr (none, unread, unwritten, mistake)) = inr (no, unread, unwritten, mistake)
  where
    no : (lines : Lines) → MeansLines s lines → ⊥
    no listing m = let bad : None ≡ Some word = sym m.2 ∙ is in cc
    no (labelled labels) m = both_ways (asks_labels s.keys s.schemes) m.0 unlabelled
    no (objects names) m = none names (m.3, subst (λ (o : Option Text). IsNames o names) is m.2)
    no (captured port) m = both_ways s.segments m.1 (neither s.segments (is_some s.port) uncut).0

-- show without all of these
pub shows_plain : (s : Show) (r0 r1 : SourceLog) (w0 w1 e0 e1 : SinkLog) (outcome : Result Verdict ToolErr) (answer : Result ℕ ToolErr) → asks_labels s.keys s.schemes ≡ false → asks_segments s.segments s.port ≡ false → s.names ≡ None
    → DoesShow (own_names s.json) s.hex (set_of s.all) s.limit r0 r1 w0 w1 outcome → Answers (verdict_status outcome) e0 e1 answer → RunsShow s r0 r1 w0 w1 e0 e1 answer
shows_plain s r0 r1 w0 w1 e0 e1 outcome answer unlabelled uncut is does answers = go s.json refl does
  where
    go : (json : Bool) → s.json ≡ json → DoesShow (own_names json) s.hex (set_of s.all) s.limit r0 r1 w0 w1 outcome → RunsShow s r0 r1 w0 w1 e0 e1 answer
    go false e d = inl (listing, (unlabelled, uncut, is, e), (outcome, d, answers))
    go true e d = inl (objects Own, (unlabelled, uncut, subst (λ (o : Option Text). IsNames o Own) (sym is) refl, e), (outcome, d, answers))

-- ---- encode

pub encodes_labelled : (s : Encode) (r0 r1 : SourceLog) (w0 w1 e0 e1 : SinkLog) (answer : Result ℕ ToolErr) → asks_labels s.keys s.schemes ≡ true → LabelsEncodedTo s.json s.keys s.schemes s.hex (set_of s.all) s.limit r0 r1 w0 w1 e0 e1 answer → RunsEncode s r0 r1 w0 w1 e0 e1 answer
encodes_labelled s r0 r1 w0 w1 e0 e1 answer asks (inl (labels, outcome, (json, keys, schemes), encodes, answers)) = inl (labelled_text labels, (asks, keys, schemes, json), (outcome, encodes, answers))
encodes_labelled s r0 r1 w0 w1 e0 e1 answer asks (inr (none, unread, unwritten, mistake)) = inr (no, unread, unwritten, mistake)
  where
    no : (texts : Texts) → MeansTexts s texts → ⊥
    no plain_text m = both_ways (asks_labels s.keys s.schemes) asks m.0
    no (labelled_text labels) m = none labels (m.3, m.1, m.2)
    no json_text m = both_ways (asks_labels s.keys s.schemes) asks m.0

pub encodes_plain : (s : Encode) (r0 r1 : SourceLog) (w0 w1 e0 e1 : SinkLog) (answer : Result ℕ ToolErr) → asks_labels s.keys s.schemes ≡ false → EncodedTo s.json s.hex (set_of s.all) s.limit r0 r1 w0 w1 e0 e1 answer → RunsEncode s r0 r1 w0 w1 e0 e1 answer
encodes_plain s r0 r1 w0 w1 e0 e1 answer unlabelled encoded = go s.json refl encoded
  where
    go : (json : Bool) → s.json ≡ json → EncodedTo json s.hex (set_of s.all) s.limit r0 r1 w0 w1 e0 e1 answer → RunsEncode s r0 r1 w0 w1 e0 e1 answer
    go false e d = inl (plain_text, (unlabelled, e), d)
    go true e d = inl (json_text, (unlabelled, e), d)
