-- What a line that is read says, or why it is refused by itself.
use Rattle.std.proofs.Common.{◌≡◌, ℕ, ◌+◌, ◌<◌, ◌≤◌, inl, inr, true, List, [], ◌∷◌, ◌++◌, length, drop, Ok, Err, refl, sym, ap, subst, ◌∙◌, arith, decimal, append_assoc}
use Rattle.std.specs.Prelude.{nat_le, ◌&&◌}
use Rattle.std.specs.List.{join_with_byte}
use Rattle.std.specs.Str.{IsUtf8, IsAscii}
use Rattle.std.proofs.lemmas.List.{append-nil}
use Rattle.std.proofs.lemmas.List.Splits.{join_with_byte-slice_split}
use Rattle.std.proofs.lemmas.Str.{IsUtf8-from_ascii}
use Rattle.std.proofs.lemmas.Str.Ascii.{IsAscii-nil, IsAscii-cons}
use Rattle.llrp_schema.specs.declared.kinds.KindSet.{KindSet}
use Rattle.llrp_schema.specs.declared.kinds.MsgKind.{MsgKind}
use Rattle.llrp_schema.specs.declared.kinds.ParamKind.{ParamKind}
use Rattle.llrp_schema.specs.declared.kinds.Kind.{Kind}
use Rattle.llrp_schema.specs.declared.kinds.Kind.TheVariants.{Message, Parameter}
use Rattle.llrp_schema.specs.Schema.{name_of, set_of_kind, tail_of}
use Rattle.llrp_listing.specs.declared.outcome.Refusal.{Refusal}
use Rattle.llrp_listing.specs.declared.outcome.Refusal.TheVariants as refusal
use Rattle.llrp_listing.specs.declared.parse_line.Line.TheVariants as said
use Rattle.llrp_listing.specs.declared.parse_line.LineErr.{LineErr}
use Rattle.llrp_listing.specs.declared.parse_line.LineErr.TheVariants.{Refused, Memory}
use Rattle.llrp_listing.specs.declared.parse_line.MessageLine.{MessageLine}
use Rattle.llrp_listing.specs.declared.parse_line.ParameterLine.{ParameterLine}
use Rattle.llrp_listing.specs.declared.parse_line.LineStart.{LineStart}
use Rattle.llrp_listing.specs.OrderedChecks.{FirstFailing, AllHold}
use Rattle.llrp_listing.specs.LineChecks.{is_printed, word, body_checks, IsOpenLevel, IsNamed, IsTailOf, longest, start_checks, tail_count, word_count}
use Rattle.llrp_listing.specs.Private.LineReading.{AreRead, ReadsLine, ReadsMessage, ReadsParameter, ReadsStart, Starts}
use Rattle.llrp_listing.specs.NodeLine.{number_forms, tail_texts, spaced}
use Rattle.llrp_listing.specs.Lines.{words}
use Rattle.llrp_listing.specs.Private.Splits.{words_in}
use Rattle.tag_uri.proofs.UriLemmas.{left, right}
use Rattle.llrp_listing.proofs.LineWords.{named_name}

-- ---- printed bytes are text

printed_ascii : (bytes : List ℕ) → is_printed bytes ≡ true → IsAscii bytes
printed_ascii [] h = IsAscii-nil
printed_ascii (b ∷ bytes) h = IsAscii-cons b bytes (small b (left _ _ h)) (printed_ascii bytes (right _ _ h))
  where
    small : (b : ℕ) → (nat_le 32 b && nat_le b 126) ≡ true → b < 128
    small b h = grind arith

pub printed_utf8 : (bytes : List ℕ) → is_printed bytes ≡ true → IsUtf8 bytes
printed_utf8 bytes h = IsUtf8-from_ascii bytes (printed_ascii bytes h)

-- ---- words and text

pub join_spaced : (w : List ℕ) (ws : List (List ℕ)) → join_with_byte 32 (w ∷ ws) ≡ w ++ spaced ws
join_spaced w [] = sym (append-nil w)
join_spaced w (x ∷ ws) = ap (λ (z : List ℕ). w ++ (32 ∷ z)) (join_spaced x ws)

-- a line is its words with spaces between them
pub line_text : (bytes w : List ℕ) (ws : List (List ℕ)) → words bytes ≡ w ∷ ws → bytes ++ (10 ∷ []) ≡ w ++ (spaced ws ++ (10 ∷ []))
line_text bytes w ws e =
    ap (λ (z : List ℕ). z ++ (10 ∷ [])) (sym (join_with_byte-slice_split 32 bytes) ∙ ap (join_with_byte 32) e ∙ join_spaced w ws) ∙ append_assoc w (spaced ws) (10 ∷ [])

-- ---- refusals

pub line_long : {p : KindSet} (depth : ℕ) (bytes : List ℕ) → longest p < length bytes → ReadsLine p depth bytes (Err (Refused refusal.Line))
line_long depth bytes long = inl (inl (λ has. absurd (omega (arith, has.0)), refl))

pub start_bad : {p : KindSet} (depth : ℕ) (bytes : List ℕ) (reason : Refusal) → length bytes ≤ longest p → is_printed bytes ≡ true → ReadsStart p depth bytes (Err reason) → ReadsLine p depth bytes (Err (Refused reason))
start_bad depth bytes reason short printed h = elim h [
  | inl level ↦ inl (inr ((short, printed), inl (level.0, level.1)))
  | inr name ↦ inl (inr ((short, printed), inr (name.0, inl (name.1, name.2))))
]

module _ {p : KindSet} (depth : ℕ) (bytes : List ℕ) (start : LineStart) (short : length bytes ≤ longest p) (printed : is_printed bytes ≡ true) (s : Starts p depth bytes start) where
  level_word : word (words bytes) 0 ≡ decimal start.level
  level_word = ap (λ (z : List (List ℕ)). word z 0) s.are

  is_named : IsNamed p (words bytes) start.kind
  is_named = subst (λ (z : List (List ℕ)). IsNamed p z start.kind) (sym s.are) (named_name start.level (decimal start.level) (name_of start.kind) (words_in start.words) start.kind refl s.deep s.placed (s.own, refl))

  starts : AllHold (start_checks p depth bytes)
  starts = ((short, printed), ((start.level, level_word, s.deep, s.within), ((start.kind, is_named), tt)))

  body_words : drop 2 (words bytes) ≡ words_in start.words
  body_words = ap (drop 2) s.are

  pub rest_length : length (words bytes) ≡ word_count start.kind → length (words_in start.words) + 2 ≡ word_count start.kind
  rest_length count = omega (arith, count, ap length s.are)

  pub count_bad : (length (words bytes) ≡ word_count start.kind → ⊥) → ReadsLine p depth bytes (Err (Refused refusal.Fields))
  count_bad other = inr (record { starts = starts; kind = start.kind; named = is_named; fails = inl (other, refl) })

  pub message_bad : (kind : MsgKind) (e : LineErr) → start.kind ≡ Message kind → length (words bytes) ≡ word_count start.kind → ReadsMessage kind (words_in start.words) (Err e) → ReadsLine p depth bytes (Err e)
  message_bad kind Memory is count bad = tt
  message_bad kind (Refused reason) is count bad = inr (record {
    starts = starts;
    kind = Message kind;
    named = subst (IsNamed p (words bytes)) is is_named;
    fails = inr (count ∙ ap word_count is, subst (λ (z : List (List ℕ)). FirstFailing (body_checks (number_forms (Message kind)) (tail_of (Message kind)) z) reason) (sym body_words) bad);
  })

  pub parameter_bad : (kind : ParamKind) (level : ℕ) (e : LineErr) → start.kind ≡ Parameter kind → length (words bytes) ≡ word_count start.kind → ReadsParameter level kind (words_in start.words) (Err e) → ReadsLine p depth bytes (Err e)
  parameter_bad kind level Memory is count bad = tt
  parameter_bad kind level (Refused reason) is count bad = inr (record {
    starts = starts;
    kind = Parameter kind;
    named = subst (IsNamed p (words bytes)) is is_named;
    fails = inr (count ∙ ap word_count is, subst (λ (z : List (List ℕ)). FirstFailing (body_checks (number_forms (Parameter kind)) (tail_of (Parameter kind)) z) reason) (sym body_words) bad);
  })

  pub message_said : (kind : MsgKind) (line : MessageLine) → start.kind ≡ Message kind → ReadsMessage kind (words_in start.words) (Ok line) → ReadsLine p depth bytes (Ok (said.Message line))
  message_said kind line is h =
      let same : start.kind ≡ Message line.kind = is ∙ ap Message (sym h.kind_is) in
      let placed : IsOpenLevel start.level (Message kind) = subst (IsOpenLevel start.level) is s.placed in
      let r : AreRead (number_forms (Message line.kind)) (words_in start.words) (line.version ∷ line.id ∷ line.fields.items) (tail_texts (tail_of (Message line.kind)) line.tail) = subst (λ (k : MsgKind). AreRead (number_forms (Message k)) (words_in start.words) (line.version ∷ line.id ∷ line.fields.items) (tail_texts (tail_of (Message k)) line.tail)) (sym h.kind_is) h.numbers in
      let all : words bytes ≡ decimal 0 ∷ name_of (Message line.kind) ∷ (r.texts ++ tail_texts (tail_of (Message line.kind)) line.tail) =
      s.are ∙ ap (λ (z : ℕ). decimal z ∷ name_of start.kind ∷ words_in start.words) placed ∙ ap (λ (k : Kind). decimal 0 ∷ name_of k ∷ words_in start.words) same
      ∙ ap (λ (z : List (List ℕ)). decimal 0 ∷ name_of (Message line.kind) ∷ z) r.words in
      record {
        short = short;
        deep = omega arith;
        placed = refl;
        own = ap set_of_kind (sym same) ∙ s.own;
        numbers = r.in_form;
        tail = subst (λ (k : MsgKind). IsTailOf (tail_of (Message k)) line.tail) (sym h.kind_is) h.tail;
        text = record { numbers = r.texts; are = r.are; text_is = line_text bytes (decimal 0) (name_of (Message line.kind) ∷ (r.texts ++ tail_texts (tail_of (Message line.kind)) line.tail)) all };
      }

  pub parameter_said : (kind : ParamKind) (line : ParameterLine) → start.kind ≡ Parameter kind → ReadsParameter start.level kind (words_in start.words) (Ok line) → ReadsLine p depth bytes (Ok (said.Parameter line))
  parameter_said kind line is h =
      let same : start.kind ≡ Parameter line.kind = is ∙ ap Parameter (sym h.kind_is) in
      let placed : IsOpenLevel start.level (Parameter kind) = subst (IsOpenLevel start.level) is s.placed in
      let level : start.level ≡ line.level = sym h.level_is in
      let r : AreRead (number_forms (Parameter line.kind)) (words_in start.words) line.fields.items (tail_texts (tail_of (Parameter line.kind)) line.tail) =
      subst (λ (k : ParamKind). AreRead (number_forms (Parameter k)) (words_in start.words) line.fields.items (tail_texts (tail_of (Parameter k)) line.tail)) (sym h.kind_is) h.numbers in
      let all : words bytes ≡ decimal line.level ∷ name_of (Parameter line.kind) ∷ (r.texts ++ tail_texts (tail_of (Parameter line.kind)) line.tail) =
      s.are ∙ ap (λ (z : ℕ). decimal z ∷ name_of start.kind ∷ words_in start.words) level ∙ ap (λ (k : Kind). decimal line.level ∷ name_of k ∷ words_in start.words) same
      ∙ ap (λ (z : List (List ℕ)). decimal line.level ∷ name_of (Parameter line.kind) ∷ z) r.words in (
        record {
          short = short;
          deep = omega (arith, s.deep, level);
          placed = omega (arith, placed, level);
          own = ap set_of_kind (sym same) ∙ s.own;
          numbers = r.in_form;
          tail = subst (λ (k : ParamKind). IsTailOf (tail_of (Parameter k)) line.tail) (sym h.kind_is) h.tail;
          text = record { numbers = r.texts; are = r.are; text_is = line_text bytes (decimal line.level) (name_of (Parameter line.kind) ∷ (r.texts ++ tail_texts (tail_of (Parameter line.kind)) line.tail)) all };
        },
        omega (arith, s.within, level),
      )

-- as many words are after the name as the kind has numbers, and a tail
pub message_count : {p : KindSet} (depth : ℕ) (bytes : List ℕ) (start : LineStart) → Starts p depth bytes start → (kind : MsgKind) → start.kind ≡ Message kind → length (words bytes) ≡ word_count start.kind → length (words_in start.words) ≡ length (number_forms (Message kind)) + tail_count (tail_of (Message kind))
message_count depth bytes start s kind is count =
    let n = ap length s.are in
    omega (arith, n, count ∙ ap word_count is)
