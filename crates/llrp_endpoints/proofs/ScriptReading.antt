-- How a script is read line by line, and when its text is refused whatever follows.
use Rattle.std.proofs.Common.{◌≡◌, ℕ, ◌+◌, ◌<◌, List, [], ◌∷◌, ◌++◌, length, inl, inr, Result, Ok, Err, ap, subst, ◌∙◌, arith, append_assoc, length-append}
use Rattle.std.specs.Prelude.{◌==◌, true, IfErr, IfOk}
use Rattle.std.proofs.lemmas.Bool.{cases_lt, eq-eqb}
use Rattle.std.proofs.lemmas.List.{append-nil}
use Rattle.llrp_stream.specs.Device.{SourceLog}
use Rattle.llrp_listing.specs.declared.outcome.ToolErr.{ToolErr}
use Rattle.llrp_listing.specs.declared.outcome.ToolErr.TheVariants.{Listing, Script, Hex, Read, Write, Bound, Broken, Memory, Peer, Strange, Early}
use Rattle.llrp_listing.specs.Copying.{ReadAll}
use Rattle.llrp_listing.specs.Calls.Copying.{Given, GivesNone}
use Rattle.llrp_listing.specs.Calls.Splits.{Lacks, IsSplit}
use Rattle.llrp_endpoints.specs.declared.script.Entry.{Entry}
use Rattle.llrp_endpoints.specs.declared.script.TheConstants.{LONGEST_ENTRY}
use Rattle.llrp_endpoints.specs.Calls.ReadScript.{EndsInLine, ReadsScript, StaysRefused}
use Rattle.llrp_endpoints.specs.Calls.Script.{Begins, Continues, IsEntryLine, IsInRange, IsLawfulScript, IsRefusedAt, IsScript, NoneContinues, ParseStopped}
use Rattle.llrp_endpoints.specs.Private.Script.{EndsBy, Follows, MayFollow, MayGoOn, NoneFollows, RefusesAfter, RefusesText, TakesLines, TakesPiece}
use Rattle.llrp_listing.proofs.DeviceLemmas.{gave_nothing}
use Rattle.llrp_endpoints.proofs.ScriptEntries.{lawful_last, lawful_push, next_line, no_line, one_entry}
use Rattle.llrp_endpoints.proofs.ScriptLengths.{line_short}
use Rattle.llrp_endpoints.proofs.ScriptTexts.{begins_all, begins_more, begins_none, refused_at}

-- ---- more text

begins_with : (whole : List ℕ) (entries : List Entry) (rest more : List ℕ) → Begins whole entries rest → Begins (whole ++ more) entries (rest ++ more)
begins_with whole entries rest more b = record { front = b.front; script = b.script; text_is = ap (λ (x : List ℕ). x ++ more) b.text_is ∙ append_assoc b.front rest more }

split_more : (text line rest more : List ℕ) → IsSplit 10 text line rest → IsSplit 10 (text ++ more) line (rest ++ more)
split_more text line rest more p = (p.0, ap (λ (x : List ℕ). x ++ more) p.1 ∙ append_assoc line (10 ∷ rest) more)

-- ---- an ended line

follows : (entries : List Entry) (text line rest : List ℕ) (e : Entry) → IsLawfulScript entries → IsSplit 10 text line rest → Follows entries line e → Continues entries text e rest
follows entries text line rest e lawful p f = record { line = line; says = f.1; text_is = p.1; lawful = lawful_push entries e lawful f.0 f.2 }

-- the one entry of a line may not follow
pub none_may : (entries : List Entry) (line : List ℕ) (e : Entry) → IsInRange e → IsEntryLine e line → (MayFollow entries e.after e.now → ⊥) → NoneFollows entries line
none_may entries line e r says never d f = let same : d ≡ e = one_entry d e line f.0 r f.1 says in never (subst (λ (x : Entry). MayFollow entries x.after x.now) same f.2)

none_continues : (entries : List Entry) (text line rest : List ℕ) → IsSplit 10 text line rest → NoneFollows entries line → NoneContinues entries text
none_continues entries text line rest p none e more h = let next = next_line entries text line rest e more p h in none e (next.in_range, next.says, next.may)

some_octets : (text line rest : List ℕ) → IsSplit 10 text line rest → 0 < length text
some_octets text line rest p = omega (arith, ap length p.1, length-append line (10 ∷ rest))

-- the line of no entry that may follow is refused, whatever follows it
pub line_refused : (whole : List ℕ) (entries : List Entry) (text line rest : List ℕ) → IsSplit 10 text line rest → NoneFollows entries line → Begins whole entries text → StaysRefused whole (length entries + 1)
line_refused whole entries text line rest p none b = λ more.
    let q = split_more text line rest more p in
    refused_at (whole ++ more) entries (text ++ more) (begins_with whole entries text more b) (some_octets (text ++ more) line (rest ++ more) q) (none_continues entries (text ++ more) line (rest ++ more) q none)

-- one line more was taken
pub take_more : (old entries new : List Entry) (text rest line after : List ℕ) (e : Entry) → IsLawfulScript entries × ((whole : List ℕ) → Begins whole old text → Begins whole entries rest) → IsSplit 10 rest line after → Follows entries line e → new ≡ entries ++ e ∷ []
    → IsLawfulScript new × ((whole : List ℕ) → Begins whole old text → Begins whole new after)
take_more old entries new text rest line after e h p f is = rw is (lawful_push entries e h.0 f.0 f.2, λ whole b. begins_more whole entries rest e after (h.1 whole b) (follows entries rest line after e h.0 p f))

-- ---- a line without its end

-- a byte that is lacked ends no shorter line
lacks_within : (a b x y : List ℕ) → a ++ x ≡ b ++ (10 ∷ y) → Lacks 10 a → length b < length a → ⊥
lacks_within [] b x y e h lt = omega (arith, lt)
lacks_within (c ∷ a) [] x y e h lt = let t : (c == 10) ≡ true = eq-eqb c 10 cc in let f = h.0 in cc
lacks_within (c ∷ a) (d ∷ b) x y e h lt = let tails : a ++ x ≡ b ++ (10 ∷ y) = cc in lacks_within a b x y tails h.1 (omega (arith, lt))

none_goes_on : (entries : List Entry) (line more : List ℕ) → Lacks 10 line → (MayGoOn entries line → ⊥) → NoneContinues entries (line ++ more)
none_goes_on entries line more unended never e rest h =
    let last = lawful_last entries e h.lawful in
    let room = last.1.room in
    elim (cases_lt LONGEST_ENTRY (length line)) [
      | inl long ↦ let short = line_short e h.line last.0 h.says in lacks_within line h.line more rest h.text_is unended (omega (arith, short, long))
      | inr fits ↦ never (inr (fits, room))
    ]

some_there : (entries : List Entry) (line more : List ℕ) → (MayGoOn entries line → ⊥) → 0 < length (line ++ more)
some_there entries line more never = elim (cases_lt 0 (length line)) [ inl some ↦ omega (arith, some, length-append line more) | inr none ↦ absurd (never (inl (omega (arith, none)))) ]

-- a line that cannot become an entry's is refused, whatever follows it
pub front_refused : (whole : List ℕ) (entries : List Entry) (line : List ℕ) → Lacks 10 line → (MayGoOn entries line → ⊥) → Begins whole entries line → StaysRefused whole (length entries + 1)
front_refused whole entries line unended never b = λ more.
    refused_at (whole ++ more) entries (line ++ more) (begins_with whole entries line more b) (some_there entries line more never) (none_goes_on entries line more unended never)

pub ends_in_line : (whole : List ℕ) (entries : List Entry) (line : List ℕ) → Lacks 10 line → MayGoOn entries line → Begins whole entries line → EndsInLine whole entries line
ends_in_line whole entries line unended (inl none) b = record { begins = b; unended = unended; short = omega (arith, none); room = λ some. absurd (omega (arith, none, some)) }
ends_in_line whole entries line unended (inr may) b = record { begins = b; unended = unended; short = may.0; room = λ some. may.1 }

-- ---- the end

-- a line without LF is the last, and refused
last_refused : (text : List ℕ) (entries : List Entry) (rest : List ℕ) → Lacks 10 rest → Begins text entries rest → 0 < length rest → IsRefusedAt text (length entries + 1)
last_refused text entries rest unended b some = refused_at text entries rest b some (no_line entries rest unended)

at_nothing : (text : List ℕ) (line : ℕ) → StaysRefused text line → IsRefusedAt text line
at_nothing text line h = subst (λ (x : List ℕ). IsRefusedAt x line) (append-nil text) (h [])

pub parse_refused : (text : List ℕ) (e : ToolErr) → RefusesText text e → ParseStopped text e
parse_refused text (Script line) h = at_nothing text line h
parse_refused text Memory h = tt
parse_refused text (Listing line reason) h = absurd h
parse_refused text Hex h = absurd h
parse_refused text Read h = absurd h
parse_refused text Write h = absurd h
parse_refused text Bound h = absurd h
parse_refused text Broken h = absurd h
parse_refused text (Peer status) h = absurd h
parse_refused text Strange h = absurd h
parse_refused text Early h = absurd h

-- ---- a whole text

-- nothing was taken of a text at first
at_first : (text : List ℕ) (old : List Entry) → old ≡ [] → Begins text old text
at_first text old first = rw first (begins_none text)

pub parse_failed : (text : List ℕ) (old : List Entry) (e : ToolErr) → old ≡ [] → RefusesAfter old text e → ParseStopped text e
parse_failed text old e first h = parse_refused text e (h text (at_first text old first))

pub parse_script : (text : List ℕ) (old entries : List Entry) (rest : List ℕ) (result : Result (List Entry) ToolErr) → old ≡ [] → TakesLines old entries text rest → EndsBy entries rest result → IfOk result (λ script. IsScript script text)
parse_script text old entries rest (Ok script) first t e = rw e.1 (begins_all text entries rest (t.begins text (at_first text old first)) (ap length e.0))
parse_script text old entries rest (Err x) first t e = tt

pub parse_stopped : (text : List ℕ) (old entries : List Entry) (rest : List ℕ) (result : Result (List Entry) ToolErr) → old ≡ [] → TakesLines old entries text rest → EndsBy entries rest result → IfErr result (λ e. ParseStopped text e)
parse_stopped text old entries rest (Ok script) first t e = tt
parse_stopped text old entries rest (Err x) first t e = rw e.1 (last_refused text entries rest t.unended (t.begins text (at_first text old first)) e.0)

-- ---- a source

-- What was read: the lines of these entries, and less than a line.
pub record Reading (r0 r1 : SourceLog) (reads : ℕ) (entries : List Entry) (line : List ℕ) : Type 0 where
  pub text : List ℕ
  pub given : Given r0 r1 reads text
  pub ends : EndsInLine text entries line

pub reading_none : (r : SourceLog) (reads : ℕ) (entries : List Entry) (line : List ℕ) → reads ≡ 0 → entries ≡ [] → line ≡ [] → Reading r r reads entries line
reading_none r reads entries line none first empty = rw (none, first, empty) (record {
  text = [];
  given = record { gave = gave_nothing r; few = omega arith };
  ends = record { begins = begins_none []; unended = tt; short = omega arith; room = λ some. absurd (omega (arith, some)) };
})

-- no piece came
pub unread : (r0 r1 : SourceLog) (text : List ℕ) (entries : List Entry) (line : List ℕ) (e : ToolErr) → EndsInLine text entries line → GivesNone r0 r1 text e → ReadsScript r0 r1 (Err e)
unread r0 r1 text entries line e h (inl n) = rw n.0 (text, (n.1, n.2), (entries, line, h))
unread r0 r1 text entries line e h (inr n) = rw n.0 (text, n.1, (entries, line, h))

pub unheld : (r0 r1 : SourceLog) (reads : ℕ) (text : List ℕ) → Given r0 r1 reads text → ReadsScript r0 r1 (Err Memory)
unheld r0 r1 reads text given = (text, (reads, given.gave))

piece_answer : (r0 r1 : SourceLog) (reads : ℕ) (text : List ℕ) (e : ToolErr) → Given r0 r1 reads text → RefusesText text e → ReadsScript r0 r1 (Err e)
piece_answer r0 r1 reads text (Script line) given h = (text, inr ((reads, given.few, given.gave), h))
piece_answer r0 r1 reads text Memory given h = unheld r0 r1 reads text given
piece_answer r0 r1 reads text (Listing line reason) given h = absurd h
piece_answer r0 r1 reads text Hex given h = absurd h
piece_answer r0 r1 reads text Read given h = absurd h
piece_answer r0 r1 reads text Write given h = absurd h
piece_answer r0 r1 reads text Bound given h = absurd h
piece_answer r0 r1 reads text Broken given h = absurd h
piece_answer r0 r1 reads text (Peer status) given h = absurd h
piece_answer r0 r1 reads text Strange given h = absurd h
piece_answer r0 r1 reads text Early given h = absurd h

-- a line of the piece was refused
pub piece_refused : (r0 r1 : SourceLog) (reads : ℕ) (text piece : List ℕ) (entries : List Entry) (line : List ℕ) (e : ToolErr) → EndsInLine text entries line → Given r0 r1 reads (text ++ piece) → RefusesAfter entries (line ++ piece) e → ReadsScript r0 r1 (Err e)
piece_refused r0 r1 reads text piece entries line e h given refuses = piece_answer r0 r1 reads (text ++ piece) e given (refuses (text ++ piece) (begins_with text entries line piece h.begins))

-- none was
pub piece_taken : (r0 r1 : SourceLog) (reads : ℕ) (text piece : List ℕ) (entries new : List Entry) (line next : List ℕ) → EndsInLine text entries line → Given r0 r1 reads (text ++ piece) → TakesPiece entries new (line ++ piece) next → Reading r0 r1 reads new next
piece_taken r0 r1 reads text piece entries new line next h given takes = record { text = text ++ piece; given = given; ends = takes (text ++ piece) (begins_with text entries line piece h.begins) }

-- the source ended
pub read_ended : (r0 r1 : SourceLog) (text : List ℕ) (entries : List Entry) (line : List ℕ) (result : Result (List Entry) ToolErr) → EndsInLine text entries line → ReadAll r0 r1 text → EndsBy entries line result → ReadsScript r0 r1 result
read_ended r0 r1 text entries line (Ok script) h all e = (text, all, rw e.1 (begins_all text entries line h.begins (ap length e.0)))
read_ended r0 r1 text entries line (Err x) h all e = rw e.1 (text, inl (all, last_refused text entries line h.unended h.begins e.0))
