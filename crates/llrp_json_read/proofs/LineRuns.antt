-- How lines of JSON that come in pieces go on.
use Rattle.std.proofs.Common.{◌≡◌, ℕ, ◌+◌, ◌<◌, ◌≤◌, List, [], ◌∷◌, ◌++◌, length, refl, sym, ap, subst, ◌∙◌, arith, Ok, Err, append_assoc, length-append, inl, inr}
use Rattle.std.specs.Prelude.{IfErr, OnOk, Result}
use Rattle.std.proofs.lemmas.List.{append-nil}
use Rattle.std.specs.List.{flat_map}
use Rattle.std.proofs.lemmas.List.Concat.{flat_map-append}
use Rattle.llrp_schema.specs.declared.kinds.KindSet.{KindSet}
use Rattle.llrp_tree.specs.Frame.{Frame}
use Rattle.llrp_tree.specs.Tree.{MessageTree}
use Rattle.llrp_listing.specs.Calls.Splits.{Lacks}
use Rattle.llrp_listing.specs.Lines.{TextLine, Ended, Unended, lines_of, NoLf}
use Rattle.llrp_listing.proofs.Cutting.{ended, unended, as_ended, as_unended, begins}
use Rattle.llrp_listing.proofs.Zips.{zip_append}
use Rattle.llrp_json_read.specs.declared.refusal.ReadErr.{ReadErr}
use Rattle.llrp_json_read.specs.declared.refusal.ReadErr.TheVariants as unread
use Rattle.llrp_json_read.specs.declared.refusal.Reason.TheVariants as reason
use Rattle.llrp_json_read.specs.declared.run.Lines.{Lines}
use Rattle.llrp_json_read.specs.declared.run.TakeErr.{TakeErr}
use Rattle.llrp_json_read.specs.declared.run.TakeErr.TheVariants.{Line, Memory}
use Rattle.llrp_json_read.specs.Calls.ReadErrors.{IsReadErr, told}
use Rattle.llrp_json_read.specs.JsonLine.{RefusesLineWithin, SaysLine}
use Rattle.llrp_json_read.specs.LinesRead.{AreLineFrames, EncodesEnded, RefusesOctets, RefusesText, SpellsLine, longest, octets_of}
use Rattle.llrp_json_read.specs.ObjectRefused.{Refused, whole}
use Rattle.llrp_json_read.specs.Private.Lines.{EndsLine, IsEnded, IsTold, IsTooLong, Stands, StopsWithin, Takes}

-- ---- frames

no_frames : (p : KindSet) (limit : ℕ) → AreLineFrames p limit [] []
no_frames p limit = record { frames = []; each = tt; bytes_are = refl }

more_frames : (p : KindSet) (limit : ℕ) (lines : List TextLine) (line : TextLine) (bytes frame : List ℕ) → AreLineFrames p limit lines bytes → SpellsLine p limit line frame → AreLineFrames p limit (lines ++ line ∷ []) (bytes ++ frame)
more_frames p limit lines line bytes frame a s = record {
  frames = a.frames ++ frame ∷ [];
  each = zip_append (SpellsLine p limit) lines (line ∷ []) a.frames (frame ∷ []) a.each (s, tt);
  bytes_are = ap (λ (x : List ℕ). x ++ frame) a.bytes_are ∙ (ap (λ (x : List ℕ). flat_map (λ (y : List ℕ). y) a.frames ++ x) (sym (append-nil frame)) ∙ sym (flat_map-append (λ (y : List ℕ). y) a.frames (frame ∷ [])));
}

-- ---- the text and the line go on

lacks_append : (c : ℕ) (x y : List ℕ) → Lacks c x → Lacks c y → Lacks c (x ++ y)
lacks_append c [] y p q = q
lacks_append c (b ∷ x) y p q = (p.0, lacks_append c x y p.1 q)

abbrev Cut : List TextLine → List ℕ → List ℕ → Type 0
Cut front text line = (more : List ℕ) → lines_of (text ++ more) ≡ front ++ lines_of (line ++ more)

cuts_more : (front : List TextLine) (text line part : List ℕ) → Cut front text line → Cut front (text ++ part) (line ++ part)
cuts_more front text line part cuts more = ap lines_of (append_assoc text part more) ∙ cuts (part ++ more) ∙ ap (λ (z : List ℕ). front ++ lines_of z) (sym (append_assoc line part more))

cuts_line : (front : List TextLine) (text line more : List ℕ) → Cut front text line → NoLf line → lines_of (text ++ (10 ∷ more)) ≡ front ++ (Ended line ∷ lines_of more)
cuts_line front text line more cuts n = cuts (10 ∷ more) ∙ ap (λ (z : List TextLine). front ++ z) (ended line more n)

pub stands_new : (p : KindSet) (limit : ℕ) (now : Lines) → now.line.items ≡ [] → now.number ≡ 0 → Stands p limit [] now []
stands_new p limit now line number = record {
  front = [];
  unended = subst NoLf (sym line) tt;
  cuts = λ more. ap (λ (x : List ℕ). lines_of (x ++ more)) (sym line);
  counted = number;
  frames = no_frames p limit;
}

-- the begun line goes on
pub went_on : (p : KindSet) (limit : ℕ) (text bytes part : List ℕ) (old new : Lines) → Stands p limit text old bytes → Lacks 10 part → new.line.items ≡ old.line.items ++ part → new.number ≡ old.number → Stands p limit (text ++ part) new bytes
went_on p limit text bytes part old new s lacks line number = record {
  front = s.front;
  unended = subst NoLf (sym line) (lacks_append 10 old.line.items part s.unended lacks);
  cuts = λ more. cuts_more s.front text old.line.items part s.cuts more ∙ ap (λ (x : List ℕ). s.front ++ lines_of (x ++ more)) (sym line);
  counted = number ∙ s.counted;
  frames = s.frames;
}

-- the begun line ends, and says a message
pub line_ended : (p : KindSet) (limit : ℕ) (text bytes frame : List ℕ) (m : MessageTree) (old new : Lines) → Stands p limit text old bytes → length old.line.items ≤ longest limit → SaysLine p old.line.items m → Frame m frame limit → new.line.items ≡ [] → new.number ≡ old.number + 1
    → Stands p limit (text ++ (10 ∷ [])) new (bytes ++ frame)
line_ended p limit text bytes frame m old new s short says is line number = record {
  front = s.front ++ Ended old.line.items ∷ [];
  unended = subst NoLf (sym line) tt;
  cuts = λ more.
      ap lines_of (append_assoc text (10 ∷ []) more) ∙ cuts_line s.front text old.line.items more s.cuts s.unended ∙ sym (append_assoc s.front (Ended old.line.items ∷ []) (lines_of more))
      ∙ ap (λ (x : List ℕ). (s.front ++ Ended old.line.items ∷ []) ++ lines_of (x ++ more)) (sym line);
  counted = number ∙ (ap (λ (n : ℕ). n + 1) s.counted ∙ omega (arith, length-append s.front (Ended old.line.items ∷ [])));
  frames = more_frames p limit s.front (Ended old.line.items) bytes frame s.frames (record { message = m; short = short; says = says; is = is });
}

-- all that ended in the text
pub ended_frames : (p : KindSet) (limit : ℕ) (text bytes : List ℕ) (now : Lines) → Stands p limit text now bytes → EncodesEnded p limit text bytes
ended_frames p limit text bytes now s = record { lines = s.front; begun = now.line.items; unended = s.unended; cuts = s.cuts; frames = s.frames }

-- ---- a line is refused

refused_at : (p : KindSet) (limit : ℕ) (text bytes whole_text : List ℕ) (now : Lines) (line : TextLine) (after : List TextLine) (number : ℕ) (r : Refused) → (s : Stands p limit text now bytes) → lines_of whole_text ≡ s.front ++ (line ∷ after) → number ≡ now.number + 1 → RefusesOctets p limit (octets_of line) r
    → RefusesText p limit whole_text number r bytes
refused_at p limit text bytes whole_text now line after number r s is n bad = record {
  before = s.front;
  line = line;
  after = after;
  lines_are = is;
  counted = n ∙ ap (λ (k : ℕ). k + 1) s.counted;
  accepted = s.frames;
  refuses = bad;
}

-- a line that has begun is too long, whatever follows
long_at : (p : KindSet) (limit : ℕ) (text bytes part more : List ℕ) (now : Lines) (number : ℕ) → (s : Stands p limit text now bytes) → Lacks 10 part → longest limit < length (now.line.items ++ part) → number ≡ now.number + 1
    → RefusesText p limit ((text ++ part) ++ more) number (whole reason.Line) bytes
long_at p limit text bytes part more now number s lacks long n = on (now.line.items ++ part) long (lacks_append 10 now.line.items part s.unended lacks) (cuts_more s.front text now.line.items part s.cuts more)
  where
    on : (l : List ℕ) → longest limit < length l → NoLf l → lines_of ((text ++ part) ++ more) ≡ s.front ++ lines_of (l ++ more) → RefusesText p limit ((text ++ part) ++ more) number (whole reason.Line) bytes
    on [] lt none e = absurd (omega arith)
    on (c ∷ l) lt none e = elim (begins c l more none) [
      | as_ended y rest f ↦ refused_at p limit text bytes ((text ++ part) ++ more) now (Ended ((c ∷ l) ++ y)) rest number (whole reason.Line) s (e ∙ ap (λ (z : List TextLine). s.front ++ z) f) n (inl (omega (arith, length-append (c ∷ l) y), refl))
      | as_unended y rest f ↦ refused_at p limit text bytes ((text ++ part) ++ more) now (Unended ((c ∷ l) ++ y)) rest number (whole reason.Line) s (e ∙ ap (λ (z : List TextLine). s.front ++ z) f) n (inl (omega (arith, length-append (c ∷ l) y), refl))
    ]

stops : (p : KindSet) (limit : ℕ) (text back bytes : List ℕ) (now : Lines) → Stands p limit text now bytes → StopsWithin p limit (text ++ back) bytes
stops p limit text back bytes now s = (text, back, refl, ended_frames p limit text bytes now s)

pub too_long : (p : KindSet) (limit : ℕ) (text bytes part after : List ℕ) (now new : Lines) (e : TakeErr) → Stands p limit text now bytes → Lacks 10 part → IsTooLong limit (now.number + 1) (now.line.items ++ part) e → Takes p limit (text ++ (part ++ after)) bytes new (Err e)
too_long p limit text bytes part after now new Memory s lacks long = (stops p limit text (part ++ after) bytes now s, tt)
too_long p limit text bytes part after now new (Line line) s lacks (number, path, why, long) = (
  stops p limit text (part ++ after) bytes now s,
  (
    whole reason.Line,
    record { path = path; reason = why },
    λ more. subst (λ (x : List ℕ). RefusesText p limit x line.number (whole reason.Line) bytes) (same more) (long_at p limit text bytes part (after ++ more) now line.number s lacks long number),
  ),
)
  where
    same : (more : List ℕ) → (text ++ part) ++ (after ++ more) ≡ (text ++ (part ++ after)) ++ more
    same more = sym (append_assoc (text ++ part) after more) ∙ ap (λ (x : List ℕ). x ++ more) (append_assoc text part after)

pub line_refused : (p : KindSet) (limit : ℕ) (text bytes after out0 out1 : List ℕ) (now new : Lines) (e : TakeErr) → Stands p limit text now bytes → length now.line.items ≤ longest limit → EndsLine p limit now.line.items (now.number + 1) out0 out1 (Err e)
    → Takes p limit (text ++ (10 ∷ after)) bytes new (Err e)
line_refused p limit text bytes after out0 out1 now new Memory s short h = (stops p limit text (10 ∷ after) bytes now s, tt)
line_refused p limit text bytes after out0 out1 now new (Line line) s short (r, number, is, bad, same) = (
  stops p limit text (10 ∷ after) bytes now s,
  (
    r,
    is,
    λ more.
        refused_at p limit text bytes ((text ++ (10 ∷ after)) ++ more) now (Ended now.line.items) (lines_of (after ++ more)) line.number r s
        (ap lines_of (append_assoc text (10 ∷ after) more) ∙ cuts_line s.front text now.line.items (after ++ more) s.cuts s.unended) number (inr (short, bad)),
  ),
)

-- nothing was appended where a line is refused
pub none_appended : (p : KindSet) (limit number : ℕ) (octets out0 out1 : List ℕ) (e : TakeErr) → EndsLine p limit octets number out0 out1 (Err e) → out1 ≡ out0
none_appended p limit number octets out0 out1 Memory h = h
none_appended p limit number octets out0 out1 (Line line) (r, n, is, bad, same) = same

-- ---- the end of the text

all_lines : (p : KindSet) (limit : ℕ) (text bytes line : List ℕ) (now : Lines) → (s : Stands p limit text now bytes) → line ≡ now.line.items → length line ≡ 0 → lines_of text ≡ s.front
unfolding lines_of
all_lines p limit text bytes [] now s is none = ap lines_of (sym (append-nil text)) ∙ s.cuts [] ∙ ap (λ (x : List ℕ). s.front ++ lines_of (x ++ [])) (sym is) ∙ append-nil s.front
all_lines p limit text bytes (b ∷ line) now s is none = absurd (omega arith)

last_line : (p : KindSet) (limit : ℕ) (text bytes line : List ℕ) (now : Lines) → (s : Stands p limit text now bytes) → line ≡ now.line.items → 0 < length line → lines_of text ≡ s.front ++ (Unended now.line.items ∷ [])
last_line p limit text bytes [] now s is some = absurd (omega arith)
last_line p limit text bytes (b ∷ x) now s is some =
    ap lines_of (sym (append-nil text)) ∙ s.cuts [] ∙ ap (λ (z : List ℕ). s.front ++ lines_of z) (append-nil now.line.items ∙ sym is)
    ∙ ap (λ (z : List TextLine). s.front ++ z) (unended b x (subst NoLf (sym is) s.unended) ∙ ap (λ (z : List ℕ). Unended z ∷ []) is)

pub ends_whole : (p : KindSet) (limit : ℕ) (text bytes : List ℕ) (now : Lines) → Stands p limit text now bytes → length now.line.items ≡ 0 → AreLineFrames p limit (lines_of text) bytes
ends_whole p limit text bytes now s none = subst (λ (z : List TextLine). AreLineFrames p limit z bytes) (sym (all_lines p limit text bytes now.line.items now s refl none)) s.frames

pub ends_last : (p : KindSet) (limit : ℕ) (text bytes out0 out1 : List ℕ) (now : Lines) (answer : Result (Unit {0}) TakeErr) → Stands p limit text now bytes → 0 < length now.line.items → length now.line.items ≤ longest limit → EndsLine p limit now.line.items (now.number + 1) out0 out1 answer
    → (more : List ℕ) × (out1 ≡ out0 ++ more) × IsEnded p limit text (bytes ++ more) answer
ends_last p limit text bytes out0 out1 now (Ok u) s some short (m, frame, says, is, grown) = (
  frame,
  grown,
  subst (λ (z : List TextLine). AreLineFrames p limit z (bytes ++ frame)) (sym (last_line p limit text bytes now.line.items now s refl some)) (more_frames p limit s.front (Unended now.line.items) bytes frame s.frames (record { message = m; short = short; says = says; is = is })),
)
ends_last p limit text bytes out0 out1 now (Err Memory) s some short same = ([], same ∙ sym (append-nil out0), subst (EncodesEnded p limit text) (sym (append-nil bytes)) (ended_frames p limit text bytes now s))
ends_last p limit text bytes out0 out1 now (Err (Line line)) s some short (r, number, is, bad, same) = (
  [],
  same ∙ sym (append-nil out0),
  (
    subst (EncodesEnded p limit text) (sym (append-nil bytes)) (ended_frames p limit text bytes now s),
    r,
    is,
    subst (λ (x : List ℕ). RefusesText p limit text line.number r x) (sym (append-nil bytes))
        (refused_at p limit text bytes text now (Unended now.line.items) [] line.number r s (last_line p limit text bytes now.line.items now s refl some) number (inr (short, bad))),
  ),
)

-- ---- steps over a piece

-- a text with what was taken of a piece and what is left is the text with the piece
pub piece_ends : (text taken piece rest left : List ℕ) → piece ≡ taken ++ rest → rest ≡ left → (text ++ taken) ++ left ≡ text ++ piece
piece_ends text taken piece rest left parts is = append_assoc text taken left ∙ ap (λ (x : List ℕ). text ++ x) (ap (λ (x : List ℕ). taken ++ x) (sym is) ∙ sym parts)

-- a part of a line with its end was taken
pub took_line : (p : KindSet) (limit : ℕ) (text taken part bytes more frame : List ℕ) (m : MessageTree) (old mid new : Lines) → Stands p limit (text ++ taken) old (bytes ++ more) → Lacks 10 part → mid.line.items ≡ old.line.items ++ part → mid.number ≡ old.number → length mid.line.items ≤ longest limit
    → SaysLine p mid.line.items m → Frame m frame limit → new.line.items ≡ [] → new.number ≡ mid.number + 1 → Stands p limit (text ++ ((taken ++ part) ++ 10 ∷ [])) new (bytes ++ (more ++ frame))
took_line p limit text taken part bytes more frame m old mid new s lacks line number short says is empty counted =
    let grown = went_on p limit (text ++ taken) (bytes ++ more) part old mid s lacks line number in
    let done = line_ended p limit ((text ++ taken) ++ part) (bytes ++ more) frame m mid new grown short says is empty counted in
    let same : ((text ++ taken) ++ part) ++ (10 ∷ []) ≡ text ++ ((taken ++ part) ++ 10 ∷ []) =
    ap (λ (x : List ℕ). x ++ (10 ∷ [])) (append_assoc text taken part) ∙ append_assoc text (taken ++ part) (10 ∷ []) in
    subst (λ (x : List ℕ). Stands p limit x new (bytes ++ (more ++ frame))) same (subst (λ (x : List ℕ). Stands p limit (((text ++ taken) ++ part) ++ (10 ∷ [])) new x) (append_assoc bytes more frame) done)

-- the last part of a piece, which ends no line, was taken
pub ended_after : (p : KindSet) (limit : ℕ) (text taken piece rest bytes : List ℕ) (old new : Lines) (answer : Result (Unit {0}) TakeErr) → piece ≡ taken ++ rest → Stands p limit (text ++ taken) old bytes → Lacks 10 rest → OnOk answer (new.line.items ≡ old.line.items ++ rest) → OnOk answer (new.number ≡ old.number)
    → IfErr answer (IsTooLong limit (old.number + 1) (old.line.items ++ rest)) → Takes p limit (text ++ piece) bytes new answer
ended_after p limit text taken piece rest bytes old new (Ok u) parts s lacks line number long =
    subst (λ (x : List ℕ). Stands p limit x new bytes) (piece_ends text taken piece rest rest parts refl) (went_on p limit (text ++ taken) bytes rest old new s lacks line number)
ended_after p limit text taken piece rest bytes old new (Err e) parts s lacks line number long =
    subst (λ (x : List ℕ). Takes p limit x bytes new (Err e)) (ap (λ (x : List ℕ). (text ++ taken) ++ x) (append-nil rest) ∙ piece_ends text taken piece rest rest parts refl) (too_long p limit (text ++ taken) bytes rest [] old new e s lacks long)

-- the error of a line that was not read, as one of the line
pub not_ended : (p : KindSet) (limit number : ℕ) (octets out0 out1 : List ℕ) (error : ReadErr) (e : TakeErr) → IsReadErr (RefusesLineWithin p limit octets) error → IsTold number error e → out1 ≡ out0 → EndsLine p limit octets number out0 out1 (Err e)
not_ended p limit number octets out0 out1 error Memory bad is same = same
not_ended p limit number octets out0 out1 unread.Memory (Line line) bad is same = absurd is
not_ended p limit number octets out0 out1 (unread.Refused refusal) (Line line) bad is same = (told refusal, is.0, is.1, bad, same)
