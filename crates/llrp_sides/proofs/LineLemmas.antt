-- How the lines of segments that come in pieces go on.
use Rattle.std.proofs.Common.{◌≡◌, ℕ, ◌<◌, Bool, true, List, [], ◌∷◌, ◌++◌, length, refl, sym, ap, subst, ◌∙◌, arith, append_assoc}
use Rattle.std.specs.List.{AllZip}
use Rattle.std.specs.String.{string_bytes}
use Rattle.std.proofs.lemmas.List.{append-nil}
use Rattle.llrp_capture.specs.declared.segment.Segment.{Segment}
use Rattle.llrp_capture.specs.Calls.Segments.{Says}
use Rattle.llrp_listing.specs.declared.outcome.Verdict.{Verdict}
use Rattle.llrp_listing.specs.Calls.Splits.{Lacks}
use Rattle.llrp_listing.specs.Lines.{TextLine, Ended, Unended, lines_of, NoLf}
use Rattle.llrp_listing.proofs.Cutting.{ended, unended}
use Rattle.llrp_listing.proofs.Zips.{zip_append}
use Rattle.llrp_sides.specs.declared.form.Form.{Form}
use Rattle.llrp_sides.specs.declared.line_reader.Lines.{Lines}
use Rattle.llrp_sides.specs.declared.session.Pair.{Pair}
use Rattle.llrp_sides.specs.declared.session.Session.{Session}
use Rattle.llrp_sides.specs.Calls.Captures.{Capture, EndAll, LineSays, ListsText, Runs, Takes, new_capture}
use Rattle.llrp_sides.specs.Private.LineSteps.{EndsLine, Stands, TakesPiece}
use Rattle.llrp_sides.specs.Private.Sessions.{EndsOpen, InStep, TakesNext, capture_of}
use Rattle.llrp_sides.proofs.CaptureLemmas.{all_after, runs_on, step_after, time_on}

lacks_append : (c : ℕ) (x y : List ℕ) → Lacks c x → Lacks c y → Lacks c (x ++ y)
lacks_append c [] y p q = q
lacks_append c (b ∷ x) y p q = (p.0, lacks_append c x y p.1 q)

abbrev Cut : List TextLine → List ℕ → List ℕ → Type 0
Cut front text line = (more : List ℕ) → lines_of (text ++ more) ≡ front ++ lines_of (line ++ more)

-- the begun line goes on
pub went_on : (form : Form) (port : ℕ) (bytes listing part : List ℕ) (old new : Lines) → Stands form port bytes listing old → Lacks 10 part → new.line.items ≡ old.line.items ++ part → new.session ≡ old.session → Stands form port (bytes ++ part) listing new
went_on form port bytes listing part old new s lacks line session = record {
  lines = s.lines;
  unended = subst NoLf (sym line) (lacks_append 10 old.line.items part s.unended lacks);
  cuts = λ more.
      ap lines_of (append_assoc bytes part more) ∙ s.cuts (part ++ more) ∙ ap (λ (x : List ℕ). s.lines ++ lines_of x) (sym (append_assoc old.line.items part more))
      ∙ ap (λ (x : List ℕ). s.lines ++ lines_of (x ++ more)) (sym line);
  segments = s.segments;
  says = s.says;
  runs = subst (λ (x : Session). Runs form s.segments new_capture (capture_of x listing)) (sym session) s.runs;
  time = ap (λ (x : Session). string_bytes x.time) session ∙ s.time;
  form_is = ap (λ (x : Session). x.form) session ∙ s.form_is;
  port_is = ap (λ (x : Session). x.port) session ∙ s.port_is;
}

-- the segment of the begun line is taken, after what was listed before
took : (form : Form) (port : ℕ) (segments : List Segment) (segment : Segment) (done : List ℕ) (old new : Session) (text0 text1 : List ℕ) → old.form ≡ form → Runs form segments new_capture (capture_of old (done ++ text0)) → TakesNext segment old new text0 text1
    → Runs form (segments ++ segment ∷ []) new_capture (capture_of new (done ++ text1))
took form port segments segment done old new text0 text1 is runs t =
    runs_on form segments segment new_capture (capture_of old (done ++ text0)) (capture_of new (done ++ text1)) runs
    (subst (λ (f : Form). Takes f segment (capture_of old (done ++ text0)) (capture_of new (done ++ text1))) is (step_after done old.form segment (capture_of old text0) (capture_of new text1) t.takes))

-- the begun line ends
pub line_ended : (form : Form) (port : ℕ) (bytes done : List ℕ) (old new : Lines) (text0 text1 : List ℕ) → Stands form port bytes (done ++ text0) old → EndsLine old new text0 text1 → Stands form port (bytes ++ 10 ∷ []) (done ++ text1) new
line_ended form port bytes done old new text0 text1 s e =
    let segment = e.takes.0 in
    let t = e.takes.2 in
    record {
      lines = s.lines ++ Ended old.line.items ∷ [];
      unended = subst NoLf (sym e.empty) tt;
      cuts = λ more.
          ap lines_of (append_assoc bytes (10 ∷ []) more) ∙ s.cuts (10 ∷ more) ∙ ap (λ (x : List TextLine). s.lines ++ x) (ended old.line.items more s.unended) ∙ sym (append_assoc s.lines (Ended old.line.items ∷ []) (lines_of more))
          ∙ ap (λ (x : List ℕ). (s.lines ++ Ended old.line.items ∷ []) ++ lines_of (x ++ more)) (sym e.empty);
      segments = s.segments ++ segment ∷ [];
      says = zip_append (LineSays port) s.lines (Ended old.line.items ∷ []) s.segments (segment ∷ []) s.says ((e.line, e.without_cr, subst (λ (n : ℕ). Says n e.line segment) s.port_is e.takes.1), tt);
      runs = took form port s.segments segment done old.session new.session text0 text1 s.form_is s.runs t;
      time = t.time ∙ sym (time_on [] s.segments segment);
      form_is = t.form ∙ s.form_is;
      port_is = t.port ∙ s.port_is;
    }

-- ---- steps over a piece

pub nothing_taken : (form : Form) (port : ℕ) (bytes listing : List ℕ) (now : Lines) → Stands form port bytes listing now → Stands form port (bytes ++ []) listing now
nothing_taken form port bytes listing now s = subst (λ (x : List ℕ). Stands form port x listing now) (sym (append-nil bytes)) s

-- a part of a line with its end was taken
pub took_line : (taken part : List ℕ) (first old mid new : Lines) (text0 text1 text2 : List ℕ) → TakesPiece taken first old text0 text1 → Lacks 10 part → mid.line.items ≡ old.line.items ++ part → mid.session ≡ old.session → EndsLine mid new text1 text2 → InStep new.session
    → TakesPiece (taken ++ (part ++ 10 ∷ [])) first new text0 text2
took_line taken part first old mid new text0 text1 text2 so lacks line session e step = record {
  in_step = step;
  stands = λ form port bytes done s.
      let grown = went_on form port (bytes ++ taken) (done ++ text1) part old mid (so.stands form port bytes done s) lacks line session in
      let ended = line_ended form port ((bytes ++ taken) ++ part) done mid new text1 text2 grown e in
      subst (λ (x : List ℕ). Stands form port x (done ++ text2) new) (append_assoc (bytes ++ taken) part (10 ∷ []) ∙ append_assoc bytes taken (part ++ 10 ∷ [])) ended;
}

-- the last part of a piece, which ends no line, was taken
pub took_rest : (taken rest piece : List ℕ) (first old new : Lines) (text0 text1 : List ℕ) → piece ≡ taken ++ rest → TakesPiece taken first old text0 text1 → Lacks 10 rest → new.line.items ≡ old.line.items ++ rest → new.session ≡ old.session → TakesPiece piece first new text0 text1
took_rest taken rest piece first old new text0 text1 parts so lacks line session = record {
  in_step = subst (λ (x : Session). InStep x) (sym session) so.in_step;
  stands = λ form port bytes done s.
      let grown = went_on form port (bytes ++ taken) (done ++ text1) rest old new (so.stands form port bytes done s) lacks line session in
      subst (λ (x : List ℕ). Stands form port x (done ++ text1) new) (append_assoc bytes taken rest ∙ ap (λ (x : List ℕ). bytes ++ x) (sym parts)) grown;
}

-- ---- the end of the text

all_lines : (form : Form) (port : ℕ) (bytes listing line : List ℕ) (now : Lines) → (s : Stands form port bytes listing now) → line ≡ now.line.items → length line ≡ 0 → lines_of bytes ≡ s.lines
unfolding lines_of
all_lines form port bytes listing [] now s is none = ap lines_of (sym (append-nil bytes)) ∙ s.cuts [] ∙ ap (λ (x : List ℕ). s.lines ++ lines_of (x ++ [])) (sym is) ∙ append-nil s.lines
all_lines form port bytes listing (b ∷ line) now s is none = absurd (omega arith)

last_line : (form : Form) (port : ℕ) (bytes listing line : List ℕ) (now : Lines) → (s : Stands form port bytes listing now) → line ≡ now.line.items → 0 < length line → lines_of bytes ≡ s.lines ++ (Unended now.line.items ∷ [])
last_line form port bytes listing [] now s is some = absurd (omega arith)
last_line form port bytes listing (b ∷ x) now s is some =
    ap lines_of (sym (append-nil bytes)) ∙ s.cuts [] ∙ ap (λ (z : List ℕ). s.lines ++ lines_of z) (append-nil now.line.items ∙ sym is)
    ∙ ap (λ (z : List TextLine). s.lines ++ z) (unended b x (subst NoLf (sym is) s.unended) ∙ ap (λ (z : List ℕ). Unended z ∷ []) is)

pub ends_whole : (form : Form) (port : ℕ) (bytes done : List ℕ) (now : Lines) (text0 text1 : List ℕ) (verdict : Verdict) → Stands form port bytes (done ++ text0) now → length now.line.items ≡ 0 → EndsOpen now.session text0 text1 verdict → ListsText form port bytes (done ++ text1) verdict
ends_whole form port bytes done now text0 text1 verdict s none e = record {
  segments = s.segments;
  says = subst (λ (z : List TextLine). AllZip (LineSays port) z s.segments) (sym (all_lines form port bytes (done ++ text0) now.line.items now s refl none)) s.says;
  lists = record {
    last = capture_of now.session (done ++ text0);
    runs = s.runs;
    is_lawful = e.0;
    ends = subst (λ (x : List ℕ). EndAll x now.session.pairs.items now.session.is_lawful e.0 (done ++ text0) (done ++ text1)) s.time (all_after done (string_bytes now.session.time) now.session.pairs.items now.session.is_lawful e.0 text0 text1 e.1);
    verdict_is = e.2;
  };
}

pub ends_last : (form : Form) (port : ℕ) (bytes done : List ℕ) (old new : Lines) (text0 text1 text2 : List ℕ) (verdict : Verdict) → Stands form port bytes (done ++ text0) old → 0 < length old.line.items → EndsLine old new text0 text1 → EndsOpen new.session text1 text2 verdict → ListsText form port bytes (done ++ text2) verdict
ends_last form port bytes done old new text0 text1 text2 verdict s some l e =
    let segment = l.takes.0 in
    let t = l.takes.2 in
    record {
      segments = s.segments ++ segment ∷ [];
      says = subst (λ (z : List TextLine). AllZip (LineSays port) z (s.segments ++ segment ∷ [])) (sym (last_line form port bytes (done ++ text0) old.line.items old s refl some))
          (zip_append (LineSays port) s.lines (Unended old.line.items ∷ []) s.segments (segment ∷ []) s.says ((l.line, l.without_cr, subst (λ (n : ℕ). Says n l.line segment) s.port_is l.takes.1), tt));
      lists = record {
        last = capture_of new.session (done ++ text1);
        runs = took form port s.segments segment done old.session new.session text0 text1 s.form_is s.runs t;
        is_lawful = e.0;
        ends = subst (λ (x : List ℕ). EndAll x new.session.pairs.items new.session.is_lawful e.0 (done ++ text1) (done ++ text2)) (t.time ∙ sym (time_on [] s.segments segment))
            (all_after done (string_bytes new.session.time) new.session.pairs.items new.session.is_lawful e.0 text1 text2 e.1);
        verdict_is = e.2;
      };
    }

abbrev the_capture : List Pair → Bool → Capture
the_capture pairs lawful = record { pairs = pairs; is_lawful = lawful; text = [] }

-- nothing came
pub stands_new : (form : Form) (port : ℕ) (now : Lines) → now.line.items ≡ [] → now.session.pairs.items ≡ [] → now.session.is_lawful ≡ true → string_bytes now.session.time ≡ [] → now.session.form ≡ form → now.session.port ≡ port → Stands form port [] [] now
stands_new form port now line pairs lawful time is_form is_port = record {
  lines = [];
  unended = subst NoLf (sym line) tt;
  cuts = λ more. ap (λ (x : List ℕ). lines_of (x ++ more)) (sym line);
  segments = [];
  says = tt;
  runs = ap (λ (x : List Pair). the_capture x now.session.is_lawful) pairs ∙ ap (λ (b : Bool). the_capture [] b) lawful;
  time = time;
  form_is = is_form;
  port_is = is_port;
}
