-- A text whose first lines were made into others.
use Rattle.std.proofs.Common.{◌≡◌, ℕ, ◌+◌, ◌<◌, List, [], ◌∷◌, ◌++◌, length, refl, sym, ap, subst, ◌∙◌, arith, append_assoc, length-append, Err}
use Rattle.std.specs.List.{AllZip, flat_map}
use Rattle.std.proofs.lemmas.List.{append-nil}
use Rattle.std.proofs.lemmas.List.Concat.{flat_map-append}
use Rattle.llrp_listing.specs.Calls.Splits.{Lacks, IsSplit}
use Rattle.llrp_listing.specs.Lines.{TextLine, Ended, Unended, lines_of}
use Rattle.llrp_listing.proofs.Cutting.{ended, unended}
use Rattle.llrp_listing.proofs.Zips.{zip_append}
use Rattle.llrp_labels.specs.declared.labels.Labels.{Labels}
use Rattle.llrp_labels.specs.declared.fault.LabelFault.{LabelFault}
use Rattle.llrp_labels.specs.declared.fault.PlainErr.{PlainErr}
use Rattle.llrp_labels.specs.declared.plain.LineErr.{LineErr}
use Rattle.llrp_labels.specs.declared.plain.LineErr.TheVariants.{Refused, Memory}
use Rattle.llrp_labels.specs.Private.Lines.{PlainOf, error_at}
use Rattle.llrp_labels.specs.LabelledLines.{ReadsLine, RefusesLine}
use Rattle.llrp_labels.specs.LabelledTexts.{IsMade, MakesText, Refuses, RefusesAt}

-- this many lines before the rest were made into others, which are the text so far
pub record SoFar (Makes : List ℕ → List ℕ → Type 0) (text rest out : List ℕ) (count : ℕ) : Type 0 where
  pub before : List TextLine
  pub made : List (List ℕ)
  pub cut : lines_of text ≡ before ++ lines_of rest
  pub each : AllZip (IsMade Makes) before made
  pub joined : out ≡ flat_map (λ line. line) made
  pub counted : length before ≡ count

pub begun : (Makes : List ℕ → List ℕ → Type 0) (text out : List ℕ) → out ≡ [] → SoFar Makes text text out 0
begun Makes text out e = record { before = []; made = []; cut = refl; each = tt; joined = e; counted = refl }

one_more : (made : List (List ℕ)) (x : List ℕ) → flat_map (λ (y : List ℕ). y) made ++ x ≡ flat_map (λ (y : List ℕ). y) (made ++ x ∷ [])
one_more made x = ap (λ (z : List ℕ). flat_map (λ (y : List ℕ). y) made ++ z) (sym (append-nil x)) ∙ sym (flat_map-append (λ (y : List ℕ). y) made (x ∷ []))

pub line_made : (Makes : List ℕ → List ℕ → Type 0) (text rest line after out mid new m : List ℕ) (n : ℕ) → SoFar Makes text rest out n → IsSplit 10 rest line after → Makes line m → mid ≡ out ++ m → new ≡ mid ++ 10 ∷ [] → SoFar Makes text after new (n + 1)
line_made Makes text rest line after out mid new m n s split is grown fed = record {
  before = s.before ++ Ended line ∷ [];
  made = s.made ++ (m ++ 10 ∷ []) ∷ [];
  cut = s.cut ∙ ap (λ (z : List TextLine). s.before ++ z) (ap lines_of split.1 ∙ ended line after split.0) ∙ sym (append_assoc s.before (Ended line ∷ []) (lines_of after));
  each = zip_append (IsMade Makes) s.before (Ended line ∷ []) s.made ((m ++ 10 ∷ []) ∷ []) s.each ((m, is, refl), tt);
  joined =
      fed ∙ ap (λ (z : List ℕ). z ++ 10 ∷ []) grown ∙ append_assoc out m (10 ∷ []) ∙ ap (λ (z : List ℕ). z ++ (m ++ 10 ∷ [])) s.joined ∙ one_more s.made (m ++ 10 ∷ []);
  counted = length-append s.before (Ended line ∷ []) ∙ ap (λ (k : ℕ). k + 1) s.counted;
}

no_lines : lines_of [] ≡ []
unfolding lines_of
no_lines = refl

pub whole : (Makes : List ℕ → List ℕ → Type 0) (text rest out : List ℕ) (n : ℕ) → SoFar Makes text rest out n → length rest ≡ 0 → MakesText Makes text out
whole Makes text [] out n s e = record {
  lines = s.made;
  each = subst (λ (z : List TextLine). AllZip (IsMade Makes) z s.made) (sym (s.cut ∙ ap (λ (z : List TextLine). s.before ++ z) no_lines ∙ append-nil s.before)) s.each;
  joined = s.joined;
}
whole Makes text (b ∷ rest) out n s e = absurd (omega (arith, e))

last_line : (rest : List ℕ) → Lacks 10 rest → 0 < length rest → lines_of rest ≡ Unended rest ∷ []
last_line [] h some = absurd (omega (arith, some))
last_line (b ∷ rest) h some = unended b rest h

pub last_made : (Makes : List ℕ → List ℕ → Type 0) (text rest out new m : List ℕ) (n : ℕ) → SoFar Makes text rest out n → Lacks 10 rest → 0 < length rest → Makes rest m → new ≡ out ++ m → MakesText Makes text new
last_made Makes text rest out new m n s none some is grown = record {
  lines = s.made ++ m ∷ [];
  each = subst (λ (z : List TextLine). AllZip (IsMade Makes) z (s.made ++ m ∷ [])) (sym (s.cut ∙ ap (λ (z : List TextLine). s.before ++ z) (last_line rest none some))) (zip_append (IsMade Makes) s.before (Unended rest ∷ []) s.made (m ∷ []) s.each (is, tt));
  joined = grown ∙ ap (λ (z : List ℕ). z ++ m) s.joined ∙ one_more s.made m;
}

pub line_refused : (labels : Labels) (text rest line after out : List ℕ) (n : ℕ) (fault : LabelFault) → SoFar (ReadsLine labels) text rest out n → IsSplit 10 rest line after → RefusesLine labels line fault → RefusesAt labels text (n + 1) fault
line_refused labels text rest line after out n fault s split refuses = record {
  before = s.before;
  line = Ended line;
  after = lines_of after;
  lines_are = s.cut ∙ ap (λ (z : List TextLine). s.before ++ z) (ap lines_of split.1 ∙ ended line after split.0);
  counted = ap (λ (k : ℕ). k + 1) (sym s.counted);
  made = s.made;
  read = s.each;
  refuses = refuses;
}

pub last_refused : (labels : Labels) (text rest out : List ℕ) (n : ℕ) (fault : LabelFault) → SoFar (ReadsLine labels) text rest out n → Lacks 10 rest → 0 < length rest → RefusesLine labels rest fault → RefusesAt labels text (n + 1) fault
last_refused labels text rest out n fault s none some refuses = record {
  before = s.before;
  line = Unended rest;
  after = [];
  lines_are = s.cut ∙ ap (λ (z : List TextLine). s.before ++ z) (last_line rest none some);
  counted = ap (λ (k : ℕ). k + 1) (sym s.counted);
  made = s.made;
  read = s.each;
  refuses = refuses;
}

-- ---- the error of a line

pub line_error : (labels : Labels) (text rest line after out old new : List ℕ) (n : ℕ) (error : LineErr) (r : PlainErr) → SoFar (ReadsLine labels) text rest out n → IsSplit 10 rest line after → PlainOf labels line old new (Err error) → r ≡ error_at (n + 1) error
    → Refuses labels text r
line_error labels text rest line after out old new n (Refused fault) r s split refuses e = rw e (line_refused labels text rest line after out n fault s split refuses)
line_error labels text rest line after out old new n Memory r s split refuses e = rw e tt

pub last_error : (labels : Labels) (text rest out old new : List ℕ) (n : ℕ) (error : LineErr) (r : PlainErr) → SoFar (ReadsLine labels) text rest out n → Lacks 10 rest → 0 < length rest → PlainOf labels rest old new (Err error) → r ≡ error_at (n + 1) error
    → Refuses labels text r
last_error labels text rest out old new n (Refused fault) r s none some refuses e = rw e (last_refused labels text rest out n fault s none some refuses)
last_error labels text rest out old new n Memory r s none some refuses e = rw e tt
