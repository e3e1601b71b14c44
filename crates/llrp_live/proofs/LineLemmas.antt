-- The lines of a script, one after another.
use Rattle.std.proofs.Common.{◌≡◌, ℕ, ◌+◌, ◌-◌, Bool, true, false, nat_eq, List, [], ◌∷◌, ◌++◌, length, take, drop, refl, sym, ap, ◌∙◌, append_assoc, arith, codes, decimal, subst, Option, None, Some, IfSome}
use Rattle.std.specs.Cmp.Lexicographic.{pointwise, same_text}
use Rattle.std.specs.Prelude.{◌==◌}
use Rattle.std.proofs.lemmas.Bool.{ne_eqb}
use Rattle.std.proofs.lemmas.Fmt.{decimal_digit}
use Rattle.std.proofs.lemmas.List.Sums.{sum_by-append, sum_by-cons}
use Rattle.std.proofs.lemmas.List.{append-nil, append_cancel_left, take-append-drop}
use Rattle.llrp_live.specs.declared.lines.Line.{Line}
use Rattle.llrp_endpoints.specs.declared.script.Action.{Action}
use Rattle.llrp_endpoints.specs.declared.script.Entry.{Entry}
use Rattle.llrp_endpoints.specs.Calls.Script.{IsActionLine, IsEntryLine}
use Rattle.llrp_answers.specs.Calls.Answers.{lines_in}
use Rattle.llrp_live.specs.declared.script_reader.Sent.{Sent}
use Rattle.llrp_live.specs.Calls.Lines.{IsLine, IsBelow, AreLines}
use Rattle.llrp_live.specs.Private.Reading.{Taken, TookBlock, TookLines}

-- ---- fronts and ends of a text

pub prefixed : (text prefix rest : List ℕ) → pointwise nat_eq (take (length prefix) text) prefix ≡ true → rest ≡ drop (length prefix) text → text ≡ prefix ++ rest
prefixed text prefix rest same is =
    sym (take-append-drop (length prefix) text) ∙ ap (λ (x : List ℕ). x ++ drop (length prefix) text) (same_text _ _ (sym same)) ∙ ap (λ (x : List ℕ). prefix ++ x) (sym is)

pub suffixed : (text suffix rest : List ℕ) → pointwise nat_eq (drop (length text - length suffix) text) suffix ≡ true → rest ≡ take (length text - length suffix) text → text ≡ rest ++ suffix
suffixed text suffix rest same is =
    let k = length text - length suffix in
    sym (take-append-drop k text) ∙ ap (λ (x : List ℕ). take k text ++ x) (same_text _ _ (sym same)) ∙ ap (λ (x : List ℕ). x ++ suffix) (sym is)

-- ---- lines

-- the LFs of two parts
count_append : (a b : List ℕ) → lines_in (a ++ b) ≡ lines_in a + lines_in b
count_append a b = sum_by-append _ a b

pub count_block : (first below : List ℕ) → lines_in first + 1 + lines_in below ≡ lines_in (first ++ 10 ∷ below)
count_block first below =
    let e = count_append first (10 ∷ below) in
    let one : lines_in (10 ∷ below) ≡ 1 + lines_in below = sum_by-cons _ 10 below in
    omega (arith, e, one)

one_block : (before : ℕ) (line : Line) (own : List Sent) (first below : List ℕ) → IsLine line first → line.number ≡ before + 1 → IsBelow line own below → AreLines before (line ∷ []) own (first ++ 10 ∷ below)
one_block before line own first below is at under = (first, below, [], own, [], is, at, under, sym (append-nil own), ap (λ (x : List ℕ). first ++ 10 ∷ x) (sym (append-nil below)), refl)

-- as many LFs come before it, whichever way they are counted
after_block : (before : ℕ) (first below rest : List ℕ) → before + lines_in (first ++ 10 ∷ below) + lines_in rest ≡ before + lines_in (first ++ 10 ∷ (below ++ rest))
after_block before first below rest =
    let one = count_append (first ++ 10 ∷ below) rest in
    let same : (first ++ 10 ∷ below) ++ rest ≡ first ++ 10 ∷ (below ++ rest) = append_assoc first (10 ∷ below) rest in
    let all = sym (ap lines_in same) ∙ one in
    omega (arith, all)

pub lines_append : (before : ℕ) (a b : List Line) (s t : List Sent) (x y : List ℕ) → AreLines before a s x → AreLines (before + lines_in x) b t y → AreLines before (a ++ b) (s ++ t) (x ++ y)
lines_append before [] b [] t x y is are = rw is (subst (λ (n : ℕ). AreLines n b t y) (ap (λ (z : List ℕ). before + lines_in z) is ∙ omega arith) are)
lines_append before [] b (m ∷ s) t x y is are = absurd is
lines_append before (line ∷ a) b s t x y (first, below, rest, own, later, is, at, under, parts, text, more) are = (
  first,
  below,
  rest ++ y,
  own,
  later ++ t,
  is,
  at,
  under,
  ap (λ (z : List Sent). z ++ t) parts ∙ append_assoc own later t,
  ap (λ (z : List ℕ). z ++ y) text ∙ append_assoc first (codes "\n" ++ (below ++ rest)) y ∙ ap (λ (z : List ℕ). first ++ (10 ∷ z)) (append_assoc below rest y),
  lines_append (before + lines_in (first ++ 10 ∷ below)) a b later t rest y more (subst (λ (n : ℕ). AreLines n b t y) (ap (λ (z : List ℕ). before + lines_in z) text ∙ sym (after_block before first below rest)) are),
)

-- lines with one block more
and_block : (before count : ℕ) (lines : List Line) (sent : List Sent) (front first below : List ℕ) (line : Line) (own : List Sent) → AreLines before lines sent front → count ≡ before + lines_in front
    → IsLine line first → line.number ≡ count + 1 → IsBelow line own below → AreLines before (lines ++ line ∷ []) (sent ++ own) (front ++ (first ++ 10 ∷ below))
and_block before count lines sent front first below line own are is_count is at under =
    lines_append before lines (line ∷ []) sent own front (first ++ 10 ∷ below) are (one_block (before + lines_in front) line own first below is (at ∙ ap (λ (n : ℕ). n + 1) is_count) under)

-- and their count
count_more : (before count more : ℕ) (front block : List ℕ) → count ≡ before + lines_in front → more ≡ count + lines_in block → more ≡ before + lines_in (front ++ block)
count_more before count more front block is now = let e = count_append front block in omega (arith, is, now, e)

pub took_more : (text rest first below after : List ℕ) (old mid new : Taken) → TookLines text rest old mid → rest ≡ first ++ 10 ∷ (below ++ after) → TookBlock first below mid new → TookLines text after old new
took_more text rest first below after old mid new (more, sent, front, are, count, parts, lines, sends) split (line, own, is, at, under, counted, now, says) = (
  more ++ line ∷ [],
  sent ++ own,
  front ++ (first ++ 10 ∷ below),
  and_block old.count mid.count more sent front first below line own are count is at under,
  count_more old.count mid.count new.count front (first ++ 10 ∷ below) count counted,
  parts ∙ ap (λ (x : List ℕ). front ++ x) (split ∙ sym (append_assoc first (10 ∷ below) after)) ∙ sym (append_assoc front (first ++ 10 ∷ below) after),
  now ∙ ap (λ (x : List Line). x ++ line ∷ []) lines ∙ append_assoc old.lines more (line ∷ []),
  says ∙ ap (λ (x : List Sent). x ++ own) sends ∙ append_assoc old.sent sent own,
)

pub took_none : (text : List ℕ) (read : Taken) → TookLines text text read read
took_none text read = ([], [], [], refl, omega arith, refl, sym (append-nil read.lines), sym (append-nil read.sent))

pub read_more : (bytes piece text rest held : List ℕ) (old new : Taken) → (front : List ℕ) × AreLines 0 old.lines old.sent front × (old.count ≡ lines_in front) × (bytes ≡ front ++ held) → text ≡ held ++ piece → TookLines text rest old new
    → (front : List ℕ) × AreLines 0 new.lines new.sent front × (new.count ≡ lines_in front) × (bytes ++ piece ≡ front ++ rest)
read_more bytes piece text rest held old new (front, are, count, is) gathered (more, sent, later, more_are, counted, parts, lines, sends) =
    let whole = count_more 0 old.count new.count front later (count ∙ omega arith) counted in
    let more_there = subst (λ (n : ℕ). AreLines n more sent later) (count ∙ omega arith) more_are in (
      front ++ later,
      rw lines (rw sends (lines_append 0 old.lines more old.sent sent front later are more_there)),
      whole ∙ omega arith,
      ap (λ (x : List ℕ). x ++ piece) is ∙ append_assoc front held piece ∙ ap (λ (x : List ℕ). front ++ x) (sym gathered ∙ parts) ∙ sym (append_assoc front later rest),
    )

-- the last block ends with the text
pub read_all : (bytes held first below : List ℕ) (old new : Taken) → (front : List ℕ) × AreLines 0 old.lines old.sent front × (old.count ≡ lines_in front) × (bytes ≡ front ++ held) → held ≡ first ++ 10 ∷ below → TookBlock first below old new
    → AreLines 0 new.lines new.sent bytes
read_all bytes held first below old new (front, are, count, is) split (line, own, said, at, under, counted, now, says) =
    rw now (rw says (subst (λ (x : List ℕ). AreLines 0 (old.lines ++ line ∷ []) (old.sent ++ own) x) (sym (is ∙ ap (λ (x : List ℕ). front ++ x) split))
    (and_block 0 old.count old.lines old.sent front first below line own are (count ∙ omega arith) said at under)))

-- nothing is left
pub nothing_left : (xs : List ℕ) (b : Bool) → b ≡ (length xs == 0) → b ≡ true → xs ≡ []
nothing_left [] b e t = refl
nothing_left (x ∷ xs) b e t = let f : (length (x ∷ xs) == 0) ≡ false = ne_eqb (length (x ∷ xs)) 0 (λ z. omega (arith, z)) in cc

pub read_whole : (bytes held : List ℕ) (read : Taken) → (front : List ℕ) × AreLines 0 read.lines read.sent front × (read.count ≡ lines_in front) × (bytes ≡ front ++ held) → held ≡ []
    → AreLines 0 read.lines read.sent bytes
read_whole bytes held read (front, are, count, is) none = subst (λ (x : List ℕ). AreLines 0 read.lines read.sent x) (sym (is ∙ ap (λ (x : List ℕ). front ++ x) none ∙ append-nil front)) are

-- ---- the action of an entry at 0 0

at_zero : (entry : Entry) (line text : List ℕ) → IsEntryLine entry line → line ≡ codes "0 0 " ++ text → entry.after ≡ 0 → entry.now ≡ 0 → IsActionLine entry.action text
at_zero entry line text (action, is, parts) given after now =
    let at : line ≡ codes "0 0 " ++ action = parts ∙ ap (λ (n : ℕ). decimal n ++ (codes " " ++ (decimal entry.now ++ (codes " " ++ action)))) after ∙ ap (λ (n : ℕ). decimal 0 ++ (codes " " ++ (decimal n ++ (codes " " ++ action)))) now
    ∙ ap (λ (x : List ℕ). x ++ (codes " " ++ (x ++ (codes " " ++ action)))) (decimal_digit 0 (omega arith)) in
    subst (λ (x : List ℕ). IsActionLine entry.action x) (append_cancel_left (codes "0 0 ") action text (sym at ∙ given)) is

pub said_by : (entry : Entry) (line text : List ℕ) (said : Option Action) → IsEntryLine entry line → line ≡ codes "0 0 " ++ text → IfSome said (λ action. (entry.after ≡ 0) × (entry.now ≡ 0) × (action ≡ entry.action)) → IfSome said (λ a. IsActionLine a text)
said_by entry line text None is given h = tt
said_by entry line text (Some action) is given (after, now, same) = subst (λ (a : Action). IsActionLine a text) (sym same) (at_zero entry line text is given after now)
