-- Files that a command runs over, one after another.
use Rattle.std.proofs.Common.{◌≡◌, ◌∙◌, ℕ, ◌+◌, ◌<◌, ◌≤◌, true, false, nat_eq, List, [], ◌∷◌, ◌++◌, length, take, drop, get_or, append-nil, Option, None, Some, Ok, Err, refl, sym, ap, subst, inl, inr}
use Rattle.std.specs.Prelude.{MatchOption, Result, codes, map, max}
use Rattle.std.specs.Borrow.{Bor}
use Rattle.std.specs.Cmp.Lexicographic.{bytes_decides, pointwise, same_text}
use Rattle.std.proofs.lemmas.Bool.{true≢false}
use Rattle.std.proofs.Math.Seq.{take-append_seam}
use Rattle.std.proofs.lemmas.List.{drop_more, map-append, take_all, take_more, take-append-drop}
use Rattle.llrp_stream.specs.Device.{SinkLog, SourceLog, Wrote}
use Rattle.llrp_stream.specs.Calls.Device.{new_sink}
use Rattle.llrp_listing.specs.Calls.Copying.{Writes}
use Rattle.llrp_listing.specs.declared.outcome.ToolErr.{ToolErr}
use Rattle.llrp_listing.specs.declared.outcome.ToolErr.TheVariants.{Listing, Script, Hex, Read, Write, Bound, Memory, Broken, Peer, Strange, Early}
use Rattle.llrp_words.specs.Calls.Asked.{Asked, Show, show}
use Rattle.llrp_commands.specs.Calls.Command.{error_line}
use Rattle.llrp_commands.specs.Calls.Does.{Does, MeansLines, captured}
use Rattle.llrp_commands.specs.Calls.ShowSegments.{CapturesTo}
use Rattle.llrp_files.specs.Calls.Files.{Did, FailedFile, HasNoReason, IsSaid, Name, RanFile, RanFiles, Reached, RunsOver, Said, Standing, Unsaid, line_of}
use Rattle.llrp_files.specs.Private.Files.{Says, TakesFile}

-- ---- the line of a file

pub write_line : error_line Write ≡ codes "llrp: write\n"
unfolding error_line
write_line = refl

pub read_line : error_line Read ≡ codes "llrp: read\n"
unfolding error_line
read_line = refl

stripped : (line prefix rest : List ℕ) → pointwise nat_eq (take (length prefix) line) prefix ≡ true → rest ≡ drop (length prefix) line → line ≡ prefix ++ rest
stripped line prefix rest same is =
    sym (take-append-drop (length prefix) line) ∙ ap (λ (x : List ℕ). x ++ drop (length prefix) line) (same_text _ _ (sym same)) ∙ ap (λ (x : List ℕ). prefix ++ x) (sym is)

not_stripped : (line prefix : List ℕ) → pointwise nat_eq (take (length prefix) line) prefix ≡ false → (reason : List ℕ) → line ≡ prefix ++ reason → ⊥
not_stripped line prefix other reason is =
    let front : take (length prefix) line ≡ prefix = ap (take (length prefix)) is ∙ take-append_seam prefix reason in
    let same : pointwise nat_eq (take (length prefix) line) prefix ≡ true = (bytes_decides (take (length prefix) line) prefix).1 front in
    true≢false (sym same ∙ other)

-- the reason that a line gives, if it gives one
pub reason_given : (line prefix : List ℕ) (found : Option (Bor (List ℕ))) → prefix ≡ codes "llrp: "
    → MatchOption found (pointwise nat_eq (take (length prefix) line) prefix ≡ false) (λ x. (pointwise nat_eq (take (length prefix) line) prefix ≡ true) × (x.now ≡ drop (length prefix) line) × (length x.now + length prefix ≡ length line))
    → MatchOption found (HasNoReason line) (λ reason. line ≡ codes "llrp: " ++ reason.now)
reason_given line prefix None program cases = λ reason is. not_stripped line prefix cases reason (is ∙ ap (λ (x : List ℕ). x ++ reason) (sym program))
reason_given line prefix (Some x) program (same, rest, count) = stripped line prefix x.now same rest ∙ ap (λ (y : List ℕ). y ++ x.now) program

pub unsaid_by : (name line text : List ℕ) (e0 e1 : SinkLog) (error : ToolErr) → IsSaid name line text → Writes text e0 e1 (Err error) → Unsaid name line e0 e1 error
unsaid_by name line text e0 e1 Write said stop = (refl, text, said, inr stop)
unsaid_by name line text e0 e1 Read said stop = absurd stop.2
unsaid_by name line text e0 e1 Bound said stop = absurd stop.2
unsaid_by name line text e0 e1 Memory said stop = absurd stop.2
unsaid_by name line text e0 e1 (Script at) said stop = absurd stop.2
unsaid_by name line text e0 e1 Hex said stop = absurd stop.2
unsaid_by name line text e0 e1 Broken said stop = absurd stop.2
unsaid_by name line text e0 e1 Early said stop = absurd stop.2
unsaid_by name line text e0 e1 (Peer status) said stop = absurd stop.2
unsaid_by name line text e0 e1 Strange said stop = absurd stop.2
unsaid_by name line text e0 e1 (Listing at reason) said stop = absurd stop.2

-- a line that says that a write failed is written as it is
pub unwritten : (name line : List ℕ) (e0 e1 : SinkLog) → line ≡ error_line Write → Wrote e0 e1 line → Unsaid name line e0 e1 Write
unwritten name line e0 e1 is wrote = (refl, line, inl (is, refl), inl (is, wrote))

pub says_by : (name line text : List ℕ) (e0 e1 : SinkLog) (answer : Result (Unit {0}) ToolErr) → (line ≡ error_line Write → ⊥) → IsSaid name line text → Writes text e0 e1 answer → Says name line e0 e1 answer
says_by name line text e0 e1 (Ok u) other said wrote = (other, text, said, wrote)
says_by name line text e0 e1 (Err error) other said stop = unsaid_by name line text e0 e1 error said stop

pub says_named : (name bytes line reason : List ℕ) (e0 e1 : SinkLog) (answer : Result (Unit {0}) ToolErr) → (line ≡ error_line Write → ⊥) → line ≡ codes "llrp: " ++ reason → bytes ≡ name
    → Writes (codes "llrp: " ++ (bytes ++ (codes ": " ++ (reason ++ [])))) e0 e1 answer → Says name line e0 e1 answer
says_named name bytes line reason e0 e1 answer other is named wrote =
    let text : codes "llrp: " ++ (bytes ++ (codes ": " ++ (reason ++ []))) ≡ line_of name reason =
    ap (λ (x : List ℕ). codes "llrp: " ++ (x ++ (codes ": " ++ (reason ++ [])))) named ∙ ap (λ (x : List ℕ). codes "llrp: " ++ (name ++ (codes ": " ++ x))) (append-nil reason) in
    says_by name line (line_of name reason) e0 e1 answer other (inr (inl (other, reason, is, refl))) (subst (λ (x : List ℕ). Writes x e0 e1 answer) text wrote)

-- ---- what is said of a file leaves the count of failed writes

said_kept : (name line : List ℕ) (e0 e1 : SinkLog) → Said name line e0 e1 → e1.failures ≡ e0.failures
said_kept name line e0 e1 said = ap (λ (log : SinkLog). log.failures) said.3.counts

file_kept : (stands : Standing) (asked : Asked) (name : Name) (c0 c1 : Option (List ℕ)) (e0 e1 : SinkLog) (status : ℕ) → RanFile stands asked name c0 c1 e0 e1 status → e1.failures ≡ e0.failures
file_kept stands asked name c0 c1 e0 e1 status (inl over) = said_kept name over.ran.0 e0 e1 over.ran.2
file_kept stands asked name c0 c1 e0 e1 status (inr (none, same, three, said)) = said_kept name _ e0 e1 said

pub files_kept : (stands : Standing) (asked : Asked) (before : ℕ) (names : List Name) (c0 c1 : Option (List ℕ)) (e0 e1 : SinkLog) (worst : ℕ) → RanFiles stands asked before names c0 c1 e0 e1 worst → e1.failures ≡ e0.failures
files_kept stands asked before [] c0 c1 e0 e1 worst (same, kept, is) = ap (λ (log : SinkLog). log.failures) kept
files_kept stands asked before (name ∷ names) c0 c1 e0 e1 worst (c, e, status, ran, fine, others) =
    files_kept stands asked (max before status) names c c1 e e1 worst others ∙ file_kept stands asked name c0 c e0 e status ran

-- ---- one file more

ran_another : (stands : Standing) (asked : Asked) (before : ℕ) (names : List Name) (name : Name) (c0 c c1 : Option (List ℕ)) (e0 e e1 : SinkLog) (worst status : ℕ)
    → RanFiles stands asked before names c0 c e0 e worst → RanFile stands asked name c c1 e e1 status → (status ≡ 2 → ⊥)
    → RanFiles stands asked before (names ++ (name ∷ [])) c0 c1 e0 e1 (max worst status)
ran_another stands asked before [] name c0 c c1 e0 e e1 worst status (same, kept, is) ran fine =
    (c1, e1, status, subst (λ (x : Option (List ℕ)). RanFile stands asked name x c1 e0 e1 status) same (subst (λ (x : SinkLog). RanFile stands asked name c c1 x e1 status) kept ran), fine, (refl, refl, ap (λ (x : ℕ). max x status) is))
ran_another stands asked before (first ∷ names) name c0 c c1 e0 e e1 worst status (cm, em, one, began, right, others) ran fine =
    (cm, em, one, began, right, ran_another stands asked (max before one) names name cm c c1 em e e1 worst status others ran fine)

pub ran_more : {X : Type 0} (stands : Standing) (asked : Asked) (f : X → Name) (names : List X) (i : ℕ) (d : X) (c0 c c1 : Option (List ℕ)) (e0 e e1 : SinkLog) (worst status next : ℕ)
    → i < length names → RanFiles stands asked 0 (map f (take i names)) c0 c e0 e worst → RanFile stands asked (f (get_or names i d)) c c1 e e1 status → (status ≡ 2 → ⊥) → next ≡ max worst status
    → RanFiles stands asked 0 (map f (take (i + 1) names)) c0 c1 e0 e1 next
ran_more stands asked f names i d c0 c c1 e0 e e1 worst status next lt done ran fine is =
    let taken : take (i + 1) names ≡ take i names ++ (get_or names i d ∷ []) = take_more names i d lt in
    subst (λ (x : ℕ). RanFiles stands asked 0 (map f (take (i + 1) names)) c0 c1 e0 e1 x) (sym is)
    (subst (λ (x : List Name). RanFiles stands asked 0 x c0 c1 e0 e1 (max worst status))
    (sym (ap (map f) taken ∙ map-append f (take i names) (get_or names i d ∷ [])))
    (ran_another stands asked 0 (map f (take i names)) (f (get_or names i d)) c0 c c1 e0 e e1 worst status done ran fine))

pub ran_all : {X : Type 0} (stands : Standing) (asked : Asked) (f : X → Name) (names : List X) (i : ℕ) (c0 c1 : Option (List ℕ)) (e0 e1 : SinkLog) (worst : ℕ)
    → length names ≤ i → RanFiles stands asked 0 (map f (take i names)) c0 c1 e0 e1 worst → RanFiles stands asked 0 (map f names) c0 c1 e0 e1 worst
ran_all stands asked f names i c0 c1 e0 e1 worst all done = subst (λ (x : List _). RanFiles stands asked 0 (map f x) c0 c1 e0 e1 worst) (take_all i names all) done

-- the files before one ran, and this is its turn
pub is_reached : {X : Type 0} (stands : Standing) (asked : Asked) (f : X → Name) (names : List X) (i : ℕ) (d : X) (c0 c : Option (List ℕ)) (e0 e : SinkLog) (worst : ℕ)
    → i < length names → RanFiles stands asked 0 (map f (take i names)) c0 c e0 e worst → Reached stands asked (map f names) c0 c e0 e (f (get_or names i d))
is_reached stands asked f names i d c0 c e0 e worst lt done = record {
  before = map f (take i names);
  after = map f (drop (i + 1) names);
  worst = worst;
  names_are = ap (map f) (sym (take-append-drop i names) ∙ ap (λ (x : List _). take i names ++ x) (drop_more names i d lt)) ∙ map-append f (take i names) (get_or names i d ∷ drop (i + 1) names);
  ran = done;
}

-- ---- one file

-- what a command did over a source, with a buffer for its line
pub did : (asked : Asked) (r0 r1 : SourceLog) (w0 w1 t0 t1 : SinkLog) (items line : List ℕ) (answer : Result ℕ ToolErr) → Does asked r0 r1 w0 w1 t0 t1 answer
    → ((s : Show) (port : ℕ) → asked ≡ show s → MeansLines s (captured port) → CapturesTo s port r0 r1 w0 w1 t0 t1 answer) → t0 ≡ new_sink (Some items) → items ≡ [] → t1.taken ≡ Some line
    → (other : Result ℕ ToolErr) → answer ≡ other → Did asked r0 w0 w1 line other
did asked r0 r1 w0 w1 t0 t1 items line answer does segments begun none told other is =
    let untold : t0.taken ≡ Some [] = ap (λ (log : SinkLog). log.taken) begun ∙ ap (λ (x : List ℕ). Some x) none in
    subst (λ (x : Result ℕ ToolErr). Did asked r0 w0 w1 line x) is (record { r1 = r1; t0 = t0; t1 = t1; untold = untold; told = told; does = does; segments = segments })

-- the turn of a file that was opened
pub takes_over : (stands : Standing) (asked : Asked) (name : Name) (c0 c1 : Option (List ℕ)) (e0 e1 : SinkLog) (r0 : SourceLog) (w0 w1 : SinkLog) (answer : Result ℕ ToolErr) → stands name (Some r0) → w0 ≡ new_sink c0 → c1 ≡ w1.taken
    → RunsOver asked name r0 w0 w1 e0 e1 answer → TakesFile stands asked name c0 c1 e0 e1 answer
takes_over stands asked name c0 c1 e0 e1 r0 w0 w1 (Ok status) opened new held ran =
    inl (record { r0 = r0; w1 = w1; opened = opened; held = sym held; ran = subst (λ (x : SinkLog). RunsOver asked name r0 x w1 e0 e1 (Ok status)) new ran })
takes_over stands asked name c0 c1 e0 e1 r0 w0 w1 (Err error) opened new held ran =
    inr (inl (record { r0 = r0; w1 = w1; opened = opened; held = sym held; ran = subst (λ (x : SinkLog). RunsOver asked name r0 x w1 e0 e1 (Err error)) new ran }))

-- that of one that was not
pub unopened_said : (stands : Standing) (asked : Asked) (name : Name) (c0 : Option (List ℕ)) (e0 e1 : SinkLog) → stands name None → Said name (codes "llrp: read\n") e0 e1 → RanFile stands asked name c0 c0 e0 e1 3
unopened_said stands asked name c0 e0 e1 none said = inr (none, refl, refl, subst (λ (x : List ℕ). Said name x e0 e1) (sym read_line) said)

pub unopened_unsaid : (stands : Standing) (asked : Asked) (name : Name) (c0 : Option (List ℕ)) (e0 e1 : SinkLog) (error : ToolErr) → stands name None → Unsaid name (codes "llrp: read\n") e0 e1 error → FailedFile stands asked name c0 c0 e0 e1 error
unopened_unsaid stands asked name c0 e0 e1 error none unsaid = inr (inr (none, refl, subst (λ (x : List ℕ). Unsaid name x e0 e1 error) (sym read_line) unsaid))

-- a turn, where its answer is known
pub ran_at : (stands : Standing) (asked : Asked) (name : Name) (c0 c1 : Option (List ℕ)) (e0 e1 : SinkLog) (answer : Result ℕ ToolErr) (status : ℕ) → TakesFile stands asked name c0 c1 e0 e1 answer → answer ≡ Ok status → RanFile stands asked name c0 c1 e0 e1 status
ran_at stands asked name c0 c1 e0 e1 answer status takes is = subst (λ (x : Result ℕ ToolErr). TakesFile stands asked name c0 c1 e0 e1 x) is takes

pub failed_at : (stands : Standing) (asked : Asked) (name : Name) (c0 c1 : Option (List ℕ)) (e0 e1 : SinkLog) (answer : Result ℕ ToolErr) (error : ToolErr) → TakesFile stands asked name c0 c1 e0 e1 answer → answer ≡ Err error → FailedFile stands asked name c0 c1 e0 e1 error
failed_at stands asked name c0 c1 e0 e1 answer error takes is = subst (λ (x : Result ℕ ToolErr). TakesFile stands asked name c0 c1 e0 e1 x) is takes

pub ran_with : (stands : Standing) (asked : Asked) (name : Name) (c0 c1 : Option (List ℕ)) (e0 e1 : SinkLog) (status other : ℕ) → RanFile stands asked name c0 c1 e0 e1 status → status ≡ other → RanFile stands asked name c0 c1 e0 e1 other
ran_with stands asked name c0 c1 e0 e1 status other ran is = subst (λ (x : ℕ). RanFile stands asked name c0 c1 e0 e1 x) is ran
