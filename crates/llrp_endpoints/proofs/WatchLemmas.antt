-- A client that is watched, a read at a time.
use Rattle.std.proofs.Common.{◌≡◌, ℕ, ◌+◌, ◌<◌, ◌≤◌, Bool, true, false, List, [], ◌∷◌, ◌++◌, Result, Ok, Err, refl, sym, ap, subst, ◌∙◌, append_assoc, inl, inr}
use Rattle.std.specs.Prelude.{◌⊎◌}
use Rattle.std.proofs.lemmas.List.{append-nil}
use Rattle.std.proofs.lemmas.List.Concat.{flat_map-append}
use Rattle.llrp_stream.specs.Device.{SourceLog, SinkLog, Wrote}
use Rattle.llrp_stream.proofs.WritingLemmas.{wrote_more, wrote_nothing}
use Rattle.llrp_listing.specs.declared.outcome.ToolErr.{ToolErr}
use Rattle.llrp_listing.specs.declared.outcome.ToolErr.TheVariants.{Listing, Script, Hex, Read, Write, Bound, Broken, Memory, Peer, Strange, Early}
use Rattle.llrp_listing.specs.Calls.Copying.{Writes}
use Rattle.llrp_endpoints.specs.declared.course.Phase.{Phase}
use Rattle.llrp_endpoints.specs.declared.course.Phase.TheVariants.{Open, Closed, Failed}
use Rattle.llrp_endpoints.specs.declared.gathering.Gathering.{Gathering}
use Rattle.llrp_endpoints.specs.declared.summary.Summary.{Summary}
use Rattle.llrp_endpoints.specs.Gathering.{Beginning, Course, GathersFrom, beginning, hurried}
use Rattle.llrp_endpoints.specs.Calls.GatheringStands.{Counts, FeedsFrom, HurriesTo, IsOpenFrom, Moves, StandsFrom, further, phase_left}
use Rattle.llrp_endpoints.specs.Private.Watching.{HurriedOn, HurriesOn, IsLeftAt, TurnEnds, TurnFails, TurnsTo}
use Rattle.llrp_endpoints.specs.Watching.{Hurrying, IsTold, Takes, Tells, Turn}
use Rattle.llrp_endpoints.proofs.GatheringFeeds.{gathers_anew}
use Rattle.llrp_endpoints.proofs.InventoryLemmas.{only_write}

-- ---- what a watcher is told of

pub tells_nothing : (v : SinkLog → List Turn → Type 0) → Tells v v []
tells_nothing v = λ base before h. subst (λ (ts : List Turn). v base ts) (sym (append-nil before)) h

pub tells_more : (v0 v1 v2 : SinkLog → List Turn → Type 0) (a b : List Turn) → Tells v0 v1 a → Tells v1 v2 b → Tells v0 v2 (a ++ b)
tells_more v0 v1 v2 a b p q = λ base before h. subst (λ (ts : List Turn). v2 base ts) (append_assoc before a b) (q base (before ++ a) (p base before h))

-- ---- in a hurry

pub hurried_wrote : (b : Beginning) (rest : List ℕ) (g : Gathering) (w0 w1 : SinkLog) (o0 o1 : List ℕ) (answer : Result (Unit {0}) ToolErr) → o0 ≡ [] → HurriesTo b rest b.course g o0 o1 answer → Wrote w0 w1 o1 → HurriesOn b rest g w0 w1 answer
hurried_wrote b rest g w0 w1 o0 o1 answer none h w = by_answer answer (subst (λ (x : List ℕ). HurriesTo b rest b.course g x o1 answer) none h)
  where
    by_answer : (answer : Result (Unit {0}) ToolErr) → HurriesTo b rest b.course g [] o1 answer → HurriesOn b rest g w0 w1 answer
    by_answer (Ok done) h = (o1, record { moves = h.1; wrote = w }, h.0)
    by_answer (Err Memory) h = tt
    by_answer (Err Write) h = tt
    by_answer (Err (Peer status)) h = (o1, record { moves = h.1.1; wrote = w }, h.1.0)
    by_answer (Err Strange) h = (o1, record { moves = h.1.1; wrote = w }, h.1.0)
    by_answer (Err Early) h = (o1, record { moves = h.1.1; wrote = w }, h.1.0)
    by_answer (Err Broken) h = absurd h.1
    by_answer (Err (Listing line reason)) h = absurd h.1
    by_answer (Err (Script line)) h = absurd h.1
    by_answer (Err Hex) h = absurd h.1
    by_answer (Err Read) h = absurd h.1
    by_answer (Err Bound) h = absurd h.1

pub hurry_unwritten : (b : Beginning) (rest : List ℕ) (g : Gathering) (w0 w1 : SinkLog) (out : List ℕ) (error : ToolErr) → Writes out w0 w1 (Err error) → HurriesOn b rest g w0 w1 (Err error)
hurry_unwritten b rest g w0 w1 out error w = rw (only_write out w0 w1 error w) tt

-- ---- a turn

-- it stands anew with what its decoder keeps
pub stands_anew : (b : Beginning) (bytes rest : List ℕ) (c : Course) (g : Gathering) → StandsFrom b bytes rest c g → g.phase ≡ Open → IsOpenFrom (further b c) rest rest c g
stands_anew b bytes rest c g s opened = record {
  stands = record { gathers = gathers_anew b rest c; open_is = s.open_is; holds = s.holds; decoder = s.decoder; limit_is = s.limit_is; hearing_is = s.hearing_is };
  phase = opened;
}

-- what the client says could not be written
pub turn_unwritten : (b : Beginning) (rest piece lines : List ℕ) (w0 w1 u0 u1 : SinkLog) (v0 v1 : SinkLog → List Turn → Type 0) (out : List ℕ) (answer : Result Bool ToolErr) (error : ToolErr) → IsTold v0 v1 piece lines answer → Writes out w0 w1 (Err error)
    → TurnFails b rest piece u0 u1 v0 v1 error
turn_unwritten b rest piece lines w0 w1 u0 u1 v0 v1 out answer error h w = rw (only_write out w0 w1 error w) tt

-- the watcher failed
pub turn_untold : (b : Beginning) (rest piece lines : List ℕ) (w0 w1 : SinkLog) (v0 v1 : SinkLog → List Turn → Type 0) (error : ToolErr) → IsTold v0 v1 piece lines (Err error) → TurnFails b rest piece w0 w1 v0 v1 error
turn_untold b rest piece lines w0 w1 v0 v1 error h = by_error h
  where
    by_error : (error ≡ Write) ⊎ (error ≡ Memory) → TurnFails b rest piece w0 w1 v0 v1 error
    by_error (inl e) = rw e tt
    by_error (inr e) = rw e tt

failed_turn : (late : Bool) (p : Phase) (error : ToolErr) (c : Course) → p ≡ Failed error → Hurrying late p c [] c
failed_turn true Open error c e = cc
failed_turn true Closed error c e = cc
failed_turn true (Failed other) error c e = (refl, refl)
failed_turn false p error c e = (refl, refl)

closed_turn : (late : Bool) (p : Phase) (c : Course) → p ≡ Closed → Hurrying late p c [] c
closed_turn true Open c e = cc
closed_turn true Closed c e = (refl, refl)
closed_turn true (Failed error) c e = cc
closed_turn false p c e = (refl, refl)

-- a turn in which it did not hurry
whole_turn : (b : Beginning) (rest piece lines : List ℕ) (late : Bool) (w0 w1 : SinkLog) (v0 v1 : SinkLog → List Turn → Type 0) (next said : List ℕ) (c : Course) → GathersFrom b (rest ++ piece) next c → Moves b.course c [] said [] lines → Hurrying late c.phase c [] c
    → IsTold v0 v1 piece lines (Ok late) → Wrote w0 w1 said → TurnsTo b rest piece w0 w1 v0 v1 (record { piece = piece; lines = lines; late = late }) next c
whole_turn b rest piece lines late w0 w1 v0 v1 next said c gathers moves goes told wrote = record {
  said = said;
  piece_is = refl;
  told = told;
  takes = record { taken = c; first = said; last = []; gathers = gathers; moves = moves; goes = goes; said_is = sym (append-nil said) };
  wrote = wrote;
}

-- a feed ended it
pub turn_failed : (b : Beginning) (rest piece : List ℕ) (late : Bool) (g : Gathering) (w0 w1 : SinkLog) (v0 v1 : SinkLog → List Turn → Type 0) (o0 o1 l0 l1 : List ℕ) (error : ToolErr) → o0 ≡ [] → l0 ≡ [] → FeedsFrom b (rest ++ piece) b.course g o0 o1 l0 l1 (Err error)
    → IsTold v0 v1 piece l1 (Ok late) → Wrote w0 w1 o1 → TurnFails b rest piece w0 w1 v0 v1 error
turn_failed b rest piece late g w0 w1 v0 v1 o0 o1 l0 l1 error no_frames no_lines f told wrote =
    by_error error (subst (λ (x : List ℕ). FeedsFrom b (rest ++ piece) b.course g [] o1 x l1 (Err error)) no_lines (subst (λ (x : List ℕ). FeedsFrom b (rest ++ piece) b.course g x o1 l0 l1 (Err error)) no_frames f))
  where
    by_error : (error : ToolErr) → FeedsFrom b (rest ++ piece) b.course g [] o1 [] l1 (Err error) → TurnFails b rest piece w0 w1 v0 v1 error
    by_error Memory f = tt
    by_error Broken f = record { last = record { piece = piece; lines = l1; late = late }; next = f.0; more = o1; taken = f.1; piece_is = refl; told = told; gathers = f.2; moves = f.5; still_open = f.3; breaks = f.4; wrote = wrote }
    by_error (Peer status) f = (_, f.0, f.1, whole_turn b rest piece l1 late w0 w1 v0 v1 f.0 o1 f.1 f.2 f.3.1 (failed_turn late f.1.phase (Peer status) f.1 f.3.0) told wrote, f.3.0)
    by_error Strange f = (_, f.0, f.1, whole_turn b rest piece l1 late w0 w1 v0 v1 f.0 o1 f.1 f.2 f.3.1 (failed_turn late f.1.phase Strange f.1 f.3.0) told wrote, f.3.0)
    by_error Early f = (_, f.0, f.1, whole_turn b rest piece l1 late w0 w1 v0 v1 f.0 o1 f.1 f.2 f.3.1 (failed_turn late f.1.phase Early f.1 f.3.0) told wrote, f.3.0)
    by_error (Listing line reason) f = absurd f.3
    by_error (Script line) f = absurd f.3
    by_error Hex f = absurd f.3
    by_error Read f = absurd f.3
    by_error Write f = absurd f.3
    by_error Bound f = absurd f.3

-- a feed closed it
pub turn_closed : (b : Beginning) (rest piece : List ℕ) (late : Bool) (g : Gathering) (w0 w1 : SinkLog) (v0 v1 : SinkLog → List Turn → Type 0) (o0 o1 l0 l1 : List ℕ) → o0 ≡ [] → l0 ≡ [] → FeedsFrom b (rest ++ piece) b.course g o0 o1 l0 l1 (Ok true)
    → IsTold v0 v1 piece l1 (Ok late) → Wrote w0 w1 o1 → TurnEnds b rest piece g w0 w1 v0 v1 (Ok true)
turn_closed b rest piece late g w0 w1 v0 v1 o0 o1 l0 l1 no_frames no_lines fed told wrote =
    let f = subst (λ (x : List ℕ). FeedsFrom b (rest ++ piece) b.course g [] o1 x l1 (Ok true)) no_lines (subst (λ (x : List ℕ). FeedsFrom b (rest ++ piece) b.course g x o1 l0 l1 (Ok true)) no_frames fed) in
    (record { piece = piece; lines = l1; late = late }, f.0, f.1, whole_turn b rest piece l1 late w0 w1 v0 v1 f.0 o1 f.1 f.2 f.5 (closed_turn late f.1.phase f.1 f.3) told wrote, (f.3, f.4))

-- a feed went on
pub record Went (b : Beginning) (rest piece : List ℕ) (g : Gathering) (o1 l1 : List ℕ) : Type 0 where
  pub next : List ℕ
  pub course : Course
  pub stands : StandsFrom b (rest ++ piece) next course g
  pub moves : Moves b.course course [] o1 [] l1

pub went : (b : Beginning) (rest piece : List ℕ) (g : Gathering) (o0 o1 l0 l1 : List ℕ) → o0 ≡ [] → l0 ≡ [] → FeedsFrom b (rest ++ piece) b.course g o0 o1 l0 l1 (Ok false) → Went b rest piece g o1 l1
went b rest piece g o0 o1 l0 l1 no_frames no_lines fed =
    let f = subst (λ (x : List ℕ). FeedsFrom b (rest ++ piece) b.course g [] o1 x l1 (Ok false)) no_lines (subst (λ (x : List ℕ). FeedsFrom b (rest ++ piece) b.course g x o1 l0 l1 (Ok false)) no_frames fed) in
    record { next = f.0; course = f.1; stands = f.2; moves = f.3 }

pub turn_goes : (b : Beginning) (rest piece : List ℕ) (g : Gathering) (w0 w1 : SinkLog) (v0 v1 : SinkLog → List Turn → Type 0) (o1 l1 : List ℕ) → Went b rest piece g o1 l1 → g.phase ≡ Open → IsTold v0 v1 piece l1 (Ok false) → Wrote w0 w1 o1
    → TurnEnds b rest piece g w0 w1 v0 v1 (Ok false)
turn_goes b rest piece g w0 w1 v0 v1 o1 l1 f opened told wrote =
    (record { piece = piece; lines = l1; late = false }, f.next, f.course, whole_turn b rest piece l1 false w0 w1 v0 v1 f.next o1 f.course f.stands.gathers f.moves (refl, refl) told wrote, stands_anew b (rest ++ piece) f.next f.course g f.stands opened)

-- it hurried then
hurried_turn : (b : Beginning) (rest piece : List ℕ) (g : Gathering) (w0 w1 w2 : SinkLog) (v0 v1 : SinkLog → List Turn → Type 0) (o1 l1 said : List ℕ) (f : Went b rest piece g o1 l1) → IsTold v0 v1 piece l1 (Ok true) → Wrote w0 w1 o1 → HurriedOn f.course w1 w2 said
    → TurnsTo b rest piece w0 w2 v0 v1 (record { piece = piece; lines = l1; late = true }) f.next (hurried f.course)
hurried_turn b rest piece g w0 w1 w2 v0 v1 o1 l1 said f told wrote h = record {
  said = o1 ++ said;
  piece_is = refl;
  told = told;
  takes = record {
    taken = f.course;
    first = o1;
    last = said;
    gathers = f.stands.gathers;
    moves = f.moves;
    goes = subst (λ (p : Phase). Hurrying true p f.course said (hurried f.course)) (sym f.stands.open_is) (refl, h.moves);
    said_is = refl;
  };
  wrote = wrote_more w0 w1 w2 o1 said wrote h.wrote;
}

pub turn_hurries : (b : Beginning) (rest piece : List ℕ) (g new : Gathering) (w0 w1 w2 : SinkLog) (v0 v1 : SinkLog → List Turn → Type 0) (o1 l1 : List ℕ) (done : Unit {0}) (f : Went b rest piece g o1 l1) → IsTold v0 v1 piece l1 (Ok true) → Wrote w0 w1 o1
    → HurriesOn (further b f.course) f.next new w1 w2 (Ok done) → TurnEnds b rest piece new w0 w2 v0 v1 (Ok false)
turn_hurries b rest piece g new w0 w1 w2 v0 v1 o1 l1 done f told wrote h =
    (record { piece = piece; lines = l1; late = true }, f.next, hurried f.course, hurried_turn b rest piece g w0 w1 w2 v0 v1 o1 l1 h.0 f told wrote h.1, h.2)

pub turn_hurry_fails : (b : Beginning) (rest piece : List ℕ) (g new : Gathering) (w0 w1 w2 : SinkLog) (v0 v1 : SinkLog → List Turn → Type 0) (o1 l1 : List ℕ) (error : ToolErr) (f : Went b rest piece g o1 l1) → IsTold v0 v1 piece l1 (Ok true) → Wrote w0 w1 o1
    → HurriesOn (further b f.course) f.next new w1 w2 (Err error) → TurnFails b rest piece w0 w2 v0 v1 error
turn_hurry_fails b rest piece g new w0 w1 w2 v0 v1 o1 l1 error f told wrote h = by_error error h
  where
    by_error : (error : ToolErr) → HurriesOn (further b f.course) f.next new w1 w2 (Err error) → TurnFails b rest piece w0 w2 v0 v1 error
    by_error Memory h = tt
    by_error Write h = tt
    by_error (Peer status) h = (record { piece = piece; lines = l1; late = true }, f.next, hurried f.course, hurried_turn b rest piece g w0 w1 w2 v0 v1 o1 l1 h.0 f told wrote h.1, h.2)
    by_error Strange h = (record { piece = piece; lines = l1; late = true }, f.next, hurried f.course, hurried_turn b rest piece g w0 w1 w2 v0 v1 o1 l1 h.0 f told wrote h.1, h.2)
    by_error Early h = (record { piece = piece; lines = l1; late = true }, f.next, hurried f.course, hurried_turn b rest piece g w0 w1 w2 v0 v1 o1 l1 h.0 f told wrote h.1, h.2)
    by_error Broken h = absurd h
    by_error (Listing line reason) h = absurd h
    by_error (Script line) h = absurd h
    by_error Hex h = absurd h
    by_error Read h = absurd h
    by_error Bound h = absurd h
