-- A run of a client that is watched.
use Rattle.std.proofs.Common.{◌≡◌, ℕ, ◌+◌, Bool, true, false, List, [], ◌∷◌, ◌++◌, Result, Ok, Err, refl, sym, ap, subst, ◌∙◌, append_assoc, inl, inr, arith}
use Rattle.std.specs.Prelude.{◌⊎◌}
use Rattle.std.proofs.lemmas.List.{append-nil}
use Rattle.std.proofs.lemmas.List.Concat.{flat_map-append}
use Rattle.llrp_tree.specs.Tree.{Tree}
use Rattle.llrp_stream.specs.Device.{SourceLog, SinkLog, Gave, IsFreshSink, Wrote}
use Rattle.llrp_listing.specs.Copying.{GaveAndFailed}
use Rattle.llrp_stream.proofs.WritingLemmas.{wrote_more, wrote_nothing}
use Rattle.llrp_listing.proofs.DeviceLemmas.{gave_nothing}
use Rattle.llrp_listing.specs.declared.outcome.ToolErr.{ToolErr}
use Rattle.llrp_listing.specs.declared.outcome.ToolErr.TheVariants.{Listing, Script, Hex, Read, Write, Bound, Broken, Memory, Peer, Strange, Early}
use Rattle.llrp_endpoints.specs.declared.course.Phase.TheVariants.{Open, Closed, Failed}
use Rattle.llrp_endpoints.specs.declared.gathering.Gathering.{Gathering}
use Rattle.llrp_endpoints.specs.declared.inventory.TheConstants.{MOST_LASTING_READS}
use Rattle.llrp_endpoints.specs.declared.summary.Summary.{Summary}
use Rattle.llrp_endpoints.specs.Gathering.{Beginning, Course, beginning, new_course}
use Rattle.llrp_endpoints.specs.Calls.GatheringStands.{Counts, IsOpen, IsOpenFrom, further}
use Rattle.llrp_endpoints.specs.Plan.{Plan}
use Rattle.llrp_endpoints.specs.Private.Reads.{GivenWithin, GivesNoneWithin}
use Rattle.llrp_endpoints.specs.Private.Watching.{TurnEnds, TurnFails, TurnsTo, TakesTurn}
use Rattle.llrp_endpoints.specs.RunInventory.{ReadAllWithin}
use Rattle.llrp_endpoints.specs.TagLines.{summary_of}
use Rattle.llrp_endpoints.specs.Watching.{EndsIn, GivenIn, IsWaiting, Leads, RunsWatching, StopsIn, Tells, Turn, pieces_of}
use Rattle.llrp_endpoints.specs.Watching.Leads.{no_turn, one_more}
use Rattle.llrp_endpoints.proofs.WatchLemmas.{stands_anew, tells_more, tells_nothing}

-- What the turns so far came to.
pub record SoFar (b : Beginning) (bytes : List ℕ) (w0 w1 : SinkLog) (v0 v1 : SinkLog → List Turn → Type 0) (g : Gathering) : Type 0 where
  pub turns : List Turn
  pub rest : List ℕ
  pub said : List ℕ
  pub course : Course
  pub leads : Leads b turns rest said course
  pub bytes_are : pieces_of turns ≡ bytes
  pub told : Tells v0 v1 turns
  pub wrote : Wrote w0 w1 said
  pub opened : IsOpenFrom (further b course) rest rest course g

-- The invariant of the loop.
pub record Watches (r0 r1 : SourceLog) (w0 w1 : SinkLog) (v0 v1 : SinkLog → List Turn → Type 0) (reads : ℕ) (first g : Gathering) (out lines : List ℕ) : Type 0 where
  pub bytes : List ℕ
  pub given : GivenWithin MOST_LASTING_READS r0 r1 reads bytes
  pub no_frames : out ≡ []
  pub no_lines : lines ≡ []
  pub sink : IsFreshSink w1
  pub follows : (limit : ℕ) (plan : Plan) → IsOpen limit plan [] [] (new_course limit plan) first → SoFar (beginning limit plan) bytes w0 w1 v0 v1 g

pub begins : (r : SourceLog) (w : SinkLog) (v : SinkLog → List Turn → Type 0) (reads : ℕ) (g : Gathering) (out lines : List ℕ) → reads ≡ 0 → out ≡ [] → lines ≡ [] → IsFreshSink w → Watches r r w w v v reads g g out lines
begins r w v reads g out lines unread no_frames no_lines sink = record {
  bytes = [];
  given = rw unread (record { gave = gave_nothing r; few = omega arith });
  no_frames = no_frames;
  no_lines = no_lines;
  sink = sink;
  follows = λ limit plan opened. record {
    turns = [];
    rest = [];
    said = [];
    course = new_course limit plan;
    leads = no_turn;
    bytes_are = refl;
    told = tells_nothing v;
    wrote = wrote_nothing w;
    opened = stands_anew (beginning limit plan) [] [] (new_course limit plan) g opened.stands opened.phase;
  };
}

pieces_more : (turns : List Turn) (t : Turn) (bytes piece : List ℕ) → pieces_of turns ≡ bytes → t.piece ≡ piece → pieces_of (turns ++ t ∷ []) ≡ bytes ++ piece
pieces_more turns t bytes piece e f = flat_map-append (λ (u : Turn). u.piece) turns (t ∷ []) ∙ ap (λ (x : List ℕ). pieces_of turns ++ x) (append-nil t.piece ∙ f) ∙ ap (λ (x : List ℕ). x ++ piece) e

-- One more turn was told.
record More (b : Beginning) (bytes piece : List ℕ) (w0 w2 : SinkLog) (v0 v2 : SinkLog → List Turn → Type 0) (next : List ℕ) (course : Course) : Type 0 where
  turns : List Turn
  said : List ℕ
  leads : Leads b turns next said course
  bytes_are : pieces_of turns ≡ bytes ++ piece
  told : Tells v0 v2 turns
  wrote : Wrote w0 w2 said

one_turn_more : (b : Beginning) (bytes piece : List ℕ) (w0 w1 w2 : SinkLog) (v0 v1 v2 : SinkLog → List Turn → Type 0) (g : Gathering) (t : Turn) (next : List ℕ) (d : Course) (f : SoFar b bytes w0 w1 v0 v1 g) → TurnsTo (further b f.course) f.rest piece w1 w2 v1 v2 t next d → More b bytes piece w0 w2 v0 v2 next d
one_turn_more b bytes piece w0 w1 w2 v0 v1 v2 g t next d f p = record {
  turns = f.turns ++ t ∷ [];
  said = f.said ++ p.said;
  leads = one_more f.turns f.rest f.said f.course t next p.said d f.leads p.takes;
  bytes_are = pieces_more f.turns t bytes piece f.bytes_are p.piece_is;
  told = tells_more v0 v1 v2 f.turns (t ∷ []) f.told p.told;
  wrote = wrote_more w0 w1 w2 f.said p.said f.wrote p.wrote;
}

waiting : (b : Beginning) (bytes : List ℕ) (w0 w1 : SinkLog) (v0 v1 : SinkLog → List Turn → Type 0) (g : Gathering) (f : SoFar b bytes w0 w1 v0 v1 g) → IsWaiting f.rest f.course
waiting b bytes w0 w1 v0 v1 g f = (f.opened.stands.open_is, f.opened.stands.decoder.unfinished)

given_in : (r0 r1 : SourceLog) (n : ℕ) (bytes other : List ℕ) → GivenWithin MOST_LASTING_READS r0 r1 n bytes → other ≡ bytes → GivenIn r0 r1 other
given_in r0 r1 n bytes other g e = subst (λ (x : List ℕ). GivenIn r0 r1 x) (sym e) (n, g.few, g.gave)

-- ---- where reading stops

pub unread : (limit : ℕ) (plan : Plan) (r0 r1 : SourceLog) (bytes : List ℕ) (w0 w1 : SinkLog) (v0 v1 : SinkLog → List Turn → Type 0) (g : Gathering) (error : ToolErr) → SoFar (beginning limit plan) bytes w0 w1 v0 v1 g → GivesNoneWithin MOST_LASTING_READS r0 r1 bytes error
    → RunsWatching limit plan r0 r1 w0 w1 v0 v1 (Err error)
unread limit plan r0 r1 bytes w0 w1 v0 v1 g error f (inl none) =
    let b = beginning limit plan in
    let read = subst (λ (x : List ℕ). GaveAndFailed r0 r1 none.1 x) (sym f.bytes_are) none.2 in
    rw none.0 (record { turns = f.turns; rest = f.rest; said = f.said; course = f.course; leads = f.leads; ends = ((none.1, read), f.told, f.wrote, waiting b bytes w0 w1 v0 v1 g f) })
unread limit plan r0 r1 bytes w0 w1 v0 v1 g error f (inr none) =
    let b = beginning limit plan in
    let n = subst (λ (x : List ℕ). Gave r0 r1 MOST_LASTING_READS x) (sym f.bytes_are) none.1 in
    rw none.0 (record { turns = f.turns; rest = f.rest; said = f.said; course = f.course; leads = f.leads; ends = (n, f.told, f.wrote, waiting b bytes w0 w1 v0 v1 g f) })

pub at_the_end : (limit : ℕ) (plan : Plan) (r0 r1 : SourceLog) (bytes : List ℕ) (w0 w1 : SinkLog) (v0 v1 : SinkLog → List Turn → Type 0) (g : Gathering) → SoFar (beginning limit plan) bytes w0 w1 v0 v1 g → ReadAllWithin MOST_LASTING_READS r0 r1 bytes
    → RunsWatching limit plan r0 r1 w0 w1 v0 v1 (Err Early)
at_the_end limit plan r0 r1 bytes w0 w1 v0 v1 g f all =
    let b = beginning limit plan in
    let whole = subst (λ (x : List ℕ). ReadAllWithin MOST_LASTING_READS r0 r1 x) (sym f.bytes_are) all in
    record { turns = f.turns; rest = f.rest; said = f.said; course = f.course; leads = f.leads; ends = (f.told, f.wrote, inl (whole, waiting b bytes w0 w1 v0 v1 g f)) }

-- ---- where a turn ends it

pub run_closed : (limit : ℕ) (plan : Plan) (r0 r2 : SourceLog) (n : ℕ) (bytes piece : List ℕ) (w0 w1 w2 : SinkLog) (v0 v1 v2 : SinkLog → List Turn → Type 0) (g new : Gathering) (closed : Bool) (summary : Summary) (f : SoFar (beginning limit plan) bytes w0 w1 v0 v1 g)
    → GivenWithin MOST_LASTING_READS r0 r2 n (bytes ++ piece) → TurnEnds (further (beginning limit plan) f.course) f.rest piece new w1 w2 v1 v2 (Ok closed) → closed ≡ true → ((reports : List (List Tree)) → Counts reports new → summary ≡ summary_of reports)
    → RunsWatching limit plan r0 r2 w0 w2 v0 v2 (Ok summary)
run_closed limit plan r0 r2 n bytes piece w0 w1 w2 v0 v1 v2 g new false summary f given e is counts = absurd cc
run_closed limit plan r0 r2 n bytes piece w0 w1 w2 v0 v1 v2 g new true summary f given e is counts =
    let more = one_turn_more (beginning limit plan) bytes piece w0 w1 w2 v0 v1 v2 g e.0 e.1 e.2 f e.3 in
    record { turns = more.turns; rest = e.1; said = more.said; course = e.2; leads = more.leads; ends = (given_in r0 r2 n (bytes ++ piece) (pieces_of more.turns) given more.bytes_are, more.told, more.wrote, e.4.0, counts e.2.reports e.4.1) }

stops_in : (r0 r2 : SourceLog) (n : ℕ) (turns : List Turn) (bytes piece : List ℕ) → GivenWithin MOST_LASTING_READS r0 r2 n (bytes ++ piece) → pieces_of turns ≡ bytes → StopsIn r0 r2 turns
stops_in r0 r2 n turns bytes piece given e = record { piece = piece; given = given_in r0 r2 n (bytes ++ piece) (pieces_of turns ++ piece) given (ap (λ (x : List ℕ). x ++ piece) e) }

pub run_failed : (limit : ℕ) (plan : Plan) (r0 r2 : SourceLog) (n : ℕ) (bytes piece : List ℕ) (w0 w1 w2 : SinkLog) (v0 v1 v2 : SinkLog → List Turn → Type 0) (g : Gathering) (error : ToolErr) (f : SoFar (beginning limit plan) bytes w0 w1 v0 v1 g)
    → GivenWithin MOST_LASTING_READS r0 r2 n (bytes ++ piece) → TurnFails (further (beginning limit plan) f.course) f.rest piece w1 w2 v1 v2 error → RunsWatching limit plan r0 r2 w0 w2 v0 v2 (Err error)
run_failed limit plan r0 r2 n bytes piece w0 w1 w2 v0 v1 v2 g error f given fails = by_error error fails
  where
    by_error : (error : ToolErr) → TurnFails (further (beginning limit plan) f.course) f.rest piece w1 w2 v1 v2 error → RunsWatching limit plan r0 r2 w0 w2 v0 v2 (Err error)
    by_error Write e = record { turns = f.turns; rest = f.rest; said = f.said; course = f.course; leads = f.leads; ends = stops_in r0 r2 n f.turns bytes piece given f.bytes_are }
    by_error Memory e = record { turns = f.turns; rest = f.rest; said = f.said; course = f.course; leads = f.leads; ends = stops_in r0 r2 n f.turns bytes piece given f.bytes_are }
    by_error Broken e = record {
      turns = f.turns;
      rest = f.rest;
      said = f.said;
      course = f.course;
      leads = f.leads;
      ends = record {
        last = e.last;
        next = e.next;
        more = e.more;
        taken = e.taken;
        given = given_in r0 r2 n (bytes ++ piece) (pieces_of f.turns ++ e.last.piece) given (ap (λ (x : List ℕ). x ++ e.last.piece) f.bytes_are ∙ ap (λ (x : List ℕ). bytes ++ x) e.piece_is);
        told = tells_more v0 v1 v2 f.turns (e.last ∷ []) f.told e.told;
        gathers = e.gathers;
        moves = e.moves;
        still_open = e.still_open;
        breaks = e.breaks;
        wrote = wrote_more w0 w1 w2 f.said e.more f.wrote e.wrote;
      };
    }
    by_error (Peer status) e =
        let more = one_turn_more (beginning limit plan) bytes piece w0 w1 w2 v0 v1 v2 g e.0 e.1 e.2 f e.3 in
        record { turns = more.turns; rest = e.1; said = more.said; course = e.2; leads = more.leads; ends = (given_in r0 r2 n (bytes ++ piece) (pieces_of more.turns) given more.bytes_are, more.told, more.wrote, e.4) }
    by_error Strange e =
        let more = one_turn_more (beginning limit plan) bytes piece w0 w1 w2 v0 v1 v2 g e.0 e.1 e.2 f e.3 in
        record { turns = more.turns; rest = e.1; said = more.said; course = e.2; leads = more.leads; ends = (given_in r0 r2 n (bytes ++ piece) (pieces_of more.turns) given more.bytes_are, more.told, more.wrote, e.4) }
    by_error Early e =
        let more = one_turn_more (beginning limit plan) bytes piece w0 w1 w2 v0 v1 v2 g e.0 e.1 e.2 f e.3 in
        record { turns = more.turns; rest = e.1; said = more.said; course = e.2; leads = more.leads; ends = (more.told, more.wrote, inr (given_in r0 r2 n (bytes ++ piece) (pieces_of more.turns) given more.bytes_are, e.4)) }
    by_error (Listing line reason) e = absurd e
    by_error (Script line) e = absurd e
    by_error Hex e = absurd e
    by_error Read e = absurd e
    by_error Bound e = absurd e

-- ---- where a turn leads on

pub goes_on : (r0 r1 r2 : SourceLog) (w0 w1 w2 : SinkLog) (v0 v1 v2 : SinkLog → List Turn → Type 0) (n m : ℕ) (first g new : Gathering) (out0 out1 lines0 lines1 piece : List ℕ) (closed : Bool) (f : Watches r0 r1 w0 w1 v0 v1 n first g out0 lines0) → GivenWithin MOST_LASTING_READS r0 r2 m (f.bytes ++ piece)
    → TakesTurn piece g new w1 w2 v1 v2 (Ok closed) → closed ≡ false → out1 ≡ [] → lines1 ≡ [] → IsFreshSink w2 → Watches r0 r2 w0 w2 v0 v2 m first new out1 lines1
goes_on r0 r1 r2 w0 w1 w2 v0 v1 v2 n m first g new out0 out1 lines0 lines1 piece true f given takes is no_frames no_lines sink = absurd cc
goes_on r0 r1 r2 w0 w1 w2 v0 v1 v2 n m first g new out0 out1 lines0 lines1 piece false f given takes is no_frames no_lines sink = record {
  bytes = f.bytes ++ piece;
  given = given;
  no_frames = no_frames;
  no_lines = no_lines;
  sink = sink;
  follows = λ limit plan opened.
      let so = f.follows limit plan opened in
      let b = beginning limit plan in
      let e = takes (further b so.course) so.rest so.opened in
      let more = one_turn_more b f.bytes piece w0 w1 w2 v0 v1 v2 g e.0 e.1 e.2 so e.3 in
      record { turns = more.turns; rest = e.1; said = more.said; course = e.2; leads = more.leads; bytes_are = more.bytes_are; told = more.told; wrote = more.wrote; opened = e.4 };
}
