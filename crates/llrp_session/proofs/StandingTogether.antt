-- After every event the client that took all that is on the way agrees with the reader.
use Rattle.std.proofs.Common.{◌≡◌, ℕ, refl, sym, ◌∙◌, ap, subst, true, false, cond, List, [], ◌∷◌, ◌++◌, inl, inr, append_assoc, append-nil}
use Rattle.std.specs.Prelude.{◌+◌, Option, None, Some, is_some, Ok, Err}
use Rattle.llrp_tree.specs.Tree.{Tree}
use Rattle.llrp_session.specs.Table.{states, active}
use Rattle.llrp_session.specs.TagReport.{Sighting}
use Rattle.llrp_session.specs.Contents.{Accepted, ReaderMessage, Command, Add, Delete, Start, Stop, Enable, Disable, GetRospecs, SetKeepalive, GetReport, Close, request, ClientContent, Asks, Acknowledges, ClientMessage, Closing}
use Rattle.llrp_session.specs.Calls.Contents.{heard}
use Rattle.llrp_session.specs.Refusal.{Refusal, Busy, OverLimit, IdsSpent}
use Rattle.llrp_session.specs.ReaderMachine.{Reader, Turn, ReaderPhase, Waiting, Up, Down, ReaderEvent, Connect, Take, Seen, Tick, next, next_in, connect, serve, counting, turn_begun}
use Rattle.llrp_session.specs.Sightings.{tags_of, tags_in, kept_by}
use Rattle.llrp_session.specs.ClientMachine.{Client, ClientPhase, Fresh, Ready, Closed, Pending, sending, command, sent_unless, refused_in, awaited, take, take_in, is_over_limit, are_spent, closed, cleared}
use Rattle.llrp_session.specs.Calls.World.{World, happens, run, opening, stepped, commanded, word_took, delivered_up, delivered_down}
use Rattle.llrp_session.specs.World.{WorldEvent, Connects, Commands, DeliversUp, DeliversDown, Sees, Ticks, listed_by, tags_handed_out}
use Rattle.llrp_session.specs.Calls.Agreement.{taken_in, and_then, requests, awaited_by, IsOnTheWay}
use Rattle.llrp_session.specs.MessageAgreement.{as_list}
use Rattle.llrp_session.proofs.Following.{Follows, taken_in-append, follows-serve, follows-see, follows-tick, follows-send_held, ClosesNot, awaited_response, request_with}
use Rattle.llrp_session.proofs.TakingIn.{with_pending, settled, awaited_once, hands_out}

abbrev pub client_phase : ReaderPhase → ClientPhase
client_phase Waiting = Fresh
client_phase Up = Ready
client_phase Down = Closed

-- a request can be pending only while the reader is up
abbrev pub MayWait : ReaderPhase → Option Pending → Type 0
MayWait Waiting p = p ≡ None
MayWait Up p = Unit {0}
MayWait Down p = p ≡ None

-- the client that took what is on the way agrees with the reader
pub record StandsTogether (w : World) : Type 0 where
  pub c : Client
  pub caught_up : taken_in w.down w.client ≡ Some c
  pub view : c.view ≡ states w.reader.table
  pub phase : c.phase ≡ client_phase w.reader.phase
  pub asked : requests w.up ≡ as_list c.pending
  pub may_wait : MayWait w.reader.phase c.pending
  pub reports : w.handed_out ++ tags_of w.down ≡ w.reported

-- the client c0, once it took what the turn sent, agrees with the reader
record CatchesUp (c0 : Client) (p : Option Pending) (t : Turn) : Type 0 where
  pub c : Client
  pub caught_up : taken_in t.sent c0 ≡ Some c
  pub view : c.view ≡ states t.reader.table
  pub pending : c.pending ≡ p
  pub phase : c.phase ≡ client_phase t.reader.phase

catches_up : (c0 : Client) (p : Option Pending) (t : Turn) → Follows c0 p t → CatchesUp c0 p t
catches_up c0 p t f = record { c = f.c; caught_up = f.caught_up; view = f.view; pending = f.pending; phase = f.phase ∙ sym (ap client_phase f.up) }

pub tags_of-append : (xs ys : List ReaderMessage) → tags_of (xs ++ ys) ≡ tags_of xs ++ tags_of ys
unfolding tags_of
tags_of-append [] ys = refl
tags_of-append (m ∷ ms) ys = ap (λ ts. tags_in m.word ++ ts) (tags_of-append ms ys) ∙ sym (append_assoc (tags_in m.word) (tags_of ms) (tags_of ys))

requests-append : (xs ys : List ClientMessage) → requests (xs ++ ys) ≡ requests xs ++ requests ys
unfolding requests
requests-append [] ys = refl
requests-append (m ∷ ms) ys = ap (λ ts. awaited_by m.word m.id ++ ts) (requests-append ms ys) ∙ sym (append_assoc (awaited_by m.word m.id) (requests ms) (requests ys))

-- ---- the reader takes a step

together-turn : (w : World) (kept : List Tree) (listed : List (List Tree)) (c : Client) (p : Option Pending) (t : Turn) → taken_in w.down w.client ≡ Some c → CatchesUp c p t → requests w.up ≡ as_list p
    → MayWait t.reader.phase p → w.handed_out ++ tags_of w.down ≡ w.reported → StandsTogether (stepped (Ok t) kept listed w)
together-turn w kept listed c p t caught_up k asks may_wait reports =
    record {
      c = k.c;
      caught_up = taken_in-append w.down t.sent w.client c caught_up ∙ k.caught_up;
      view = k.view;
      phase = k.phase;
      asked = asks ∙ sym (ap as_list k.pending);
      may_wait = subst (MayWait t.reader.phase) (sym k.pending) may_wait;
      reports = ap (λ ts. w.handed_out ++ ts) (tags_of-append w.down t.sent) ∙ sym (append_assoc w.handed_out (tags_of w.down) (tags_of t.sent)) ∙ ap (λ ts. ts ++ tags_of t.sent) reports;
    }

follows-begun : (w : World) (a : StandsTogether w) (r : Reader) → r.phase ≡ Up → r.table ≡ w.reader.table → w.reader.phase ≡ Up → Follows a.c a.c.pending (turn_begun r)
follows-begun w a r up same was = record { c = a.c; caught_up = refl; view = a.view ∙ ap states (sym same); pending = refl; phase = a.phase ∙ ap client_phase was; up = up }

together-follows : (w : World) (kept : List Tree) (listed : List (List Tree)) (a : StandsTogether w) (t : Turn) → Follows a.c a.c.pending t → StandsTogether (stepped (Ok t) kept listed w)
together-follows w kept listed a t f = together-turn w kept listed a.c a.c.pending t a.caught_up (catches_up a.c a.c.pending t f) a.asked (subst (λ ph. MayWait ph a.c.pending) (sym f.up) tt) a.reports

together-connects : (w : World) (kept : List Tree) (listed : List (List Tree)) (now : ℕ) → StandsTogether w → StandsTogether (stepped (next now Connect w.reader) kept listed w)
unfolding take next
together-connects w kept listed now a =
    elim (w.reader.phase) as (λ ph. w.reader.phase ≡ ph → StandsTogether (stepped (next_in ph now Connect w.reader) kept listed w)) [
      | Waiting ↦ λ e.
          let fresh : a.c.phase ≡ Fresh = a.phase ∙ ap client_phase e in
          let none : a.c.pending ≡ None = subst (λ ph. MayWait ph a.c.pending) e a.may_wait in
          together-turn w kept listed a.c None (connect now w.reader) a.caught_up
          (record {
            c = record a.c { phase = Ready };
            caught_up = ap (λ ph. and_then (take_in ph a.c w.reader.next_id (heard (Accepted now))) (taken_in [])) fresh;
            view = a.view;
            pending = none;
            phase = refl;
          })
          (a.asked ∙ ap as_list none) tt a.reports
      | Up ↦ λ e. a
      | Down ↦ λ e. a
    ] refl

together-sees : (w : World) (kept : List Tree) (listed : List (List Tree)) (now : ℕ) (g : Sighting) → StandsTogether w → StandsTogether (stepped (next now (Seen g) w.reader) kept listed w)
unfolding next
together-sees w kept listed now g a =
    elim (w.reader.phase) as (λ ph. w.reader.phase ≡ ph → StandsTogether (stepped (next_in ph now (Seen g) w.reader) kept listed w)) [
      | Waiting ↦ λ e. a
      | Up ↦ λ e. together-follows w kept listed a _ (follows-see now g (counting g (active w.reader.table)) a.c a.c.pending (turn_begun w.reader) (follows-begun w a w.reader e refl e))
      | Down ↦ λ e. a
    ] refl

together-ticks : (w : World) (kept : List Tree) (listed : List (List Tree)) (now : ℕ) → StandsTogether w → StandsTogether (stepped (next now Tick w.reader) kept listed w)
unfolding next
together-ticks w kept listed now a =
    elim (w.reader.phase) as (λ ph. w.reader.phase ≡ ph → StandsTogether (stepped (next_in ph now Tick w.reader) kept listed w)) [
      | Waiting ↦ λ e. a
      | Up ↦ λ e. together-follows w kept listed a _ (follows-tick now a.c a.c.pending (turn_begun w.reader) (follows-begun w a w.reader e refl e))
      | Down ↦ λ e. a
    ] refl

-- ---- the client takes a message

together-down : (w : World) (ms : List ReaderMessage) → w.down ≡ ms → StandsTogether w → StandsTogether (delivered_down ms w)
unfolding tags_of
together-down w [] is a = a
together-down w (m ∷ ms) is a =
    elim (take w.client m.id (heard m.word)) as (λ r. take w.client m.id (heard m.word) ≡ r → and_then r (taken_in ms) ≡ Some a.c → StandsTogether (word_took r (record w { down = ms }))) [
      | Err refusal ↦ λ e g. cc
      | Ok k ↦ λ e g.
          let h = hands_out m.word w.client m.id k e in
          record {
            c = a.c;
            caught_up = g;
            view = a.view;
            phase = a.phase;
            asked = requests-append w.up k.sent ∙ ap (λ xs. requests w.up ++ xs) h.no_requests ∙ append-nil (requests w.up) ∙ a.asked;
            may_wait = a.may_wait;
            reports = append_assoc w.handed_out (tags_handed_out k.taken) (tags_of ms) ∙ ap (λ ts. w.handed_out ++ (ts ++ tags_of ms)) h.tags ∙ ap (λ d. w.handed_out ++ tags_of d) (sym is) ∙ a.reports;
          }
    ] refl (sym (ap (λ d. taken_in d w.client) is) ∙ a.caught_up)

-- ---- the client sends a command

is_up : (ph : ReaderPhase) (p : Option Pending) → client_phase ph ≡ Ready → MayWait ph p
is_up Up p e = tt
is_up Waiting p e = cc
is_up Down p e = cc

together-sent : (w : World) (k : Command) → w.client.phase ≡ Ready → w.client.pending ≡ None → StandsTogether w → StandsTogether (commanded (Ok (sending w.client k)) w)
unfolding requests
together-sent w k ready none a =
    let s = settled w.down w.client a.c none a.caught_up in
    let p = awaited w.client.next_id k in
    record {
      c = with_pending p (w.client.next_id + 1) a.c;
      caught_up = s.same p (w.client.next_id + 1);
      view = a.view;
      phase = a.phase;
      asked = requests-append w.up ((sending w.client k).message ∷ []) ∙ ap (λ xs. xs ++ requests ((sending w.client k).message ∷ [])) (a.asked ∙ ap as_list s.none) ∙ append-nil (as_list p);
      may_wait = is_up w.reader.phase p (sym a.phase ∙ s.ready ready);
      reports = a.reports;
    }

abbrev sent_where : World → Command → Option Refusal → World
sent_where w k refusal = commanded (sent_unless refusal w.client k) w

together-commands : (w : World) (k : Command) → StandsTogether w → StandsTogether (commanded (command w.client k) w)
unfolding command
together-commands w k a =
    elim (w.client.phase) as (λ ph. w.client.phase ≡ ph → StandsTogether (sent_where w k (refused_in ph w.client k))) [
      | Fresh ↦ λ e. a
      | Closed ↦ λ e. a
      | Ready ↦ λ e. elim (w.client.pending) as (λ o. w.client.pending ≡ o → StandsTogether (sent_where w k (cond (is_some o) (Some Busy) (cond (is_over_limit w.client.limit k) (Some OverLimit) (cond (are_spent w.client.next_id) (Some IdsSpent) None))))) [
        | Some p ↦ λ e2. a
        | None ↦ λ e2. elim (is_over_limit w.client.limit k) as (λ b. StandsTogether (sent_where w k (cond b (Some OverLimit) (cond (are_spent w.client.next_id) (Some IdsSpent) None)))) [
          | true ↦ a
          | false ↦ elim (are_spent w.client.next_id) as (λ b. StandsTogether (sent_where w k (cond b (Some IdsSpent) None))) [
            | true ↦ a
            | false ↦ together-sent w k e e2 a
          ]
        ]
      ] refl
    ] refl

-- ---- a message comes up

no_more : (xs ys : List Pending) → xs ++ ys ≡ [] → ys ≡ []
no_more [] ys e = e
no_more (x ∷ xs) ys e = cc

-- the message is dropped where nothing can be pending
together-dropped : (w : World) (m : ClientMessage) (ms : List ClientMessage) → w.up ≡ m ∷ ms → (a : StandsTogether w) → a.c.pending ≡ None → StandsTogether (record w { up = ms })
unfolding requests
together-dropped w m ms is a none =
    record {
      c = a.c;
      caught_up = a.caught_up;
      view = a.view;
      phase = a.phase;
      asked = no_more (awaited_by m.word m.id) (requests ms) (sym (ap requests is) ∙ a.asked ∙ ap as_list none) ∙ sym (ap as_list none);
      may_wait = a.may_wait;
      reports = a.reports;
    }

the_one : (p : Pending) (rest : List Pending) (o : Option Pending) → p ∷ rest ≡ as_list o → (o ≡ Some p) × (rest ≡ [])
the_one p rest None e = cc
the_one p rest (Some q) e = (cc, cc)

abbrev served : Reader → ℕ → ℕ → ClientContent → Turn
served r now id word = serve now 1 id (request word) (turn_begun (record r { version = 1 }))

-- a request that waits for a response, and does not close
together-asked : (w : World) (kept : List Tree) (listed : List (List Tree)) (now id : ℕ) (k : Command) (p : Pending) (ms : List ClientMessage) → awaited id k ≡ Some p → ClosesNot k → w.reader.phase ≡ Up
    → w.up ≡ record { id = id; word = Asks k } ∷ ms → (a : StandsTogether w) → StandsTogether (stepped (Ok (served w.reader now id (Asks k))) kept listed (record w { up = ms }))
unfolding requests
together-asked w kept listed now id k p ms some open_still e is a =
    let r : Reader = record w.reader { version = 1 } in
    let one = the_one p (requests ms) a.c.pending (sym (ap (λ o. as_list o ++ requests ms) some) ∙ sym (ap requests is) ∙ a.asked) in
    let g : Follows a.c (awaited id k) (turn_begun r) = subst (λ o. Follows a.c o (turn_begun r)) (one.0 ∙ sym some) (follows-begun w a r e refl e) in
    let f = follows-serve now 1 id k a.c (turn_begun r) open_still g in
    together-turn (record w { up = ms }) kept listed a.c None _ a.caught_up (catches_up a.c None _ f) one.1 (subst (λ ph. MayWait ph None) (sym f.up) tt) a.reports

-- a reader that is up serves a message
together-served : (w : World) (kept : List Tree) (listed : List (List Tree)) (now id : ℕ) (word : ClientContent) (ms : List ClientMessage) → w.reader.phase ≡ Up → w.up ≡ record { id = id; word = word } ∷ ms
    → (a : StandsTogether w) → StandsTogether (stepped (Ok (served w.reader now id word)) kept listed (record w { up = ms }))
unfolding requests serve take
together-served w kept listed now id Acknowledges ms e is a =
    together-turn (record w { up = ms }) kept listed a.c a.c.pending _ a.caught_up
    (catches_up a.c a.c.pending _ (follows-begun w a (record w.reader { version = 1 }) e refl e)) (sym (ap requests is) ∙ a.asked) (subst (λ ph. MayWait ph a.c.pending) (sym e) tt) a.reports
together-served w kept listed now id (Asks GetReport) ms e is a =
    let r : Reader = record w.reader { version = 1 } in
    let f = follows-send_held a.c a.c.pending (turn_begun r) (follows-begun w a r e refl e) in
    together-turn (record w { up = ms }) kept listed a.c a.c.pending _ a.caught_up (catches_up a.c a.c.pending _ f) (sym (ap requests is) ∙ a.asked) (subst (λ ph. MayWait ph a.c.pending) (sym f.up) tt) a.reports
together-served w kept listed now id (Asks Close) ms e is a =
    let one = the_one (request_with id Closing 0) (requests ms) a.c.pending (sym (ap requests is) ∙ a.asked) in
    together-turn (record w { up = ms }) kept listed a.c None _ a.caught_up
    (record {
      c = closed (cleared a.c);
      caught_up = ap (λ r. and_then r (taken_in [])) (awaited_response a.c id Closing 0 0 (a.phase ∙ ap client_phase e) one.0);
      view = a.view;
      pending = refl;
      phase = refl;
    })
    one.1 refl a.reports
together-served w kept listed now id (Asks (Add spec)) ms e is a = together-asked w kept listed now id (Add spec) _ ms refl tt e is a
together-served w kept listed now id (Asks (Delete n)) ms e is a = together-asked w kept listed now id (Delete n) _ ms refl tt e is a
together-served w kept listed now id (Asks (Start n)) ms e is a = together-asked w kept listed now id (Start n) _ ms refl tt e is a
together-served w kept listed now id (Asks (Stop n)) ms e is a = together-asked w kept listed now id (Stop n) _ ms refl tt e is a
together-served w kept listed now id (Asks (Enable n)) ms e is a = together-asked w kept listed now id (Enable n) _ ms refl tt e is a
together-served w kept listed now id (Asks (Disable n)) ms e is a = together-asked w kept listed now id (Disable n) _ ms refl tt e is a
together-served w kept listed now id (Asks GetRospecs) ms e is a = together-asked w kept listed now id GetRospecs _ ms refl tt e is a
together-served w kept listed now id (Asks (SetKeepalive n)) ms e is a = together-asked w kept listed now id (SetKeepalive n) _ ms refl tt e is a

together-up : (w : World) (now : ℕ) (ms : List ClientMessage) → w.up ≡ ms → StandsTogether w → StandsTogether (delivered_up now ms w)
unfolding next
together-up w now [] is a = a
together-up w now (m ∷ ms) is a =
    let e1 : ReaderEvent = Take 1 m.id (request m.word) in
    elim (w.reader.phase) as (λ ph. w.reader.phase ≡ ph → StandsTogether (stepped (next_in ph now e1 w.reader) (kept_by now e1 w.reader) (listed_by e1 w.reader) (record w { up = ms }))) [
      | Waiting ↦ λ e. together-dropped w m ms is a (subst (λ ph. MayWait ph a.c.pending) e a.may_wait)
      | Up ↦ λ e. together-served w _ _ now m.id m.word ms e is a
      | Down ↦ λ e. together-dropped w m ms is a (subst (λ ph. MayWait ph a.c.pending) e a.may_wait)
    ] refl

-- ---- every event

pub together-happens : (w : World) (e : WorldEvent) → StandsTogether w → StandsTogether (happens w e)
together-happens w (Connects now) a = together-connects w _ _ now a
together-happens w (Commands k) a = together-commands w k a
together-happens w (DeliversUp now) a = together-up w now w.up refl a
together-happens w DeliversDown a = together-down w w.down refl a
together-happens w (Sees now g) a = together-sees w _ _ now g a
together-happens w (Ticks now) a = together-ticks w _ _ now a

pub together-run : (es : List WorldEvent) (w : World) → StandsTogether w → StandsTogether (run es w)
together-run [] w a = a
together-run (e ∷ es) w a = together-run es (happens w e) (together-happens w e a)

pub together-opening : (limit reader_first client_first : ℕ) → StandsTogether (opening limit reader_first client_first)
unfolding requests tags_of
together-opening limit r c = record { c = (opening limit r c).client; caught_up = refl; view = refl; phase = refl; asked = refl; may_wait = refl; reports = refl }

-- what the standing of the client that took all says of what is on the way
pub on_the_way : (w : World) → StandsTogether w → IsOnTheWay w.client.pending w.up w.down
on_the_way w a =
    elim (w.client.pending) as (λ o. w.client.pending ≡ o → IsOnTheWay o w.up w.down) [
      | None ↦ λ e. let s = settled w.down w.client a.c e a.caught_up in (a.asked ∙ ap as_list s.none, s.no_responses)
      | Some p ↦ λ e.
          elim (awaited_once w.down w.client a.c p e a.caught_up) [
            | inl h ↦ inl (a.asked ∙ ap as_list h.1, h.0)
            | inr h ↦ inr (a.asked ∙ ap as_list h.1, h.0)
          ]
    ] refl
