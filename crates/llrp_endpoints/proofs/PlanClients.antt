-- What a client that follows a plan takes a message for.
use Rattle.std.proofs.Common.{◌≡◌, ℕ, ◌==◌, Bool, true, false, cond, List, [], refl, sym, ap, subst, ◌∙◌, inl, inr, arith}
use Rattle.std.specs.Prelude.{◌⊎◌, ◌≢◌, Option, None, Some, Result, Ok, Err}
use Rattle.std.specs.List.{filter}
use Rattle.std.proofs.lemmas.Bool.Decides.{nat_tests}
use Rattle.llrp_tree.specs.Tree.{Tree}
use Rattle.llrp_session.specs.Refusal.{Refusal, Unexpected}
use Rattle.llrp_session.specs.declared.types.ClientPhase.{ClientPhase}
use Rattle.llrp_session.specs.declared.types.ClientPhase.TheVariants.{Fresh, Ready}
use Rattle.llrp_session.specs.declared.types.Operation.{Operation}
use Rattle.llrp_session.specs.declared.types.Operation.TheVariants.{Adding, Deleting, Starting, Stopping, Enabling, Disabling, Configuring, Closing, Listing}
use Rattle.llrp_session.specs.declared.types.Pending.{Pending}
use Rattle.llrp_session.specs.declared.types.Taken.{Taken}
use Rattle.llrp_session.specs.declared.types.Taken.TheVariants.{Connected, Refused, Reply, Tags, Table, Differs, Event, Note, Kept, Closed as ConnectionEnded}
use Rattle.llrp_session.specs.Contents.{RoSpecChange, Heard, HeardResponse, HeardError, HeardReport, HeardKeepalive, HeardNotification, HeardOther, Notification, ClientMessage}
use Rattle.llrp_session.specs.ClientMachine.{Client, Taking, take, take_in, take_ready, take_fresh, attempted, answered, failed, notified, take_response, replied, listed, is_view, takes, unexpected, cleared, closed, granted, is_response_to, event_of, moved}
use Rattle.llrp_session.specs.Table.{viewed_state}
use Rattle.llrp_endpoints.specs.Calls.PlanLaws.{is_command, Accepts, Responds, ListsView, Refuses, TellsEnd}
use Rattle.llrp_session.proofs.TakingIn.{same_id as same_number}

-- ---- the client before and after

-- the pending request is answered with this status
abbrev pub Replies : Option Pending → ℕ → ℕ → Heard → Type 0
Replies None status id h = ⊥
Replies (Some p) status id h = Responds p status id h

pub record Joins (c d : Client) (h : Heard) : Type 0 where
  pub was : c.phase ≡ Fresh
  pub is : d.phase ≡ Ready
  pub pending : d.pending ≡ c.pending
  pub accepts : Accepts h

pub record IsRefused (c : Client) (status : ℕ) (h : Heard) : Type 0 where
  pub was : c.phase ≡ Fresh
  pub status_is : status ≢ 0
  pub refuses : Refuses status h

pub record IsAnswered (c d : Client) (status id : ℕ) (h : Heard) : Type 0 where
  pub was : c.phase ≡ Ready
  pub is : d.phase ≡ Ready
  pub pending : d.pending ≡ None
  pub replies : Replies c.pending status id h
  pub lists : status ≡ 0 → ListsView c.view h

pub record HandsOut (c d : Client) (tags : List Tree) (h : Heard) : Type 0 where
  pub was : c.phase ≡ Ready
  pub same : d ≡ c
  pub report : h ≡ HeardReport tags

pub record Stays (c d : Client) : Type 0 where
  pub phase : d.phase ≡ c.phase
  pub pending : d.pending ≡ c.pending

-- from the one to the other a message was taken for this
abbrev pub TakesFor : Taken → Client → Client → ℕ → Heard → Type 0
TakesFor Connected c d id h = Joins c d h
TakesFor (Refused status) c d id h = IsRefused c status h
TakesFor (Reply status) c d id h = IsAnswered c d status id h
TakesFor (Tags tags) c d id h = HandsOut c d tags h
TakesFor (Table rospecs) c d id h = IsAnswered c d 0 id h
TakesFor (Differs rospecs) c d id h = Unit {0}
TakesFor (Event rospec state) c d id h = Stays c d
TakesFor Note c d id h = Stays c d
TakesFor Kept c d id h = Stays c d
TakesFor ConnectionEnded c d id h = TellsEnd [] id h

-- no command was sent, and no id used
pub record Takes (c : Client) (id : ℕ) (h : Heard) (t : Taking) : Type 0 where
  pub limit : t.client.limit ≡ c.limit
  pub next_id : t.client.next_id ≡ c.next_id
  pub silent : filter (λ (m : ClientMessage). is_command m.word) t.sent ≡ []
  pub by : TakesFor t.taken c t.client id h

abbrev pub TakesOr : Client → ℕ → Heard → Result Taking Refusal → Type 0
TakesOr c id h (Ok t) = Takes c id h t
TakesOr c id h (Err refusal) = refusal ≡ Unexpected

-- ---- responses

by_reply : (c : Client) (p : Pending) (status id : ℕ) (h : Heard) → c.phase ≡ Ready → c.pending ≡ Some p → Responds p status id h → ListsView c.view h → TakesOr c id h (replied c p status)
by_reply c p status id h ready waits responds lists =
    let replies : Replies c.pending status id h = subst (λ (o : Option Pending). Replies o status id h) (sym waits) responds in
    elim (status == 0) as (λ b. TakesOr c id h (takes (Reply status) (cond b (record c { pending = None; view = granted p.operation p.rospec c.view }) (cleared c)))) [
      | true ↦ record { limit = refl; next_id = refl; silent = refl; by = record { was = ready; is = ready; pending = refl; replies = replies; lists = λ z. lists } }
      | false ↦ record { limit = refl; next_id = refl; silent = refl; by = record { was = ready; is = ready; pending = refl; replies = replies; lists = λ z. lists } }
    ]

pub not_zero : (status : ℕ) → (status == 0) ≡ false → status ≢ 0
not_zero status h = grind (arith, nat_tests)

is_zero : (status : ℕ) → (status == 0) ≡ true → status ≡ 0
is_zero status h = grind (arith, nat_tests)

-- GET_ROSPECS's response
by_listing : (c : Client) (p : Pending) (status : ℕ) (ts : List Tree) (id : ℕ) → c.phase ≡ Ready → c.pending ≡ Some p → Responds p status id (HeardResponse Listing status ts)
    → TakesOr c id (HeardResponse Listing status ts) (listed c status ts)
by_listing c p status ts id ready waits responds =
    let h : Heard = HeardResponse Listing status ts in
    let replies : Replies c.pending status id h = subst (λ (o : Option Pending). Replies o status id h) (sym waits) responds in
    elim (status == 0) as (λ b. (status == 0) ≡ b → TakesOr c id h (takes (cond b (cond (is_view ts c.view) (Table ts) (Differs ts)) (Reply status)) (cleared c))) [
      | true ↦ λ z. elim (is_view ts c.view) as (λ b. is_view ts c.view ≡ b → TakesOr c id h (takes (cond b (Table ts) (Differs ts)) (cleared c))) [
        | true ↦ λ e. record {
          limit = refl;
          next_id = refl;
          silent = refl;
          by = record { was = ready; is = ready; pending = refl; replies = subst (λ (n : ℕ). Replies c.pending n id h) (is_zero status z) replies; lists = λ _. e };
        }
        | false ↦ λ e. record { limit = refl; next_id = refl; silent = refl; by = tt }
      ] refl
      | false ↦ λ z. record {
        limit = refl;
        next_id = refl;
        silent = refl;
        by = record { was = ready; is = ready; pending = refl; replies = replies; lists = λ zero. absurd (not_zero status z zero) };
      }
    ] refl

by_operation : (operation : Operation) (c : Client) (p : Pending) (status : ℕ) (ts : List Tree) (id : ℕ) → c.phase ≡ Ready → c.pending ≡ Some p → Responds p status id (HeardResponse operation status ts)
    → TakesOr c id (HeardResponse operation status ts) (take_response operation c p status ts)
by_operation Adding c p status ts id ready waits responds = by_reply c p status id _ ready waits responds tt
by_operation Deleting c p status ts id ready waits responds = by_reply c p status id _ ready waits responds tt
by_operation Starting c p status ts id ready waits responds = by_reply c p status id _ ready waits responds tt
by_operation Stopping c p status ts id ready waits responds = by_reply c p status id _ ready waits responds tt
by_operation Enabling c p status ts id ready waits responds = by_reply c p status id _ ready waits responds tt
by_operation Disabling c p status ts id ready waits responds = by_reply c p status id _ ready waits responds tt
by_operation Configuring c p status ts id ready waits responds = by_reply c p status id _ ready waits responds tt
by_operation Closing c p status ts id ready waits responds = record { limit = refl; next_id = refl; silent = refl; by = inr (status, ts, refl) }
by_operation Listing c p status ts id ready waits responds = by_listing c p status ts id ready waits responds

by_response : (o : Option Pending) (c : Client) (id : ℕ) (operation : Operation) (status : ℕ) (ts : List Tree) → c.phase ≡ Ready → c.pending ≡ o
    → TakesOr c id (HeardResponse operation status ts) (answered o c id operation status ts)
by_response None c id operation status ts ready waits = refl
by_response (Some p) c id operation status ts ready waits =
    elim (is_response_to p id operation) as (λ b. is_response_to p id operation ≡ b → TakesOr c id (HeardResponse operation status ts) (cond b (take_response operation c p status ts) unexpected)) [
      | true ↦ λ e. by_operation operation c p status ts id ready waits (inl (operation, ts, refl, e))
      | false ↦ λ e. refl
    ] refl

by_error : (o : Option Pending) (c : Client) (id status : ℕ) → c.phase ≡ Ready → c.pending ≡ o → TakesOr c id (HeardError status) (failed o c id status)
by_error None c id status ready waits = refl
by_error (Some p) c id status ready waits =
    elim (p.id == id) as (λ b. (p.id == id) ≡ b → TakesOr c id (HeardError status) (cond b (takes (Reply status) (cleared c)) unexpected)) [
      | true ↦ λ e. record {
        limit = refl;
        next_id = refl;
        silent = refl;
        by = record { was = ready; is = ready; pending = refl; replies = subst (λ (o : Option Pending). Replies o status id (HeardError status)) (sym waits) (inr (refl, same_number p.id id e)); lists = λ z. tt };
      }
      | false ↦ λ e. refl
    ] refl

-- ---- notifications

stays : (c d : Client) → d.phase ≡ c.phase → d.pending ≡ c.pending → Stays c d
stays c d p q = record { phase = p; pending = q }

by_event : (c : Client) (o : Option RoSpecChange) (id : ℕ) (h : Heard) → TakesOr c id h (notified c false o)
by_event c None id h = record { limit = refl; next_id = refl; silent = refl; by = stays c c refl refl }
by_event c (Some e) id h =
    elim (viewed_state e.id c.view) as (λ o. TakesOr c id h (takes (event_of o e) (moved c e))) [
      | None ↦ record { limit = refl; next_id = refl; silent = refl; by = stays c (moved c e) refl refl }
      | Some state ↦ record { limit = refl; next_id = refl; silent = refl; by = stays c (moved c e) refl refl }
    ]

by_notification : (c : Client) (n : Notification) (closes : Bool) (o : Option RoSpecChange) (id : ℕ) → n.closes ≡ closes → TakesOr c id (HeardNotification n) (notified c closes o)
by_notification c n true o id e = record { limit = refl; next_id = refl; silent = refl; by = inl (n, refl, e) }
by_notification c n false o id e = by_event c o id (HeardNotification n)

by_attempt : (c : Client) (n : Notification) (o : Option ℕ) (id : ℕ) → c.phase ≡ Fresh → n.attempt ≡ o → TakesOr c id (HeardNotification n) (attempted c o)
by_attempt c n None id fresh e = refl
by_attempt c n (Some status) id fresh e =
    elim (status == 0) as (λ b. (status == 0) ≡ b → TakesOr c id (HeardNotification n) (cond b (takes Connected (record c { phase = Ready })) (takes (Refused status) (closed c)))) [
      | true ↦ λ z. record {
        limit = refl;
        next_id = refl;
        silent = refl;
        by = record { was = fresh; is = refl; pending = refl; accepts = (n, refl, e ∙ ap Some (sym (same_number status 0 z))) };
      }
      | false ↦ λ z. record { limit = refl; next_id = refl; silent = refl; by = record { was = fresh; status_is = not_zero status z; refuses = (n, refl, e) } }
    ] refl

-- ---- messages

in_fresh : (c : Client) (id : ℕ) (h : Heard) → c.phase ≡ Fresh → TakesOr c id h (take_fresh c h)
in_fresh c id (HeardResponse operation status ts) fresh = refl
in_fresh c id (HeardError status) fresh = refl
in_fresh c id (HeardReport tags) fresh = refl
in_fresh c id HeardKeepalive fresh = refl
in_fresh c id HeardOther fresh = refl
in_fresh c id (HeardNotification n) fresh = by_attempt c n n.attempt id fresh refl

in_ready : (c : Client) (id : ℕ) (h : Heard) → c.phase ≡ Ready → TakesOr c id h (take_ready c id h)
in_ready c id (HeardResponse operation status ts) ready = by_response c.pending c id operation status ts ready refl
in_ready c id (HeardError status) ready = by_error c.pending c id status ready refl
in_ready c id (HeardReport tags) ready = record { limit = refl; next_id = refl; silent = refl; by = record { was = ready; same = refl; report = refl } }
in_ready c id HeardKeepalive ready = record { limit = refl; next_id = refl; silent = refl; by = stays c c refl refl }
in_ready c id (HeardNotification n) ready = by_notification c n n.closes n.rospec id refl
in_ready c id HeardOther ready = refl

-- a client that is not closed takes a message so, or does not expect it
pub takes_or : (c : Client) (id : ℕ) (h : Heard) → (c.phase ≡ Fresh) ⊎ (c.phase ≡ Ready) → TakesOr c id h (take c id h)
unfolding take
takes_or c id h (inl fresh) = subst (λ (p : ClientPhase). TakesOr c id h (take_in p c id h)) (sym fresh) (in_fresh c id h fresh)
takes_or c id h (inr ready) = subst (λ (p : ClientPhase). TakesOr c id h (take_in p c id h)) (sym ready) (in_ready c id h ready)
