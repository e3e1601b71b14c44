-- What a client makes of what a reader sends.
use Rattle.std.proofs.Common.{◌≡◌, ℕ, refl, sym, ◌∙◌, ap, Bool, true, false, cond, List, [], ◌∷◌, ◌⊎◌, inl, inr, arith}
use Rattle.std.specs.Prelude.{◌==◌, Option, None, Some, Result, Ok, Err}
use Rattle.std.proofs.lemmas.Bool.Decides.{nat_tests}
use Rattle.llrp_tree.specs.Tree.{Tree}
use Rattle.llrp_session.specs.Table.{RoState, listing}
use Rattle.llrp_session.specs.Contents.{ReaderContent, Response, Listed, Error, Report, KeepaliveSent, Accepted, Started, Ended, Overflowed, ReaderMessage, Operation, Adding, Deleting, Starting, Stopping, Enabling, Disabling, Listing, Configuring, Closing, RoSpecChange}
use Rattle.llrp_session.specs.Calls.Contents.{heard}
use Rattle.llrp_session.specs.Refusal.{Refusal}
use Rattle.llrp_session.specs.Sightings.{tags_in}
use Rattle.llrp_session.specs.ClientMachine.{Client, ClientPhase, Fresh, Ready, Closed, Pending, Taking, Reply, Table, Differs, is_view, take, take_in, granted, take_response, replied, takes, unexpected, is_response_to, cleared, answered, failed, event_of}
use Rattle.llrp_session.specs.World.{tags_handed_out}
use Rattle.llrp_session.specs.Calls.Agreement.{taken_in, and_then, requests, responses, is_response}

same_taking : (a b : Taking) → (let r : Result Taking Refusal = Ok a in r ≡ Ok b) → a ≡ b
same_taking a b e = cc

-- the client with another request pending and another next id
abbrev pub with_pending : Option Pending → ℕ → Client → Client
with_pending p n c = record c { pending = p; next_id = n }

abbrev on_client : Option Pending → ℕ → Result Taking Refusal → Result Taking Refusal
on_client p n (Err refusal) = Err refusal
on_client p n (Ok k) = Ok (record { taken = k.taken; sent = k.sent; client = with_pending p n k.client })

-- ---- with nothing pending

-- what holds of a message that is taken while nothing is pending
record IsUnasked (c : Client) (w : ReaderContent) (id : ℕ) (ph : ClientPhase) (k : Taking) : Type 0 where
  pub same : (p : Option Pending) (n : ℕ) → take_in ph (with_pending p n c) id (heard w) ≡ on_client p n (Ok k)
  pub none : k.client.pending ≡ None
  pub no_response : is_response w ≡ false
  pub ready : c.phase ≡ Ready → k.client.phase ≡ Ready

unasked_while_ready : (c : Client) (w : ReaderContent) (id : ℕ) (k k2 : Taking) → c.pending ≡ None → take_in Ready c id (heard w) ≡ Ok k → k ≡ k2
    → ((p : Option Pending) (n : ℕ) → take_in Ready (with_pending p n c) id (heard w) ≡ on_client p n (Ok k2))
    → k2.client.pending ≡ c.pending → k2.client.phase ≡ c.phase → is_response w ≡ false → IsUnasked c w id Ready k
unasked_while_ready c w id k k2 none taken e same p_same ph_same no_response =
    record {
      same = λ p n. same p n ∙ ap (λ x. on_client p n (Ok x)) (sym e);
      none = ap (λ x. x.client.pending) e ∙ p_same ∙ none;
      no_response = no_response;
      ready = λ r. ap (λ x. x.client.phase) e ∙ ph_same ∙ r;
    }

unasked : (ph : ClientPhase) (w : ReaderContent) (c : Client) (id : ℕ) (k : Taking) → c.pending ≡ None → take_in ph c id (heard w) ≡ Ok k → IsUnasked c w id ph k
unasked Closed w c id k none h = cc
unasked Fresh (Response operation status) c id k none h = cc
unasked Fresh (Listed table) c id k none h = cc
unasked Fresh (Error status) c id k none h = cc
unasked Fresh (Report tags) c id k none h = cc
unasked Fresh KeepaliveSent c id k none h = cc
unasked Fresh (Started now i) c id k none h = cc
unasked Fresh (Ended now i) c id k none h = cc
unasked Fresh (Overflowed now) c id k none h = cc
unasked Fresh (Accepted now) c id k none h =
    let e = same_taking _ k h in
    record { same = λ p n. ap (on_client p n) h; none = sym (ap (λ x. x.client.pending) e) ∙ none; no_response = refl; ready = λ r. sym (ap (λ x. x.client.phase) e) }
unasked Ready (Response operation status) c id k none h = let e : unexpected ≡ Ok k = sym (ap (λ p. answered p c id operation status []) none) ∙ h in cc
unasked Ready (Listed table) c id k none h = let e : unexpected ≡ Ok k = sym (ap (λ p. answered p c id Listing 0 (listing table)) none) ∙ h in cc
unasked Ready (Error status) c id k none h = let e : unexpected ≡ Ok k = sym (ap (λ p. failed p c id status) none) ∙ h in cc
unasked Ready (Report tags) c id k none h = unasked_while_ready c (Report tags) id k _ none h (sym (same_taking _ k h)) (λ p n. refl) refl refl refl
unasked Ready KeepaliveSent c id k none h = unasked_while_ready c KeepaliveSent id k _ none h (sym (same_taking _ k h)) (λ p n. refl) refl refl refl
unasked Ready (Accepted now) c id k none h = unasked_while_ready c (Accepted now) id k _ none h (sym (same_taking _ k h)) (λ p n. refl) refl refl refl
unasked Ready (Started now i) c id k none h = unasked_while_ready c (Started now i) id k _ none h (sym (same_taking _ k h)) (λ p n. refl) refl refl refl
unasked Ready (Ended now i) c id k none h = unasked_while_ready c (Ended now i) id k _ none h (sym (same_taking _ k h)) (λ p n. refl) refl refl refl
unasked Ready (Overflowed now) c id k none h = unasked_while_ready c (Overflowed now) id k _ none h (sym (same_taking _ k h)) (λ p n. refl) refl refl refl

-- what holds of all that is on the way while nothing is pending
pub record IsSettled (ms : List ReaderMessage) (c d : Client) : Type 0 where
  pub same : (p : Option Pending) (n : ℕ) → taken_in ms (with_pending p n c) ≡ Some (with_pending p n d)
  pub none : d.pending ≡ None
  pub no_responses : responses ms ≡ []
  pub ready : c.phase ≡ Ready → d.phase ≡ Ready

pub same_client : (a b : Client) → Some a ≡ Some b → a ≡ b
same_client a b e = cc

pub settled : (ms : List ReaderMessage) (c d : Client) → c.pending ≡ None → taken_in ms c ≡ Some d → IsSettled ms c d
unfolding take responses
settled [] c d none h =
    let e = same_client c d h in
    record { same = λ p n. ap (λ x. Some (with_pending p n x)) e; none = sym (ap (λ x. x.pending) e) ∙ none; no_responses = refl; ready = λ r. sym (ap (λ x. x.phase) e) ∙ r }
settled (m ∷ ms) c d none h =
    elim (take_in c.phase c m.id (heard m.word)) as (λ r. take_in c.phase c m.id (heard m.word) ≡ r → and_then r (taken_in ms) ≡ Some d → IsSettled (m ∷ ms) c d) [
      | Err refusal ↦ λ e g. cc
      | Ok k ↦ λ e g.
          let one = unasked c.phase m.word c m.id k none e in
          let rest = settled ms k.client d one.none g in
          record {
            same = λ p n. ap (λ r. and_then r (taken_in ms)) (one.same p n) ∙ rest.same p n;
            none = rest.none;
            no_responses = ap (λ b. cond b (m.id ∷ responses ms) (responses ms)) one.no_response ∙ rest.no_responses;
            ready = λ r. rest.ready (one.ready r);
          }
    ] refl h

-- ---- with a request pending

-- either the message is no response and the request stays pending, or it is the response
abbrev IsAwaited : Pending → ReaderContent → ℕ → Option Pending → Type 0
IsAwaited p w id after = ((is_response w ≡ false) × (after ≡ Some p)) ⊎ ((is_response w ≡ true) × (id ≡ p.id) × (after ≡ None))

abbrev Clears : Taking → Type 0
Clears k = (k.client.pending ≡ None) × (k.sent ≡ [])

replied-clears : (c : Client) (p : Pending) (status : ℕ) (k : Taking) → replied c p status ≡ Ok k → Clears k
replied-clears c p status k h =
    let e = same_taking _ k h in
    let none : (cond (status == 0) (record c { pending = None; view = granted p.operation p.rospec c.view }) (cleared c)).pending ≡ None =
    elim (status == 0) as (λ b. (cond b (record c { pending = None; view = granted p.operation p.rospec c.view }) (cleared c)).pending ≡ None) [ true ↦ refl | false ↦ refl ] in
    (sym (ap (λ x. x.client.pending) e) ∙ none, sym (ap (λ x. x.sent) e))

take_response-clears : (operation : Operation) (c : Client) (p : Pending) (status : ℕ) (ts : List Tree) (k : Taking) → take_response operation c p status ts ≡ Ok k → Clears k
take_response-clears Closing c p status ts k h = let e = same_taking _ k h in (sym (ap (λ x. x.client.pending) e), sym (ap (λ x. x.sent) e))
take_response-clears Adding c p status ts k h = replied-clears c p status k h
take_response-clears Deleting c p status ts k h = replied-clears c p status k h
take_response-clears Starting c p status ts k h = replied-clears c p status k h
take_response-clears Stopping c p status ts k h = replied-clears c p status k h
take_response-clears Enabling c p status ts k h = replied-clears c p status k h
take_response-clears Disabling c p status ts k h = replied-clears c p status k h
take_response-clears Configuring c p status ts k h = replied-clears c p status k h
take_response-clears Listing c p status ts k h = let e = same_taking _ k h in (sym (ap (λ x. x.client.pending) e), sym (ap (λ x. x.sent) e))

id_of_response : (p : Pending) (id : ℕ) (operation : Operation) → is_response_to p id operation ≡ true → id ≡ p.id
id_of_response p id operation h = grind (arith, nat_tests)

pub same_id : (a b : ℕ) → (a == b) ≡ true → b ≡ a
same_id a b h = grind (arith, nat_tests)

-- nothing is asked of the pending request
stays : (w : ReaderContent) (c : Client) (id : ℕ) (k k2 : Taking) (p : Pending) → c.pending ≡ Some p → k2 ≡ k → k2.client.pending ≡ c.pending → is_response w ≡ false → IsAwaited p w id k.client.pending
stays w c id k k2 p some e same no_response = inl (no_response, sym (ap (λ x. x.client.pending) e) ∙ same ∙ some)

-- a response to the pending request
asked-answered : (w : ReaderContent) (operation : Operation) (c : Client) (id status : ℕ) (ts : List Tree) (k : Taking) (p : Pending) → is_response w ≡ true → c.pending ≡ Some p
    → answered c.pending c id operation status ts ≡ Ok k → IsAwaited p w id k.client.pending
asked-answered w operation c id status ts k p responds some h =
    let g : cond (is_response_to p id operation) (take_response operation c p status ts) unexpected ≡ Ok k = sym (ap (λ o. answered o c id operation status ts) some) ∙ h in
    elim (is_response_to p id operation) as (λ b. is_response_to p id operation ≡ b → cond b (take_response operation c p status ts) unexpected ≡ Ok k → IsAwaited p w id k.client.pending) [
      | true ↦ λ e r. inr (responds, id_of_response p id operation e, (take_response-clears operation c p status ts k r).0)
      | false ↦ λ e r. cc
    ] refl g

asked : (ph : ClientPhase) (w : ReaderContent) (c : Client) (id : ℕ) (k : Taking) (p : Pending) → c.pending ≡ Some p → take_in ph c id (heard w) ≡ Ok k → IsAwaited p w id k.client.pending
asked Closed w c id k p some h = cc
asked Fresh (Response operation status) c id k p some h = cc
asked Fresh (Listed table) c id k p some h = cc
asked Fresh (Error status) c id k p some h = cc
asked Fresh (Report tags) c id k p some h = cc
asked Fresh KeepaliveSent c id k p some h = cc
asked Fresh (Started now i) c id k p some h = cc
asked Fresh (Ended now i) c id k p some h = cc
asked Fresh (Overflowed now) c id k p some h = cc
asked Fresh (Accepted now) c id k p some h = stays (Accepted now) c id k _ p some (same_taking _ k h) refl refl
asked Ready (Response operation status) c id k p some h = asked-answered (Response operation status) operation c id status [] k p refl some h
asked Ready (Listed table) c id k p some h = asked-answered (Listed table) Listing c id 0 (listing table) k p refl some h
asked Ready (Error status) c id k p some h =
    let g : cond (p.id == id) (takes (Reply status) (cleared c)) unexpected ≡ Ok k = sym (ap (λ o. failed o c id status) some) ∙ h in
    elim (p.id == id) as (λ b. (p.id == id) ≡ b → cond b (takes (Reply status) (cleared c)) unexpected ≡ Ok k → IsAwaited p (Error status) id k.client.pending) [
      | true ↦ λ e r. inr (refl, same_id p.id id e, sym (ap (λ x. x.client.pending) (same_taking _ k r)))
      | false ↦ λ e r. cc
    ] refl g
asked Ready (Report tags) c id k p some h = stays (Report tags) c id k _ p some (same_taking _ k h) refl refl
asked Ready KeepaliveSent c id k p some h = stays KeepaliveSent c id k _ p some (same_taking _ k h) refl refl
asked Ready (Accepted now) c id k p some h = stays (Accepted now) c id k _ p some (same_taking _ k h) refl refl
asked Ready (Started now i) c id k p some h = stays (Started now i) c id k _ p some (same_taking _ k h) refl refl
asked Ready (Ended now i) c id k p some h = stays (Ended now i) c id k _ p some (same_taking _ k h) refl refl
asked Ready (Overflowed now) c id k p some h = stays (Overflowed now) c id k _ p some (same_taking _ k h) refl refl

-- of a pending request either the response is not on the way, or it is there once
pub awaited_once : (ms : List ReaderMessage) (c d : Client) (p : Pending) → c.pending ≡ Some p → taken_in ms c ≡ Some d
    → ((responses ms ≡ []) × (d.pending ≡ Some p)) ⊎ ((responses ms ≡ p.id ∷ []) × (d.pending ≡ None))
unfolding take responses
awaited_once [] c d p some h = inl (refl, sym (ap (λ x. x.pending) (same_client c d h)) ∙ some)
awaited_once (m ∷ ms) c d p some h =
    elim (take_in c.phase c m.id (heard m.word)) as (λ r. take_in c.phase c m.id (heard m.word) ≡ r → and_then r (taken_in ms) ≡ Some d
    → ((cond (is_response m.word) (m.id ∷ responses ms) (responses ms) ≡ []) × (d.pending ≡ Some p)) ⊎ ((cond (is_response m.word) (m.id ∷ responses ms) (responses ms) ≡ p.id ∷ []) × (d.pending ≡ None))) [
      | Err refusal ↦ λ e g. cc
      | Ok k ↦ λ e g.
          elim (asked c.phase m.word c m.id k p some e) [
            | inl one ↦ rw one.0 (awaited_once ms k.client d p one.1 g)
            | inr one ↦
                let rest = settled ms k.client d one.2 g in
                rw one.0 (inr (ap (λ i. i ∷ responses ms) one.1 ∙ ap (λ is. p.id ∷ is) rest.no_responses, rest.none))
          ]
    ] refl h

-- ---- what a client sends and delivers

-- no request is sent, and the tags of the message are delivered
pub record HandsOut (w : ReaderContent) (k : Taking) : Type 0 where
  pub no_requests : requests k.sent ≡ []
  pub tags : tags_handed_out k.taken ≡ tags_in w

hands_out_by : (w : ReaderContent) (k k2 : Taking) → k2 ≡ k → requests k2.sent ≡ [] → tags_handed_out k2.taken ≡ tags_in w → HandsOut w k
hands_out_by w k k2 e none tags = record { no_requests = sym (ap (λ x. requests x.sent) e) ∙ none; tags = sym (ap (λ x. tags_handed_out x.taken) e) ∙ tags }

listed-tags : (b seen : Bool) (ts : List Tree) (status : ℕ) → tags_handed_out (cond b (cond seen (Table ts) (Differs ts)) (Reply status)) ≡ []
listed-tags true true ts status = refl
listed-tags true false ts status = refl
listed-tags false seen ts status = refl

replied-tags : (operation : Operation) (c : Client) (p : Pending) (status : ℕ) (ts : List Tree) (k : Taking) → take_response operation c p status ts ≡ Ok k → tags_handed_out k.taken ≡ []
replied-tags Closing c p status ts k h = sym (ap (λ x. tags_handed_out x.taken) (same_taking _ k h))
replied-tags Adding c p status ts k h = sym (ap (λ x. tags_handed_out x.taken) (same_taking _ k h))
replied-tags Deleting c p status ts k h = sym (ap (λ x. tags_handed_out x.taken) (same_taking _ k h))
replied-tags Starting c p status ts k h = sym (ap (λ x. tags_handed_out x.taken) (same_taking _ k h))
replied-tags Stopping c p status ts k h = sym (ap (λ x. tags_handed_out x.taken) (same_taking _ k h))
replied-tags Enabling c p status ts k h = sym (ap (λ x. tags_handed_out x.taken) (same_taking _ k h))
replied-tags Disabling c p status ts k h = sym (ap (λ x. tags_handed_out x.taken) (same_taking _ k h))
replied-tags Configuring c p status ts k h = sym (ap (λ x. tags_handed_out x.taken) (same_taking _ k h))
replied-tags Listing c p status ts k h = sym (ap (λ x. tags_handed_out x.taken) (same_taking _ k h)) ∙ listed-tags (status == 0) (is_view ts c.view) ts status

answered-hands_out : (w : ReaderContent) (o : Option Pending) (c : Client) (id : ℕ) (operation : Operation) (status : ℕ) (ts : List Tree) (k : Taking) → tags_in w ≡ [] → answered o c id operation status ts ≡ Ok k → HandsOut w k
unfolding requests
answered-hands_out w None c id operation status ts k none h = cc
answered-hands_out w (Some p) c id operation status ts k none h =
    elim (is_response_to p id operation) as (λ b. cond b (take_response operation c p status ts) unexpected ≡ Ok k → HandsOut w k) [
      | true ↦ λ r. record { no_requests = ap requests (take_response-clears operation c p status ts k r).1; tags = replied-tags operation c p status ts k r ∙ sym none }
      | false ↦ λ r. cc
    ] h

failed-hands_out : (o : Option Pending) (c : Client) (id status : ℕ) (k : Taking) → failed o c id status ≡ Ok k → HandsOut (Error status) k
unfolding requests
failed-hands_out None c id status k h = cc
failed-hands_out (Some p) c id status k h =
    elim (p.id == id) as (λ b. cond b (takes (Reply status) (cleared c)) unexpected ≡ Ok k → HandsOut (Error status) k) [
      | true ↦ λ r. hands_out_by (Error status) k _ (same_taking _ k r) refl refl
      | false ↦ λ r. cc
    ] h

event_of-tags : (o : Option RoState) (e : RoSpecChange) → tags_handed_out (event_of o e) ≡ []
event_of-tags None e = refl
event_of-tags (Some s) e = refl

hands_out_in : (ph : ClientPhase) (w : ReaderContent) (c : Client) (id : ℕ) (k : Taking) → take_in ph c id (heard w) ≡ Ok k → HandsOut w k
unfolding requests
hands_out_in Closed w c id k h = cc
hands_out_in Fresh (Response operation status) c id k h = cc
hands_out_in Fresh (Listed table) c id k h = cc
hands_out_in Fresh (Error status) c id k h = cc
hands_out_in Fresh (Report tags) c id k h = cc
hands_out_in Fresh KeepaliveSent c id k h = cc
hands_out_in Fresh (Started now i) c id k h = cc
hands_out_in Fresh (Ended now i) c id k h = cc
hands_out_in Fresh (Overflowed now) c id k h = cc
hands_out_in Fresh (Accepted now) c id k h = hands_out_by (Accepted now) k _ (same_taking _ k h) refl refl
hands_out_in Ready (Response operation status) c id k h = answered-hands_out (Response operation status) c.pending c id operation status [] k refl h
hands_out_in Ready (Listed table) c id k h = answered-hands_out (Listed table) c.pending c id Listing 0 (listing table) k refl h
hands_out_in Ready (Error status) c id k h = failed-hands_out c.pending c id status k h
hands_out_in Ready (Report tags) c id k h = hands_out_by (Report tags) k _ (same_taking _ k h) refl refl
hands_out_in Ready KeepaliveSent c id k h = hands_out_by KeepaliveSent k _ (same_taking _ k h) refl refl
hands_out_in Ready (Accepted now) c id k h = hands_out_by (Accepted now) k _ (same_taking _ k h) refl refl
hands_out_in Ready (Started now i) c id k h = hands_out_by (Started now i) k _ (same_taking _ k h) refl (event_of-tags _ _)
hands_out_in Ready (Ended now i) c id k h = hands_out_by (Ended now i) k _ (same_taking _ k h) refl (event_of-tags _ _)
hands_out_in Ready (Overflowed now) c id k h = hands_out_by (Overflowed now) k _ (same_taking _ k h) refl refl

pub hands_out : (w : ReaderContent) (c : Client) (id : ℕ) (k : Taking) → take c id (heard w) ≡ Ok k → HandsOut w k
unfolding take
hands_out w c id k h = hands_out_in c.phase w c id k h
