-- What a client says besides its plan.
use Rattle.std.proofs.Common.{◌≡◌, ◌∙◌, ℕ, Bool, true, false, cond, List, [], ◌∷◌, ◌++◌, map, refl, sym, ap, subst, inl, inr, Ok, Err}
use Rattle.std.specs.Prelude.{Option, None, Some, Result}
use Rattle.std.specs.List.{filter}
use Rattle.llrp_schema.specs.Schema.{number_of, rule_of, message_rule}
use Rattle.llrp_tree.specs.Tree.{MessageTree}
use Rattle.llrp_session.specs.Refusal.{Refusal}
use Rattle.llrp_session.specs.declared.types.ClientPhase.{ClientPhase}
use Rattle.llrp_session.specs.declared.types.ClientPhase.TheVariants.{Fresh, Ready, Closed}
use Rattle.llrp_session.specs.Contents.{Asks, Acknowledges, ClientContent, ClientMessage, Heard}
use Rattle.llrp_session.specs.ClientMachine.{Client, Taking, take, take_in}
use Rattle.llrp_session.specs.ClientMessages.{client_message}
use Rattle.llrp_endpoints.specs.Asides.{Asides, before, instead, said_for, all_said}
use Rattle.llrp_endpoints.specs.declared.asides.Aside.{Aside}
use Rattle.llrp_endpoints.specs.declared.asides.Aside.TheVariants.{Nothing, Enabling, Deleting}
use Rattle.llrp_endpoints.specs.Private.Asides.{aside_of}
use Rattle.llrp_endpoints.specs.Calls.PlanLaws.{is_command}
use Rattle.llrp_endpoints.proofs.PlanClients.{TakesOr, takes_or}

-- the first of messages that are no commands
record IsSilent (w : ClientContent) (ms : List ClientMessage) : Type 0 where
  word : w ≡ Acknowledges
  later : filter (λ (m : ClientMessage). is_command m.word) ms ≡ []

first_silent : (w : ClientContent) (m : ClientMessage) (ms : List ClientMessage) → m.word ≡ w → filter (λ (m : ClientMessage). is_command m.word) (m ∷ ms) ≡ [] → IsSilent w ms
first_silent Acknowledges m ms is e =
    let f : List ClientMessage = filter (λ (m : ClientMessage). is_command m.word) ms in
    let no : is_command m.word ≡ false = ap is_command is in
    record { word = refl; later = ap (λ (b : Bool). cond b (m ∷ f) f) (sym no) ∙ e }
first_silent (Asks k) m ms is e =
    let f : List ClientMessage = filter (λ (m : ClientMessage). is_command m.word) ms in
    let yes : is_command m.word ≡ true = ap is_command is in
    let none : m ∷ f ≡ [] = ap (λ (b : Bool). cond b (m ∷ f) f) (sym yes) ∙ e in
    absurd cc

-- in place of an acknowledgement nothing else is said
ack_stays : (whole : Option MessageTree) (id : ℕ) → instead whole (client_message (record { id = id; word = Acknowledges })) ≡ client_message (record { id = id; word = Acknowledges })
unfolding client_message number_of rule_of message_rule
ack_stays None id = refl
ack_stays (Some whole) id = refl

silent_stays : (whole : Option MessageTree) (m : ClientMessage) → m.word ≡ Acknowledges → instead whole (client_message m) ≡ client_message m
silent_stays whole m is = subst (λ (w : ClientContent). instead whole (client_message (record { id = m.id; word = w })) ≡ client_message (record { id = m.id; word = w })) (sym is) (ack_stays whole m.id)

none_asked : (a : Asides) (ms : List ClientMessage) → filter (λ (m : ClientMessage). is_command m.word) ms ≡ [] → map client_message ms ≡ all_said a ms
none_asked a [] e = refl
none_asked a (m ∷ ms) e =
    let s = first_silent m.word m ms refl e in
    ap (λ (x : List MessageTree). client_message m ∷ x) (none_asked a ms s.later)
    ∙ ap (λ (x : MessageTree). x ∷ all_said a ms) (sym (silent_stays a.whole m s.word))
    ∙ ap (λ (w : ClientContent). (before a w ++ instead a.whole (client_message m) ∷ []) ++ all_said a ms) (sym s.word)

-- what is said in place of ADD_ROSPEC is none of the others
pub same_aside : (x : Aside) (a : Asides) (whole : Option MessageTree) → aside_of x (record a { whole = whole }) ≡ aside_of x a
same_aside Nothing a whole = refl
same_aside Enabling a whole = refl
same_aside Deleting a whole = refl

silent : (c : Client) (id : ℕ) (h : Heard) (t : Taking) → take c id h ≡ Ok t → TakesOr c id h (take c id h) → filter (λ (m : ClientMessage). is_command m.word) t.sent ≡ []
silent c id h t e k = let so : TakesOr c id h (Ok t) = subst (λ (r : Result Taking Refusal). TakesOr c id h r) e k in so.silent

closed_takes_none : (p : ClientPhase) (c : Client) (id : ℕ) (h : Heard) (t : Taking) → p ≡ Closed → take_in p c id h ≡ Ok t → ⊥
closed_takes_none Closed c id h t is e = cc
closed_takes_none Fresh c id h t is e = cc
closed_takes_none Ready c id h t is e = cc

by_phase : (p : ClientPhase) (c : Client) (id : ℕ) (h : Heard) (t : Taking) → c.phase ≡ p → take c id h ≡ Ok t → filter (λ (m : ClientMessage). is_command m.word) t.sent ≡ []
unfolding take
by_phase Fresh c id h t is e = silent c id h t e (takes_or c id h (inl is))
by_phase Ready c id h t is e = silent c id h t e (takes_or c id h (inr is))
by_phase Closed c id h t is e = absurd (closed_takes_none c.phase c id h t is e)

-- a client that takes a message only acknowledges, so it says nothing besides
pub only_acknowledged : (a : Asides) (c : Client) (id : ℕ) (h : Heard) (t : Taking) → take c id h ≡ Ok t → map client_message t.sent ≡ all_said a t.sent
only_acknowledged a c id h t e = none_asked a t.sent (by_phase c.phase c id h t refl e)
