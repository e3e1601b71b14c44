-- What holds of the words on the way holds of their messages.
use Rattle.std.proofs.Common.{◌≡◌, ℕ, List, [], ◌∷◌, ◌++◌, Bool, refl, sym, ap, ◌∙◌, subst, inl, inr}
use Rattle.std.specs.Prelude.{map, Result, Ok, Err, Option, None, Some, if◌then◌else◌}
use Rattle.llrp_tree.specs.Tree.{Tree}
use Rattle.llrp_session.specs.Contents.{Add, Delete, Start, Stop, Enable, Disable, GetRospecs, SetKeepalive, GetReport, Close, Request, Heard, Response, Listed, Error, Report, KeepaliveSent, Accepted, Started, Ended, Overflowed, ReaderContent, ReaderMessage, ClientContent, Asks, Acknowledges, ClientMessage, request}
use Rattle.llrp_session.specs.Calls.Contents.{heard}
use Rattle.llrp_session.specs.Refusal.{Refusal}
use Rattle.llrp_session.specs.ClientMachine.{Client, Pending, Taking, take}
use Rattle.llrp_session.specs.Calls.World.{World, run, opening}
use Rattle.llrp_session.specs.Calls.Agreement as words
use Rattle.llrp_session.specs.Calls.Agreement.{AfterAll, and_then, taken_in, AreTaken, awaited_by, requests, is_response, responses}
use Rattle.llrp_session.specs.MessageAgreement.{IsTaken, as_list}
use Rattle.llrp_session.specs.ReaderMessages.{reader_message}
use Rattle.llrp_session.specs.ClientMessages.{client_message}
use Rattle.llrp_session.specs.Reading.{request_of, heard_of}
use Rattle.llrp_session.specs.MessageWorld.{MessageWorld}
use Rattle.llrp_session.specs.Calls.MessageWorld.{in_messages}
use Rattle.llrp_session.specs.Calls.MessageAgreement.{AfterAllMessages, messages_taken_in, ViewCatchesUp, ViewIsTable, ReportsArrive, ReportsAreKept, NothingIsUnexpected, PendingIsOnTheWay, NothingIsPending, TablesArrive}
use Rattle.llrp_session.specs.MessageAgreement.{ReaderHasHistory, OneActive, MessagesAreTaken, awaited_of, requests_in, hears_response, responses_in, IsOnTheWay, NoneDiffers}
use Rattle.llrp_session.proofs.MessageReading.{heard_back, request_back}
use Rattle.llrp_session.proofs.MessageWorlds.{AllSay, same_tags, same_tables, runs_alike, run_says}
use Rattle.llrp_session.proofs.Worlds as proved

-- what follows of a world over words from a clause on it holds after every list of events
lifted : (P : MessageWorld → Type 0) (Q : World → Type 0) → ((w : World) → AllSay w.up → Q w → P (in_messages w)) → AfterAll Q → AfterAllMessages P
lifted P Q f a limit reader_first client_first events h =
    subst P (sym (runs_alike limit reader_first client_first events h))
    (f (run events (opening limit reader_first client_first)) (run_says limit reader_first client_first events h) (a limit reader_first client_first events))

-- ---- taking in

and_then_alike : (r : Result Taking Refusal) (f g : Client → Option Client) → ((c : Client) → f c ≡ g c) → and_then r f ≡ and_then r g
and_then_alike (Err refusal) f g e = refl
and_then_alike (Ok k) f g e = e k.client

same_taken_in : (ms : List ReaderMessage) (c : Client) → messages_taken_in (map reader_message ms) c ≡ taken_in ms c
unfolding reader_message
same_taken_in [] c = refl
same_taken_in (m ∷ ms) c =
    ap (λ (h : Heard). and_then (take c m.id h) (messages_taken_in (map reader_message ms))) (heard_back m)
    ∙ and_then_alike (take c m.id (heard m.word)) (messages_taken_in (map reader_message ms)) (taken_in ms) (same_taken_in ms)

pub is_taken_alike : (r : Result Taking Refusal) (P Q : Client → Type 0) → ((c : Client) → P c → Q c) → IsTaken r P → IsTaken r Q
is_taken_alike (Err refusal) P Q f h = h
is_taken_alike (Ok k) P Q f h = f k.client h

taken_alike : (ms : List ReaderMessage) (c : Client) → AreTaken ms c → MessagesAreTaken (map reader_message ms) c
unfolding reader_message
taken_alike [] c h = tt
taken_alike (m ∷ ms) c h =
    subst (λ (k : Heard). IsTaken (take c m.id k) (MessagesAreTaken (map reader_message ms))) (sym (heard_back m))
    (is_taken_alike (take c m.id (heard m.word)) (AreTaken ms) (MessagesAreTaken (map reader_message ms)) (taken_alike ms) h)

-- ---- the pending request

word_awaited : (word : ClientContent) (id : ℕ) → as_list (awaited_of id (request word)) ≡ awaited_by word id
word_awaited (Asks (Add spec)) id = refl
word_awaited (Asks (Delete n)) id = refl
word_awaited (Asks (Start n)) id = refl
word_awaited (Asks (Stop n)) id = refl
word_awaited (Asks (Enable n)) id = refl
word_awaited (Asks (Disable n)) id = refl
word_awaited (Asks GetRospecs) id = refl
word_awaited (Asks (SetKeepalive ms)) id = refl
word_awaited (Asks GetReport) id = refl
word_awaited (Asks Close) id = refl
word_awaited Acknowledges id = refl

same_requests : (ms : List ClientMessage) → AllSay ms → requests_in (map client_message ms) ≡ requests ms
unfolding requests_in requests client_message
same_requests [] h = refl
same_requests (m ∷ ms) h =
    let here : as_list (awaited_of m.id (request_of (client_message m))) ≡ awaited_by m.word m.id = ap (λ (q : Request). as_list (awaited_of m.id q)) (request_back m h.0) ∙ word_awaited m.word m.id in
    ap (λ (ps : List Pending). ps ++ requests_in (map client_message ms)) here ∙ ap (λ (ps : List Pending). awaited_by m.word m.id ++ ps) (same_requests ms h.1)

word_response : (word : ReaderContent) → hears_response (heard word) ≡ is_response word
word_response (Response operation status) = refl
word_response (Listed table) = refl
word_response (Error status) = refl
word_response (Report tags) = refl
word_response KeepaliveSent = refl
word_response (Accepted now) = refl
word_response (Started now id) = refl
word_response (Ended now id) = refl
word_response (Overflowed now) = refl

same_responses : (ms : List ReaderMessage) → responses_in (map reader_message ms) ≡ responses ms
unfolding responses_in responses reader_message
same_responses [] = refl
same_responses (m ∷ ms) =
    let here : hears_response (heard_of (reader_message m)) ≡ is_response m.word = ap hears_response (heard_back m) ∙ word_response m.word in
    ap (λ (b : Bool). if b then m.id ∷ responses_in (map reader_message ms) else responses_in (map reader_message ms)) here
    ∙ ap (λ (ids : List ℕ). if is_response m.word then m.id ∷ ids else ids) (same_responses ms)

on_the_way : (pending : Option Pending) (up : List ClientMessage) (down : List ReaderMessage) → AllSay up → words.IsOnTheWay pending up down
    → IsOnTheWay pending (map client_message up) (map reader_message down)
on_the_way None up down s h = (same_requests up s ∙ h.0, same_responses down ∙ h.1)
on_the_way (Some p) up down s (inl h) = inl (same_requests up s ∙ h.0, same_responses down ∙ h.1)
on_the_way (Some p) up down s (inr h) = inr (same_requests up s ∙ h.0, same_responses down ∙ h.1)

-- ---- an empty way

none_down : (ms : List ReaderMessage) → map reader_message ms ≡ [] → ms ≡ []
none_down [] e = refl
none_down (m ∷ ms) e = absurd cc

none_up : (ms : List ClientMessage) → map client_message ms ≡ [] → ms ≡ []
none_up [] e = refl
none_up (m ∷ ms) e = absurd cc

-- ---- the clauses

pub view_catches_up : AfterAllMessages ViewCatchesUp
view_catches_up = lifted ViewCatchesUp words.ViewCatchesUp (λ w s h. (h.0, same_taken_in w.down w.client ∙ h.1, h.2)) proved.view_catches_up

pub view_is_table : AfterAllMessages ViewIsTable
view_is_table = lifted ViewIsTable words.ViewIsTable (λ w s h e. h (none_down w.down e)) proved.view_is_table

pub reports_arrive : AfterAllMessages ReportsArrive
reports_arrive = lifted ReportsArrive words.ReportsArrive (λ w s h. ap (λ (ts : List Tree). w.handed_out ++ ts) (same_tags w.down) ∙ h) proved.reports_arrive

pub reports_are_kept : AfterAllMessages ReportsAreKept
reports_are_kept = lifted ReportsAreKept words.ReportsAreKept (λ w s h. ap (λ (ts : List Tree). (w.handed_out ++ ts) ++ w.reader.held) (same_tags w.down) ∙ h) proved.reports_are_kept

pub reader_has_history : AfterAllMessages ReaderHasHistory
reader_has_history =
    lifted ReaderHasHistory words.ReaderHasHistory
    (λ w s h. record { limit = h.limit; first_id = h.first_id; events = h.events; reader = h.reader; reported = h.reported; kept = h.kept }) proved.reader_has_history

pub one_active : AfterAllMessages OneActive
one_active = lifted OneActive words.OneActive (λ w s h. h) proved.one_active

pub nothing_is_unexpected : AfterAllMessages NothingIsUnexpected
nothing_is_unexpected = lifted NothingIsUnexpected words.NothingIsUnexpected (λ w s h. taken_alike w.down w.client h) proved.nothing_is_unexpected

pub pending_is_on_the_way : AfterAllMessages PendingIsOnTheWay
pending_is_on_the_way = lifted PendingIsOnTheWay words.PendingIsOnTheWay (λ w s h. on_the_way w.client.pending w.up w.down s h) proved.pending_is_on_the_way

pub nothing_is_pending : AfterAllMessages NothingIsPending
nothing_is_pending = lifted NothingIsPending words.NothingIsPending (λ w s h u d. h (none_up w.up u) (none_down w.down d)) proved.nothing_is_pending

pub tables_arrive : AfterAllMessages TablesArrive
tables_arrive = lifted TablesArrive words.TablesArrive (λ w s h. ap (λ (ts : List (List Tree)). w.tables ++ ts) (same_tables w.down) ∙ h) proved.tables_arrive

pub none_differs : AfterAllMessages NoneDiffers
none_differs = lifted NoneDiffers words.NoneDiffers (λ w s h. h) proved.none_differs
