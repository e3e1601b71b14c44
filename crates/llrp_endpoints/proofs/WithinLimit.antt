-- What a new reader says by a script is lawful, and within its own limit.
use Rattle.std.proofs.Common.{◌≡◌, ℕ, ◌+◌, ◌^◌, ◌<◌, ◌≤◌, Bool, true, false, cond, List, [], ◌∷◌, ◌++◌, map, Result, Ok, Err, refl, sym, subst, arith}
use Rattle.std.specs.Prelude.{nat_le, ◌==◌, IfOk, ℤ, pos, negsuc, FitsSigned}
use Rattle.std.specs.Int.{w8}
use Rattle.std.specs.List.{filter, AllByRecursion, AllZip}
use Rattle.std.proofs.lemmas.List.Elements.{recursion_from_All}
use Rattle.tag_bits.specs.Digits.{digits_of_bytes}
use Rattle.tag_bits.proofs.ByteLemmas.{length-bytes}
use Rattle.llrp_tree.specs.Tree.{MessageTree}
use Rattle.llrp_tree.proofs.ReadDigits.{value_at}
use Rattle.llrp_stream.specs.declared.item.Item.{Item}
use Rattle.llrp_stream.specs.declared.item.Item.TheVariants.{Msg, Bad}
use Rattle.llrp_stream.specs.Cuts.{IsFrame}
use Rattle.llrp_stream.specs.Items.{id_field}
use Rattle.llrp_stream.specs.Private.Profile.{IsItemOf}
use Rattle.llrp_session.specs.Refusal.{Refusal}
use Rattle.llrp_session.specs.ReaderMachine.{Reader, Turn, next}
use Rattle.llrp_session.specs.ReaderMessages.{reader_message}
use Rattle.llrp_session.specs.TagReport.{signed_octet}
use Rattle.llrp_session.specs.Contents.{ReaderMessage}
use Rattle.llrp_session.specs.Calls.LawfulStates.{IsLawfulReader, IsLawfulReaderEvent, AreLawfulReaderMessages}
use Rattle.llrp_session.specs.Calls.MessageWorld.{AreSendable}
use Rattle.llrp_session.proofs.LawfulReaders.{reader_as_new, reader_says_lawful}
use Rattle.llrp_session.proofs.LawfulRequests.{lawful_request}
use Rattle.llrp_session.proofs.LawfulMessages.{reader_sends}
use Rattle.llrp_endpoints.specs.declared.script.Action.{Action}
use Rattle.llrp_endpoints.specs.declared.script.Action.TheVariants.{Seen, Tick}
use Rattle.llrp_endpoints.specs.declared.script.Entry.{Entry}
use Rattle.llrp_endpoints.specs.Calls.Script.{IsInRange, IsActionInRange, IsLawfulScript}
use Rattle.llrp_endpoints.specs.Serving.{Happening, event_in, happening, taking, entries_at, last_moment, events_from, events, turn_or_none, run, BeginsServing, IsNewReader}
use Rattle.llrp_tree.specs.declared.TheConstants.{MAX_LIMIT}
use Rattle.llrp_session.proofs.SendableWorlds.{reader_messages-append as sent-append}

-- ---- events whose numbers fit

record Fits (h : Happening) : Type 0 where
  now : h.now < 2 ^ 64
  event : IsLawfulReaderEvent h.event

fits-append : (hs ks : List Happening) → AllByRecursion Fits hs → AllByRecursion Fits ks → AllByRecursion Fits (hs ++ ks)
fits-append [] ks p q = q
fits-append (h ∷ hs) ks p q = (p.0, fits-append hs ks p.1 q)

octet_fits : (z : ℤ) → FitsSigned w8 z → signed_octet z < 2 ^ 8
octet_fits (pos n) f = let t = f.sfits in omega (arith, t)
octet_fits (negsuc n) f = omega arith

action_fits : (action : Action) → IsActionInRange action → IsLawfulReaderEvent (event_in action)
action_fits (Seen s) r = record { antenna = r.antenna; rssi = octet_fits s.rssi r.rssi; epc = r.epc }
action_fits Tick r = tt

-- ---- the entries

entries_fit : (entries : List Entry) → AllByRecursion IsInRange entries → AllByRecursion Fits (map happening entries)
entries_fit [] r = tt
entries_fit (e ∷ entries) r = (record { now = r.0.now; event = action_fits e.action r.0.action }, entries_fit entries r.1)

some_in_range : (test : Entry → Bool) (entries : List Entry) → AllByRecursion IsInRange entries → AllByRecursion IsInRange (filter test entries)
some_in_range test [] r = tt
some_in_range test (e ∷ entries) r =
    elim (test e) as (λ b. AllByRecursion IsInRange (cond b (e ∷ filter test entries) (filter test entries))) [ true ↦ (r.0, some_in_range test entries r.1) | false ↦ some_in_range test entries r.1 ]

moment_fits : (now : ℕ) (entries : List Entry) → now < 2 ^ 64 → AllByRecursion IsInRange entries → last_moment now entries < 2 ^ 64
moment_fits now [] h r = h
moment_fits now (e ∷ entries) h r = moment_fits e.now entries r.0.now r.1

-- ---- the items

id_fits : (frame : List ℕ) → IsFrame frame → id_field frame < 2 ^ 32
unfolding id_field
id_fits frame is = value_at 48 32 (digits_of_bytes frame) (omega (arith, is.header, length-bytes frame))

item_fits : (limit : ℕ) (frame : List ℕ) (item : Item) → IsFrame frame → IsItemOf limit frame item → IsLawfulReaderEvent (taking item)
item_fits limit frame (Msg m) is f = (f.frame.lawful.version, f.frame.lawful.id, lawful_request m f.frame.lawful)
item_fits limit frame (Bad id fault) is f = subst (λ (n : ℕ). n < 2 ^ 32) (sym f.0) (id_fits frame is)

items_fit : (limit : ℕ) (frames : List (List ℕ)) (items : List Item) → AllByRecursion IsFrame frames → AllZip (IsItemOf limit) frames items → AllByRecursion (λ item. IsLawfulReaderEvent (taking item)) items
items_fit limit [] [] each are = tt
items_fit limit [] (i ∷ items) each are = absurd are
items_fit limit (f ∷ frames) [] each are = absurd are
items_fit limit (f ∷ frames) (i ∷ items) each are = (item_fits limit f i each.0 are.0, items_fit limit frames items each.1 are.1)

-- ---- all events

events_from_fit : (count : ℕ) (entries : List Entry) (items : List Item) → AllByRecursion IsInRange entries → AllByRecursion (λ item. IsLawfulReaderEvent (taking item)) items → AllByRecursion Fits (events_from count entries items)
events_from_fit count entries [] r l = tt
events_from_fit count entries (item ∷ items) r l = (
  record { now = moment_fits 0 (filter (λ e. nat_le e.after count) entries) (omega arith) (some_in_range (λ e. nat_le e.after count) entries r); event = l.0 },
  fits-append (map happening (entries_at (count + 1) entries)) (events_from (count + 1) entries items)
      (entries_fit (entries_at (count + 1) entries) (some_in_range (λ e. e.after == count + 1) entries r)) (events_from_fit (count + 1) entries items r l.1),
)

events_fit : (entries : List Entry) (items : List Item) → AllByRecursion IsInRange entries → AllByRecursion (λ item. IsLawfulReaderEvent (taking item)) items → AllByRecursion Fits (events entries items)
unfolding events
events_fit entries items r l = (
  record { now = omega arith; event = tt },
  fits-append (map happening (entries_at 0 entries)) (events_from 0 entries items) (entries_fit (entries_at 0 entries) (some_in_range (λ e. e.after == 0) entries r)) (events_from_fit 0 entries items r l),
)

-- ---- what is said

-- what a turn says is lawful, and so is its reader, which has the same limit
abbrev IsLawfulFor : ℕ → Turn → Type 0
IsLawfulFor limit t = AreLawfulReaderMessages limit t.sent × (IsLawfulReader t.reader × (t.reader.limit ≡ limit))

turn_fits : (r : Reader) (answer : Result Turn Refusal) → IsLawfulReader r → IfOk answer (IsLawfulFor r.limit) → IsLawfulFor r.limit (turn_or_none r answer)
turn_fits r (Ok turn) h l = l
turn_fits r (Err refusal) h l = (tt, (h, refl))

run_fits : (limit : ℕ) (r : Reader) (hs : List Happening) → r.limit ≡ limit → IsLawfulReader r → AllByRecursion Fits hs → AreLawfulReaderMessages limit (run r hs).sent
run_fits limit r [] same h f = tt
run_fits limit r (e ∷ hs) same h f =
    let turn : IsLawfulFor limit (turn_or_none r (next e.now e.event r)) =
    subst (λ (n : ℕ). IsLawfulFor n (turn_or_none r (next e.now e.event r))) same (turn_fits r (next e.now e.event r) h (reader_says_lawful e.now e.event r f.0.now f.0.event h)) in
    sent-append limit (turn_or_none r (next e.now e.event r)).sent (run (turn_or_none r (next e.now e.event r)).reader hs).sent turn.0 (run_fits limit (turn_or_none r (next e.now e.event r)).reader hs turn.1.1 turn.1.0 f.1)

sendable : (limit : ℕ) (sent : List ReaderMessage) → 4096 ≤ limit → limit ≤ MAX_LIMIT → AreLawfulReaderMessages limit sent → AreSendable limit (map reader_message sent)
sendable limit [] least most h = tt
sendable limit (m ∷ sent) least most h = (reader_sends limit m least most h.0, sendable limit sent least most h.1)

first_sendable : (limit : ℕ) (a b : List MessageTree) → AreSendable limit (a ++ b) → AreSendable limit a
first_sendable limit [] b h = tt
first_sendable limit (m ∷ a) b h = (h.0, first_sendable limit a b h.1)

pub says_within_limit : (reader : Reader) (entries : List Entry) (bytes : List ℕ) (messages : List MessageTree) → IsNewReader reader → reader.next_id < 2 ^ 32 → IsLawfulScript entries
    → BeginsServing reader entries bytes messages → AreSendable reader.limit messages
says_within_limit reader entries bytes messages new id lawful h =
    let lawful_reader : IsLawfulReader reader = subst IsLawfulReader (sym new.new) (reader_as_new reader.limit reader.next_id new.least id) in
    let fit = events_fit entries h.items (recursion_from_All IsInRange entries lawful.in_range) (items_fit reader.limit h.are.frames h.items h.are.each h.are.are) in
    first_sendable reader.limit messages h.later
    (subst (λ (ms : List MessageTree). AreSendable reader.limit ms) h.messages_are (sendable reader.limit (run reader (events entries h.items)).sent new.least new.most (run_fits reader.limit reader (events entries h.items) refl lawful_reader fit)))
