-- A run of bytes is a run of the messages whose frames they are.
use Rattle.std.proofs.Common.{◌≡◌, ℕ, List, [], ◌∷◌, ◌++◌, map, take, drop, Result, Ok, Err, refl, sym, ap, ap₂, subst, ◌∙◌, append_assoc}
use Rattle.std.proofs.lemmas.List.{append-nil, take-append-drop}
use Rattle.llrp_tree.specs.Tree.{Tree, MessageTree}
use Rattle.llrp_stream.specs.declared.item.Item.TheVariants.{Msg}
use Rattle.llrp_session.specs.Refusal.{Refusal}
use Rattle.llrp_session.specs.ReaderMachine.{Turn, Connect, Take, Seen, Tick, next}
use Rattle.llrp_session.specs.ReaderMessages.{reader_message}
use Rattle.llrp_session.specs.ClientMessages.{client_message}
use Rattle.llrp_session.specs.ClientMachine.{Sending, Taking, command, take as client_takes}
use Rattle.llrp_session.specs.Reading.{heard_of, request_of}
use Rattle.llrp_session.specs.Sightings.{kept_by}
use Rattle.llrp_session.specs.World.{WorldEvent, Connects, Commands, DeliversUp, DeliversDown, Sees, Ticks, listed_by, tags_handed_out, tables_shown, tables_differing}
use Rattle.llrp_session.specs.MessageWorld.{MessageWorld, tags_in_messages, stepped, reader_does, commanded, took, message_happens, run_messages, IsGiven, AreGiven}
use Rattle.llrp_session.specs.Calls.MessageWorld.{AreSendable}
use Rattle.llrp_endpoints.specs.Sending.{AreFrames}
use Rattle.llrp_endpoints.specs.ByteWorld.{Way, ByteWorld, Happens, ReadsUp, ReadsDown, ReadsBytes, Sends, Steps, apart, reader_hears, client_hears}
use Rattle.llrp_endpoints.proofs.SendingLemmas.{frames_append}
use Rattle.llrp_endpoints.proofs.FrameFronts.{FrontOf, front_of_frames, read_in_one_way, same_messages}

-- ---- with more messages on the way, what is said goes after those

-- the same world with these messages before what it has on the way
abbrev pub behind : MessageWorld → (up down : List MessageTree) → MessageWorld
behind w up down = record w { up = up ++ w.up; down = down ++ w.down }

stepped_behind : (r : Result Turn Refusal) (kept : List Tree) (listed : List (List Tree)) (w : MessageWorld) (up down : List MessageTree) → stepped r kept listed (behind w up down) ≡ behind (stepped r kept listed w) up down
stepped_behind (Err refusal) kept listed w up down = refl
stepped_behind (Ok t) kept listed w up down =
    ap (λ (x : List MessageTree). let v : MessageWorld = record w { reader = t.reader; up = up ++ w.up; down = x; reported = w.reported ++ tags_in_messages (map reader_message t.sent); kept = w.kept ++ kept; listed = w.listed ++ listed } in v)
    (append_assoc down w.down (map reader_message t.sent))

commanded_behind : (r : Result Sending Refusal) (w : MessageWorld) (up down : List MessageTree) → commanded r (behind w up down) ≡ behind (commanded r w) up down
commanded_behind (Err refusal) w up down = refl
commanded_behind (Ok s) w up down =
    ap (λ (x : List MessageTree). let v : MessageWorld = record w { client = s.client; up = x; down = down ++ w.down } in v) (append_assoc up w.up (client_message s.message ∷ []))

-- what happens to an end by itself
abbrev pub own : WorldEvent → List WorldEvent
own (Connects now) = Connects now ∷ []
own (Commands k) = Commands k ∷ []
own (DeliversUp now) = []
own DeliversDown = []
own (Sees now g) = Sees now g ∷ []
own (Ticks now) = Ticks now ∷ []

pub own_given : (e : WorldEvent) → IsGiven e → AreGiven (own e)
own_given (Connects now) g = (g, tt)
own_given (Commands k) g = (g, tt)
own_given (DeliversUp now) g = tt
own_given DeliversDown g = tt
own_given (Sees now s) g = (g, tt)
own_given (Ticks now) g = (g, tt)

pub happens_behind : (e : WorldEvent) (m : MessageWorld) → run_messages (own e) m ≡ behind (message_happens (apart m) e) m.up m.down
happens_behind e m = go e (ap₂ (λ (up down : List MessageTree). let v : MessageWorld = record m { up = up; down = down } in v) (sym (append-nil m.up)) (sym (append-nil m.down)))
  where
    go : (e : WorldEvent) → m ≡ behind (apart m) m.up m.down → run_messages (own e) m ≡ behind (message_happens (apart m) e) m.up m.down
    go (Connects now) h = ap (reader_does now Connect) h ∙ stepped_behind (next now Connect m.reader) (kept_by now Connect m.reader) (listed_by Connect m.reader) (apart m) m.up m.down
    go (Commands k) h = ap (commanded (command m.client k)) h ∙ commanded_behind (command m.client k) (apart m) m.up m.down
    go (DeliversUp now) h = h
    go DeliversDown h = h
    go (Sees now g) h = ap (reader_does now (Seen g)) h ∙ stepped_behind (next now (Seen g) m.reader) (kept_by now (Seen g) m.reader) (listed_by (Seen g) m.reader) (apart m) m.up m.down
    go (Ticks now) h = ap (reader_does now Tick) h ∙ stepped_behind (next now Tick m.reader) (kept_by now Tick m.reader) (listed_by Tick m.reader) (apart m) m.up m.down

-- ---- messages that are taken one after another, with others on the way after them

abbrev pub to_client : List MessageTree → List WorldEvent
to_client messages = map (λ (m : MessageTree). DeliversDown) messages

abbrev pub to_reader : ℕ → List MessageTree → List WorldEvent
to_reader now messages = map (λ (m : MessageTree). DeliversUp now) messages

-- so it is where the end takes these messages
abbrev ClientHearsMore : (ms rest up : List MessageTree) → MessageWorld → Type 0
ClientHearsMore ms rest up w = run_messages (to_client ms) (record w { up = up ++ w.up; down = ms ++ rest }) ≡ record (client_hears ms w) { up = up ++ (client_hears ms w).up; down = rest }

client_step : (ms rest up : List MessageTree) (w : MessageWorld) → ((v : MessageWorld) → ClientHearsMore ms rest up v) → (r : Result Taking Refusal)
    → run_messages (to_client ms) (took r (record w { up = up ++ w.up; down = ms ++ rest }))
    ≡ record (run_messages (to_client ms) (took r (record w { down = ms }))) { up = up ++ (run_messages (to_client ms) (took r (record w { down = ms }))).up; down = rest }
client_step ms rest up w more (Err refusal) = more w
client_step ms rest up w more (Ok k) =
    let sent : List MessageTree = map client_message k.sent in
    let then : MessageWorld = record w { client = k.client; up = w.up ++ sent; handed_out = w.handed_out ++ tags_handed_out k.taken; tables = w.tables ++ tables_shown k.taken; differing = w.differing ++ tables_differing k.taken } in
    ap (λ (x : List MessageTree). run_messages (to_client ms) (record then { up = x; down = ms ++ rest })) (append_assoc up w.up sent) ∙ more then

client_hears_more : (ms rest up : List MessageTree) (w : MessageWorld) → ClientHearsMore ms rest up w
client_hears_more [] rest up w = refl
client_hears_more (m ∷ ms) rest up w = client_step ms rest up w (client_hears_more ms rest up) (client_takes w.client m.id (heard_of m))

abbrev ReaderHearsMore : ℕ → (ms rest down : List MessageTree) → MessageWorld → Type 0
ReaderHearsMore now ms rest down w =
    run_messages (to_reader now ms) (record w { up = ms ++ rest; down = down ++ w.down }) ≡ record (reader_hears now ms w) { up = rest; down = down ++ (reader_hears now ms w).down }

reader_step : (now : ℕ) (ms rest down : List MessageTree) (w : MessageWorld) → ((v : MessageWorld) → ReaderHearsMore now ms rest down v) → (r : Result Turn Refusal) (kept : List Tree) (listed : List (List Tree))
    → run_messages (to_reader now ms) (stepped r kept listed (record w { up = ms ++ rest; down = down ++ w.down }))
    ≡ record (run_messages (to_reader now ms) (stepped r kept listed (record w { up = ms }))) { up = rest; down = down ++ (run_messages (to_reader now ms) (stepped r kept listed (record w { up = ms }))).down }
reader_step now ms rest down w more (Err refusal) kept listed = more w
reader_step now ms rest down w more (Ok t) kept listed =
    let sent : List MessageTree = map reader_message t.sent in
    let then : MessageWorld = record w { reader = t.reader; down = w.down ++ sent; reported = w.reported ++ tags_in_messages sent; kept = w.kept ++ kept; listed = w.listed ++ listed } in
    ap (λ (x : List MessageTree). run_messages (to_reader now ms) (record then { up = ms ++ rest; down = x })) (append_assoc down w.down sent) ∙ more then

reader_hears_more : (now : ℕ) (ms rest down : List MessageTree) (w : MessageWorld) → ReaderHearsMore now ms rest down w
reader_hears_more now [] rest down w = refl
reader_hears_more now (m ∷ ms) rest down w =
    reader_step now ms rest down w (reader_hears_more now ms rest down) (next now (Take m.version m.id (request_of m)) w.reader) (kept_by now (Take m.version m.id (request_of m)) w.reader)
    (listed_by (Take m.version m.id (request_of m)) w.reader)

-- an end that takes the first of the messages on the way
pub client_after : (heard rest : List MessageTree) (m : MessageWorld) → m.down ≡ heard ++ rest
    → run_messages (to_client heard) m ≡ record (client_hears heard (apart m)) { up = m.up ++ (client_hears heard (apart m)).up; down = rest }
client_after heard rest m parts =
    let whole : m ≡ record m { up = m.up ++ []; down = heard ++ rest } =
    ap₂ (λ (up down : List MessageTree). let v : MessageWorld = record m { up = up; down = down } in v) (sym (append-nil m.up)) parts in
    ap (run_messages (to_client heard)) whole ∙ client_hears_more heard rest m.up (apart m)

pub reader_after : (now : ℕ) (heard rest : List MessageTree) (m : MessageWorld) → m.up ≡ heard ++ rest
    → run_messages (to_reader now heard) m ≡ record (reader_hears now heard (apart m)) { up = rest; down = m.down ++ (reader_hears now heard (apart m)).down }
reader_after now heard rest m parts =
    let whole : m ≡ record m { up = heard ++ rest; down = m.down ++ [] } =
    ap₂ (λ (up down : List MessageTree). let v : MessageWorld = record m { up = up; down = down } in v) parts (sym (append-nil m.down)) in
    ap (run_messages (to_reader now heard)) whole ∙ reader_hears_more now heard rest m.down (apart m)

-- ---- one event

sends_more : (a b : List MessageTree) (old new : Way) → AreFrames a (old.read ++ old.coming) → Sends b old new → AreFrames (a ++ b) (new.read ++ new.coming)
sends_more a b old new f s =
    let whole : (old.read ++ old.coming) ++ s.coming.text ≡ new.read ++ new.coming =
    append_assoc old.read old.coming s.coming.text ∙ ap (λ (x : List ℕ). old.read ++ x) (sym s.coming.whole) ∙ ap (λ (x : List ℕ). x ++ new.coming) (sym s.read) in
    subst (AreFrames (a ++ b)) whole (frames_append a b (old.read ++ old.coming) s.coming.text f s.coming.frames)

-- the same two ends, and on each way the frames of the same messages
pub record IsInFrames (m : MessageWorld) (w : ByteWorld) : Type 0 where
  pub ends : w.ends ≡ apart m
  pub up : AreFrames m.up (w.up.read ++ w.up.coming)
  pub down : AreFrames m.down (w.down.read ++ w.down.coming)

-- the messages on the way, once an end read: those that are whole, and those that the bytes begin with now
pub record HasRead (on_the_way heard : List MessageTree) (new : Way) : Type 0 where
  pub rest : List MessageTree
  pub parts : on_the_way ≡ heard ++ rest
  pub left : AreFrames rest (new.read ++ new.coming)

-- the messages that are whole once the next n bytes were read
pub next_bytes : (limit n : ℕ) (messages : List MessageTree) (way : Way) → AreSendable limit messages → AreFrames messages (way.read ++ way.coming) → FrontOf limit messages (way.read ++ take n way.coming) (drop n way.coming)
next_bytes limit n messages way s f =
    let whole : way.read ++ way.coming ≡ (way.read ++ take n way.coming) ++ drop n way.coming =
    ap (λ (x : List ℕ). way.read ++ x) (sym (take-append-drop n way.coming)) ∙ sym (append_assoc way.read (take n way.coming) (drop n way.coming)) in
    front_of_frames limit messages (way.read ++ take n way.coming) (drop n way.coming) s (subst (AreFrames messages) whole f)

pub has_read : (limit n : ℕ) (on_the_way heard : List MessageTree) (old new : Way) → AreSendable limit on_the_way → AreFrames on_the_way (old.read ++ old.coming) → ReadsBytes limit n old new heard → HasRead on_the_way heard new
has_read limit n on_the_way heard old new s f r =
    let p = next_bytes limit n on_the_way old s f in
    let one = read_in_one_way limit (old.read ++ take n old.coming) (map Msg p.first) (map Msg heard) p.front new.read p.whole p.unfinished r.whole r.unfinished in
    let same : heard ≡ p.first = same_messages heard p.first one.0 in
    let way : p.front ++ drop n old.coming ≡ new.read ++ new.coming = ap₂ (λ (x y : List ℕ). x ++ y) (sym one.1) (sym r.coming) in
    record { rest = p.rest; parts = p.parts ∙ ap (λ (ms : List MessageTree). ms ++ p.rest) (sym same); left = subst (AreFrames p.rest) way p.left }

pub happens_stands : (e : WorldEvent) (limit : ℕ) (m : MessageWorld) (old new : ByteWorld) → IsInFrames m old → Steps limit (Happens e) old new → IsInFrames (run_messages (own e) m) new
happens_stands e limit m old new h s =
    let said : message_happens old.ends e ≡ message_happens (apart m) e = ap (λ (w : MessageWorld). message_happens w e) h.ends in
    let is = happens_behind e m in
    let up = subst (λ (w : MessageWorld). Sends w.up old.up new.up) said s.1.0 in
    let down = subst (λ (w : MessageWorld). Sends w.down old.down new.down) said s.1.1 in
    subst (λ (w : MessageWorld). IsInFrames w new) (sym is)
    (record { ends = s.0 ∙ ap apart said; up = sends_more m.up _ old.up new.up h.up up; down = sends_more m.down _ old.down new.down h.down down })

pub client_stands : (limit n : ℕ) (m : MessageWorld) (old new : ByteWorld) → AreSendable limit m.down → IsInFrames m old → (s : Steps limit (ReadsDown n) old new) → IsInFrames (run_messages (to_client s.0) m) new
client_stands limit n m old new sendable h s =
    let heard : List MessageTree = s.0 in
    let r = has_read limit n m.down heard old.down new.down sendable h.down s.1.0 in
    let said : client_hears heard old.ends ≡ client_hears heard (apart m) = ap (client_hears heard) h.ends in
    let is = client_after heard r.rest m r.parts in
    let up = subst (λ (w : MessageWorld). Sends w.up old.up new.up) said s.1.1.1 in
    subst (λ (w : MessageWorld). IsInFrames w new) (sym is) (record { ends = s.1.1.0 ∙ ap apart said; up = sends_more m.up _ old.up new.up h.up up; down = r.left })

pub reader_stands : (limit now n : ℕ) (m : MessageWorld) (old new : ByteWorld) → AreSendable limit m.up → IsInFrames m old → (s : Steps limit (ReadsUp now n) old new) → IsInFrames (run_messages (to_reader now s.0) m) new
reader_stands limit now n m old new sendable h s =
    let heard : List MessageTree = s.0 in
    let r = has_read limit n m.up heard old.up new.up sendable h.up s.1.0 in
    let said : reader_hears now heard old.ends ≡ reader_hears now heard (apart m) = ap (reader_hears now heard) h.ends in
    let is = reader_after now heard r.rest m r.parts in
    let down = subst (λ (w : MessageWorld). Sends w.down old.down new.down) said s.1.1.1 in
    subst (λ (w : MessageWorld). IsInFrames w new) (sym is) (record { ends = s.1.1.0 ∙ ap apart said; up = r.left; down = sends_more m.down _ old.down new.down h.down down })
