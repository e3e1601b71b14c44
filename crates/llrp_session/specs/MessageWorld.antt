-- The world of both ends in which messages are on the way, and are read where they arrive.
use Rattle.std.specs.Prelude.{ℕ, ◌<◌, ◌^◌, List, [], ◌∷◌, ◌++◌, map, Result, Ok, Err, ◌≡◌}
use Rattle.llrp_tree.specs.Tree.{Tree, MessageTree}
use Rattle.llrp_session.specs.Contents.{Heard, HeardReport, Command, Add, Delete, Start, Stop, Enable, Disable, GetRospecs, SetKeepalive, GetReport, Close}
use Rattle.llrp_session.specs.Refusal.{Refusal}
use Rattle.llrp_session.specs.ReaderMachine.{Reader, Turn, ReaderEvent, Connect, Take, Seen, Tick, next, new_reader}
use Rattle.llrp_session.specs.Sightings.{kept_by}
use Rattle.llrp_session.specs.ClientMachine.{Client, Sending, Taking, command, take, new_client}
use Rattle.llrp_session.specs.World.{WorldEvent, Connects, Commands, DeliversUp, DeliversDown, Sees, Ticks, table_heard, listed_by, tags_handed_out, tables_shown, tables_differing}
use Rattle.llrp_session.specs.ReaderMessages.{reader_message}
use Rattle.llrp_session.specs.ClientMessages.{client_message}
use Rattle.llrp_session.specs.Reading.{request_of, heard_of}
use Rattle.llrp_schema.specs.declared.kinds.ParamKind.TheVariants.{RoSpec as RoSpecKind}
use Rattle.llrp_tree.specs.Lawful.{IsLawfulTree}
use Rattle.llrp_session.specs.TagReport.{Sighting, signed_octet}

abbrev pub IsGivenCommand : Command → Type 0
IsGivenCommand (Add spec) = (spec.kind ≡ RoSpecKind) × IsLawfulTree spec
IsGivenCommand (Delete id) = id < 2 ^ 32
IsGivenCommand (Start id) = id < 2 ^ 32
IsGivenCommand (Stop id) = id < 2 ^ 32
IsGivenCommand (Enable id) = id < 2 ^ 32
IsGivenCommand (Disable id) = id < 2 ^ 32
IsGivenCommand GetRospecs = Unit {0}
IsGivenCommand (SetKeepalive ms) = ms < 2 ^ 32
IsGivenCommand GetReport = Unit {0}
IsGivenCommand Close = Unit {0}

pub record IsLawfulSighting (g : Sighting) : Type 0 where
  pub antenna : g.antenna < 2 ^ 16
  pub rssi : signed_octet g.rssi < 2 ^ 8
  pub epc : g.epc < 2 ^ 96

pub record MessageWorld : Type 0 where
  pub reader : Reader
  pub client : Client
  pub up : List MessageTree  -- on the way to the reader
  pub down : List MessageTree  -- on the way to the client
  pub handed_out : List Tree  -- the TagReportData that the client delivered
  pub reported : List Tree  -- those in the messages that the reader sent
  pub kept : List Tree  -- those of the sightings that counted and were not dropped
  pub tables : List (List Tree)  -- the ROSpecs of each table that the client took for its view
  pub differing : List (List Tree)  -- those of each that it took for another
  pub listed : List (List Tree)  -- those of the reader's table at each GET_ROSPECS that it took

abbrev pub tags_heard : Heard → List Tree
tags_heard (HeardReport tags) = tags
tags_heard _ = []

-- the TagReportData in messages, in order
unfoldable pub tags_in_messages : List MessageTree → List Tree
tags_in_messages [] = []
tags_in_messages (m ∷ ms) = tags_heard (heard_of m) ++ tags_in_messages ms

-- the tables in messages, in order
unfoldable pub tables_in_messages : List MessageTree → List (List Tree)
tables_in_messages [] = []
tables_in_messages (m ∷ ms) = table_heard (heard_of m) ++ tables_in_messages ms

-- a refused event changes no end
abbrev pub stepped : Result Turn Refusal → List Tree → List (List Tree) → MessageWorld → MessageWorld
stepped (Err refusal) kept listed w = w
stepped (Ok t) kept listed w = record w {
  reader = t.reader;
  down = w.down ++ map reader_message t.sent;
  reported = w.reported ++ tags_in_messages (map reader_message t.sent);
  kept = w.kept ++ kept;
  listed = w.listed ++ listed;
}

abbrev pub reader_does : ℕ → ReaderEvent → MessageWorld → MessageWorld
reader_does now e w = stepped (next now e w.reader) (kept_by now e w.reader) (listed_by e w.reader) w

abbrev pub commanded : Result Sending Refusal → MessageWorld → MessageWorld
commanded (Err refusal) w = w
commanded (Ok s) w = record w { client = s.client; up = w.up ++ client_message s.message ∷ [] }

abbrev pub took : Result Taking Refusal → MessageWorld → MessageWorld
took (Err refusal) w = w
took (Ok k) w = record w {
  client = k.client;
  up = w.up ++ map client_message k.sent;
  handed_out = w.handed_out ++ tags_handed_out k.taken;
  tables = w.tables ++ tables_shown k.taken;
  differing = w.differing ++ tables_differing k.taken;
}

abbrev pub delivered_up : ℕ → List MessageTree → MessageWorld → MessageWorld
delivered_up now [] w = w
delivered_up now (m ∷ ms) w = reader_does now (Take m.version m.id (request_of m)) (record w { up = ms })

abbrev pub delivered_down : List MessageTree → MessageWorld → MessageWorld
delivered_down [] w = w
delivered_down (m ∷ ms) w = took (take w.client m.id (heard_of m)) (record w { down = ms })

abbrev pub message_happens : MessageWorld → WorldEvent → MessageWorld
message_happens w (Connects now) = reader_does now Connect w
message_happens w (Commands k) = commanded (command w.client k) w
message_happens w (DeliversUp now) = delivered_up now w.up w
message_happens w DeliversDown = delivered_down w.down w
message_happens w (Sees now g) = reader_does now (Seen g) w
message_happens w (Ticks now) = reader_does now Tick w

abbrev pub run_messages : List WorldEvent → MessageWorld → MessageWorld
run_messages [] w = w
run_messages (e ∷ es) w = run_messages es (message_happens w e)

-- a reader and a client as new, with one limit
abbrev pub message_opening : ℕ → ℕ → ℕ → MessageWorld
message_opening limit reader_first client_first = record {
  reader = new_reader limit reader_first;
  client = new_client limit client_first;
  up = [];
  down = [];
  handed_out = [];
  reported = [];
  kept = [];
  tables = [];
  differing = [];
  listed = [];
}

-- ---- what is on its way may be sent

-- an event whose numbers are those that their types hold, and whose ROSpec is lawful
abbrev pub IsGiven : WorldEvent → Type 0
IsGiven (Connects now) = now < 2 ^ 64
IsGiven (Commands k) = IsGivenCommand k
IsGiven (DeliversUp now) = now < 2 ^ 64
IsGiven DeliversDown = Unit {0}
IsGiven (Sees now g) = (now < 2 ^ 64) × IsLawfulSighting g
IsGiven (Ticks now) = now < 2 ^ 64

abbrev pub AreGiven : List WorldEvent → Type 0
AreGiven [] = Unit {0}
AreGiven (e ∷ es) = IsGiven e × AreGiven es
