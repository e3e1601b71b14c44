-- Beside World: what contracts say that no promise rests on.
use Rattle.std.specs.Prelude.{ℕ, List, [], ◌∷◌, ◌++◌, Result, Ok, Err}
use Rattle.llrp_tree.specs.Tree.{Tree}
use Rattle.llrp_session.specs.Contents.{ReaderMessage, ClientMessage, request}
use Rattle.llrp_session.specs.Calls.Contents.{heard}
use Rattle.llrp_session.specs.Refusal.{Refusal}
use Rattle.llrp_session.specs.ReaderMachine.{Reader, Turn, ReaderEvent, Connect, Take, Seen, Tick, next, new_reader}
use Rattle.llrp_session.specs.Sightings.{tags_of, kept_by}
use Rattle.llrp_session.specs.ClientMachine.{Client, Sending, Taking, command, take, new_client}
use Rattle.llrp_session.specs.World.{WorldEvent, Connects, Commands, DeliversUp, DeliversDown, Sees, Ticks, listed_by, tags_handed_out, tables_shown, tables_differing}

pub record World : Type 0 where
  pub reader : Reader
  pub client : Client
  pub up : List ClientMessage  -- on the way to the reader
  pub down : List ReaderMessage  -- on the way to the client
  pub handed_out : List Tree  -- the TagReportData that the client delivered
  pub reported : List Tree  -- those that the reader sent
  pub kept : List Tree  -- those of the sightings that counted and were not dropped
  pub tables : List (List Tree)  -- the ROSpecs of each table that the client took for its view
  pub differing : List (List Tree)  -- those of each that it took for another
  pub listed : List (List Tree)  -- those of the reader's table at each GET_ROSPECS that it took

-- a refused event changes no end
abbrev pub stepped : Result Turn Refusal → List Tree → List (List Tree) → World → World
stepped (Err refusal) kept listed w = w
stepped (Ok t) kept listed w = record w {
  reader = t.reader;
  down = w.down ++ t.sent;
  reported = w.reported ++ tags_of t.sent;
  kept = w.kept ++ kept;
  listed = w.listed ++ listed;
}

abbrev pub reader_does : ℕ → ReaderEvent → World → World
reader_does now e w = stepped (next now e w.reader) (kept_by now e w.reader) (listed_by e w.reader) w

abbrev pub commanded : Result Sending Refusal → World → World
commanded (Err refusal) w = w
commanded (Ok s) w = record w { client = s.client; up = w.up ++ s.message ∷ [] }

abbrev pub word_took : Result Taking Refusal → World → World
word_took (Err refusal) w = w
word_took (Ok k) w = record w {
  client = k.client;
  up = w.up ++ k.sent;
  handed_out = w.handed_out ++ tags_handed_out k.taken;
  tables = w.tables ++ tables_shown k.taken;
  differing = w.differing ++ tables_differing k.taken;
}

-- the messages of a client have version 1
abbrev pub delivered_up : ℕ → List ClientMessage → World → World
delivered_up now [] w = w
delivered_up now (m ∷ ms) w = reader_does now (Take 1 m.id (request m.word)) (record w { up = ms })

abbrev pub delivered_down : List ReaderMessage → World → World
delivered_down [] w = w
delivered_down (m ∷ ms) w = word_took (take w.client m.id (heard m.word)) (record w { down = ms })

abbrev pub happens : World → WorldEvent → World
happens w (Connects now) = reader_does now Connect w
happens w (Commands k) = commanded (command w.client k) w
happens w (DeliversUp now) = delivered_up now w.up w
happens w DeliversDown = delivered_down w.down w
happens w (Sees now g) = reader_does now (Seen g) w
happens w (Ticks now) = reader_does now Tick w

abbrev pub run : List WorldEvent → World → World
run [] w = w
run (e ∷ es) w = run es (happens w e)

-- a reader and a client as new, with one limit
abbrev pub opening : ℕ → ℕ → ℕ → World
opening limit reader_first client_first = record {
  reader = new_reader limit reader_first;
  client = new_client limit client_first;
  up = [];
  down = [];
  handed_out = [];
  reported = [];
  kept = [];
  tables = [];
  differing = [];
  listed = [];
}
