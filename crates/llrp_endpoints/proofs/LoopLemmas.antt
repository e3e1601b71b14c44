-- Both ends of a connection in turn.
use Rattle.std.proofs.Common.{◌≡◌, ℕ, zero, suc, ◌+◌, ◌-◌, ◌<◌, ◌≤◌, true, false, List, [], ◌++◌, length, map, Bool, IsTrue, Ok, Err, refl, sym, ap, subst, ◌∙◌, append_assoc, length-append, inl, inr, arith}
use Rattle.std.proofs.lemmas.List.{append-nil}
use Rattle.llrp_tree.specs.Tree.{Tree}
use Rattle.llrp_stream.specs.Device.{SourceLog, SinkLog, IsFreshSource, Wrote, WroteAndFailed}
use Rattle.llrp_endpoints.specs.Asides.{all_said}
use Rattle.llrp_endpoints.specs.declared.both_ends.client_side.ClientSide.{ClientSide}
use Rattle.llrp_endpoints.specs.declared.both_ends.reader_side.ReaderSide.{ReaderSide}
use Rattle.llrp_listing.specs.declared.outcome.ToolErr.{ToolErr}
use Rattle.llrp_listing.specs.declared.outcome.ToolErr.TheVariants.{Listing, Script, Hex, Read, Write, Bound, Broken, Memory, Peer, Strange, Early}
use Rattle.llrp_endpoints.specs.declared.summary.Summary.{Summary}
use Rattle.llrp_listing.specs.Copying.{ReadAll, WasGiven}
use Rattle.llrp_listing.specs.Calls.Copying.{Given}
use Rattle.llrp_endpoints.specs.Private.EndsStand.{WritesPiece, HasRoom, ReaderStands, ReaderStops, ReaderHears, ClientStands, ClientStops, ClientHears}
use Rattle.llrp_endpoints.specs.Calls.GatheringStands.{Counts}
use Rattle.llrp_endpoints.specs.RunLoop.{BothEnds, DeviceWay, Devices, Traffic, Passed, Fine, GivenAndFailed, GivenByMost, ReaderGoes, ClientAwaits, RunsLoop}
use Rattle.llrp_endpoints.specs.RunServe.{BeginsFrames}
use Rattle.llrp_endpoints.specs.Sending.{AreFrames}
use Rattle.llrp_endpoints.specs.TagLines.{summary_of}
use Rattle.llrp_endpoints.proofs.ClientSideLemmas.{client_awaits}
use Rattle.llrp_stream.proofs.WritingLemmas.{wrote_nothing, wrote_more, wrote_then_failed}
use Rattle.llrp_listing.proofs.DeviceLemmas.{gave_nothing}
use Rattle.llrp_endpoints.proofs.HearingLemmas.{was_given}
use Rattle.llrp_endpoints.proofs.ReaderSideLemmas.{reader_goes}

-- How far both are, where this many bytes were written down and not read yet, and this many up.
pub record State (e : BothEnds) (o : Devices) (down up : DeviceWay) (report : SinkLog) (r : ReaderSide) (c : ClientSide) (below above : ℕ) : Type 0 where
  pub down_written : List ℕ
  pub down_read : List ℕ
  pub up_written : List ℕ
  pub up_read : List ℕ
  pub reader : ReaderStands e down_written up_read r.serving r.said.items
  pub client : ClientStands e up_written down_read o.report report c.gathering c.said.items c.lines.items
  pub down_wrote : Wrote o.down.sink down.sink down_written
  pub up_wrote : Wrote o.up.sink up.sink up_written
  pub down_given : Given o.down.source down.source c.reads down_read
  pub up_given : Given o.up.source up.source r.reads up_read
  pub down_unread : length down_written ≡ length down_read + below
  pub up_unread : length up_written ≡ length up_read + above

abbrev pub down_of : (e : BothEnds) (o : Devices) (down up : DeviceWay) (report : SinkLog) (r : ReaderSide) (c : ClientSide) (below above : ℕ) → State e o down up report r c below above → Traffic
down_of e o down up report r c below above s = record { written = s.down_written; unwritten = r.said.items; read = s.down_read }

abbrev pub up_of : (e : BothEnds) (o : Devices) (down up : DeviceWay) (report : SinkLog) (r : ReaderSide) (c : ClientSide) (below above : ℕ) → State e o down up report r c below above → Traffic
up_of e o down up report r c below above s = record { written = s.up_written; unwritten = c.said.items; read = s.up_read }

pub begins : (e : BothEnds) (o : Devices) (r : ReaderSide) (c : ClientSide) → ReaderStands e [] [] r.serving r.said.items → ClientStands e [] [] o.report o.report c.gathering c.said.items c.lines.items → r.reads ≡ 0 → c.reads ≡ 0
    → State e o o.down o.up o.report r c 0 0
begins e o r c reader client none_up none_down = record {
  down_written = [];
  down_read = [];
  up_written = [];
  up_read = [];
  reader = reader;
  client = client;
  down_wrote = wrote_nothing o.down.sink;
  up_wrote = wrote_nothing o.up.sink;
  down_given = rw none_down (record { gave = gave_nothing o.down.source; few = omega arith });
  up_given = rw none_up (record { gave = gave_nothing o.up.source; few = omega arith });
  down_unread = omega arith;
  up_unread = omega arith;
}

pub fresh_room : (log : SourceLog) (reads : ℕ) → IsFreshSource log → reads ≡ 0 → HasRoom log reads
fresh_room log reads f none =
    let first = f.reads in
    let second = f.ends in
    let third = f.failures in
    record { few = omega arith; reads_fit = omega arith; ends_fit = omega arith; failures_fit = omega arith }

-- nothing failed on a way
fine : (old new : DeviceWay) (reads : ℕ) (bytes : Traffic) → Wrote old.sink new.sink bytes.written → Given old.source new.source reads bytes.read → length bytes.read ≤ length bytes.written → length bytes.written ≤ length bytes.read + 4096 → Fine old new bytes
fine old new reads bytes w g more later = record { wrote = w; gave = was_given old.source new.source reads bytes.read g; no_more = more; no_later = later }

-- ---- writes

pub writes_down : (e : BothEnds) (o : Devices) (down up : DeviceWay) (report : SinkLog) (r r' : ReaderSide) (c : ClientSide) (sink : SinkLog) (n : ℕ) → State e o down up report r c 0 0 → WritesPiece r.said.items r'.said.items down.sink sink n → r'.serving ≡ r.serving → r'.reads ≡ r.reads
    → State e o (record { sink = sink; source = down.source }) up report r' c n 0
writes_down e o down up report r r' c sink n s w serving reads =
    let before = s.down_unread in
    let both = length-append s.down_written w.front in
    let count = w.count_is in
    record {
      down_written = s.down_written ++ w.front;
      down_read = s.down_read;
      up_written = s.up_written;
      up_read = s.up_read;
      reader = record {
        messages = s.reader.messages;
        serving = rw serving s.reader.serving;
        frames = subst (λ (x : List ℕ). AreFrames s.reader.messages x) (ap (λ (x : List ℕ). s.down_written ++ x) w.parts ∙ sym (append_assoc s.down_written w.front r'.said.items)) s.reader.frames;
      };
      client = s.client;
      down_wrote = wrote_more o.down.sink down.sink sink s.down_written w.front s.down_wrote w.wrote;
      up_wrote = s.up_wrote;
      down_given = s.down_given;
      up_given = rw reads s.up_given;
      down_unread = omega arith;
      up_unread = s.up_unread;
    }

pub writes_up : (e : BothEnds) (o : Devices) (down up : DeviceWay) (report : SinkLog) (r : ReaderSide) (c c' : ClientSide) (sink : SinkLog) (n : ℕ) → State e o down up report r c 0 0 → WritesPiece c.said.items c'.said.items up.sink sink n
    → c'.gathering ≡ c.gathering → c'.lines.items ≡ c.lines.items → c'.reads ≡ c.reads → State e o down (record { sink = sink; source = up.source }) report r c' 0 n
writes_up e o down up report r c c' sink n s w gathering lines reads =
    let before = s.up_unread in
    let both = length-append s.up_written w.front in
    let count = w.count_is in
    let says = s.client.says in
    record {
      down_written = s.down_written;
      down_read = s.down_read;
      up_written = s.up_written ++ w.front;
      up_read = s.up_read;
      reader = s.reader;
      client = record {
        rest = s.client.rest;
        course = s.client.course;
        open_still = rw gathering s.client.open_still;
        text = s.client.text;
        says = record {
          frames_are = subst (λ (x : List ℕ). AreFrames (all_said s.client.course.asides s.client.course.sent) x) (ap (λ (x : List ℕ). s.up_written ++ x) w.parts ∙ sym (append_assoc s.up_written w.front c'.said.items)) says.frames_are;
          lines = says.lines;
          lines_are = says.lines_are;
          text_is = says.text_is;
        };
        wrote = s.client.wrote;
        none_left = lines ∙ s.client.none_left;
      };
      down_wrote = s.down_wrote;
      up_wrote = wrote_more o.up.sink up.sink sink s.up_written w.front s.up_wrote w.wrote;
      down_given = rw reads s.down_given;
      up_given = s.up_given;
      down_unread = s.down_unread;
      up_unread = omega arith;
    }

-- ---- reads

pub hears_down : (e : BothEnds) (o : Devices) (down up : DeviceWay) (report report' : SinkLog) (r : ReaderSide) (c c' : ClientSide) (source : SourceLog) (n : ℕ) (b : Bool) → b ≡ false → (s : State e o down up report r c n 0)
    → ((e : BothEnds) (s0 : SourceLog) (p0 : SinkLog) (below above : Traffic) → ClientStands e above.written below.read p0 report c.gathering c.said.items c.lines.items → Given s0 down.source c.reads below.read → ClientHears e s0 source p0 report' below above n c' (Ok b)) → State e o (record { sink = down.sink; source = source }) up report' r c' 0 0
hears_down e o down up report report' r c c' source n true is s hears = absurd cc
hears_down e o down up report report' r c c' source n false is s hears =
    let h = hears e o.down.source o.report (down_of e o down up report r c n 0 s) (up_of e o down up report r c n 0 s) s.client s.down_given in
    let before = s.down_unread in
    let both = length-append s.down_read h.0 in
    let count = h.1 in
    record {
      down_written = s.down_written;
      down_read = s.down_read ++ h.0;
      up_written = s.up_written;
      up_read = s.up_read;
      reader = s.reader;
      client = h.3;
      down_wrote = s.down_wrote;
      up_wrote = s.up_wrote;
      down_given = h.2;
      up_given = s.up_given;
      down_unread = omega arith;
      up_unread = s.up_unread;
    }

pub hears_up : (e : BothEnds) (o : Devices) (down up : DeviceWay) (report : SinkLog) (r r' : ReaderSide) (c : ClientSide) (source : SourceLog) (n : ℕ) (u : Unit {0}) (s : State e o down up report r c 0 n)
    → ((e : BothEnds) (s0 : SourceLog) (below above : Traffic) → ReaderStands e below.written above.read r.serving r.said.items → Given s0 up.source r.reads above.read → ReaderHears e s0 source below above n r' (Ok u)) → State e o down (record { sink = up.sink; source = source }) report r' c 0 0
hears_up e o down up report r r' c source n u s hears =
    let h = hears e o.up.source (down_of e o down up report r c 0 n s) (up_of e o down up report r c 0 n s) s.reader s.up_given in
    let before = s.up_unread in
    let both = length-append s.up_read h.0 in
    let count = h.1 in
    record {
      down_written = s.down_written;
      down_read = s.down_read;
      up_written = s.up_written;
      up_read = s.up_read ++ h.0;
      reader = h.3;
      client = s.client;
      down_wrote = s.down_wrote;
      up_wrote = s.up_wrote;
      down_given = s.down_given;
      up_given = h.2;
      down_unread = s.down_unread;
      up_unread = omega arith;
    }

-- ---- ends

-- memory ran out at the start
pub not_started : (e : BothEnds) (o : Devices) (c : ClientSide) (text : List ℕ) → ClientStands e [] [] o.report o.report c.gathering c.said.items c.lines.items → BeginsFrames e.reader e.entries [] text → (down up : Traffic) × RunsLoop e o o down up (Err Memory)
not_started e o c text client begins =
    let down : Traffic = record { written = []; unwritten = text; read = [] } in
    let up : Traffic = record { written = []; unwritten = c.said.items; read = [] } in (
      down,
      up,
      inr (
        (fine o.down o.down 0 down (wrote_nothing o.down.sink) (record { gave = gave_nothing o.down.source; few = omega arith }) (omega arith) (omega arith), fine o.up o.up 0 up (wrote_nothing o.up.sink) (record { gave = gave_nothing o.up.source; few = omega arith }) (omega arith) (omega arith)),
        begins,
        client_awaits e down up o.report o.report c.gathering c.lines.items client,
      ),
    )

-- neither end has bytes to send
pub silent : (e : BothEnds) (o : Devices) (down up : DeviceWay) (report : SinkLog) (r : ReaderSide) (c : ClientSide) → State e o down up report r c 0 0 → r.said.items ≡ [] → c.said.items ≡ [] → (below above : Traffic) × RunsLoop e o (record { down = down; up = up; report = report }) below above (Err Early)
silent e o down up report r c s none_down none_up =
    let below = down_of e o down up report r c 0 0 s in
    let above = up_of e o down up report r c 0 0 s in
    let down_unread = s.down_unread in
    let up_unread = s.up_unread in (
      below,
      above,
      inr (inr (
        (fine o.down down c.reads below s.down_wrote s.down_given (omega arith) (omega arith), fine o.up up r.reads above s.up_wrote s.up_given (omega arith) (omega arith)),
        record { all_written = none_down; all_read = omega arith },
        record { all_written = none_up; all_read = omega arith },
        reader_goes e below above r.serving s.reader,
        client_awaits e below above o.report report c.gathering c.lines.items s.client,
      )),
    )

-- a write failed
pub down_unwritten : (e : BothEnds) (o : Devices) (down up : DeviceWay) (report : SinkLog) (r : ReaderSide) (c : ClientSide) (sink : SinkLog) → State e o down up report r c 0 0 → WroteAndFailed down.sink sink []
    → (below above : Traffic) × RunsLoop e o (record { down = record { sink = sink; source = down.source }; up = up; report = report }) below above (Err Write)
down_unwritten e o down up report r c sink s w =
    let below = down_of e o down up report r c 0 0 s in
    let above = up_of e o down up report r c 0 0 s in
    let down_unread = s.down_unread in
    let up_unread = s.up_unread in (
      below,
      above,
      inl (
        inl (
          record {
            wrote = subst (λ (x : List ℕ). WroteAndFailed o.down.sink sink x) (append-nil s.down_written) (wrote_then_failed o.down.sink down.sink sink s.down_written [] s.down_wrote w);
            gave = was_given o.down.source down.source c.reads s.down_read s.down_given;
            no_more = omega arith;
            no_later = omega arith;
          },
          fine o.up up r.reads above s.up_wrote s.up_given (omega arith) (omega arith),
        ),
        reader_goes e below above r.serving s.reader,
        client_awaits e below above o.report report c.gathering c.lines.items s.client,
      ),
    )

pub up_unwritten : (e : BothEnds) (o : Devices) (down up : DeviceWay) (report : SinkLog) (r : ReaderSide) (c : ClientSide) (sink : SinkLog) → State e o down up report r c 0 0 → WroteAndFailed up.sink sink []
    → (below above : Traffic) × RunsLoop e o (record { down = down; up = record { sink = sink; source = up.source }; report = report }) below above (Err Write)
up_unwritten e o down up report r c sink s w =
    let below = down_of e o down up report r c 0 0 s in
    let above = up_of e o down up report r c 0 0 s in
    let down_unread = s.down_unread in
    let up_unread = s.up_unread in (
      below,
      above,
      inl (
        inr (
          fine o.down down c.reads below s.down_wrote s.down_given (omega arith) (omega arith),
          record {
            wrote = subst (λ (x : List ℕ). WroteAndFailed o.up.sink sink x) (append-nil s.up_written) (wrote_then_failed o.up.sink up.sink sink s.up_written [] s.up_wrote w);
            gave = was_given o.up.source up.source r.reads s.up_read s.up_given;
            no_more = omega arith;
            no_later = omega arith;
          },
        ),
        reader_goes e below above r.serving s.reader,
        client_awaits e below above o.report report c.gathering c.lines.items s.client,
      ),
    )

-- how the reads of a way ended
passed : (old new : DeviceWay) (bytes : Traffic) → Wrote old.sink new.sink bytes.written → length bytes.read ≤ length bytes.written → length bytes.written ≤ length bytes.read + 4096
    → (Reads : SourceLog → SourceLog → List ℕ → Type 0) → Reads old.source new.source bytes.read → Passed Wrote Reads old new bytes
passed old new bytes w more later Reads given = record { wrote = w; gave = given; no_more = more; no_later = later }

client_ends_loop : (e : BothEnds) (o n : Devices) (below above : Traffic) (error : ToolErr) → ((Reads : SourceLog → SourceLog → List ℕ → Type 0) → Reads o.down.source n.down.source below.read → Passed Wrote Reads o.down n.down below) → Fine o.up n.up above
    → ReaderGoes e below above → ClientStops e o.down.source n.down.source o.report n.report below above error → RunsLoop e o n below above (Err error)
client_ends_loop e o n below above (Peer status) down up goes s = ((down WasGiven s.0, up), goes, s.1)
client_ends_loop e o n below above Strange down up goes s = ((down WasGiven s.0, up), goes, s.1)
client_ends_loop e o n below above Early down up goes (inl s) = inl ((down WasGiven s.0, up), goes, s.1)
client_ends_loop e o n below above Early down up goes (inr s) = inr (inl (inl (down ReadAll s.0, up), goes, s.1))
client_ends_loop e o n below above Broken down up goes s = inl ((down WasGiven s.0, up), goes, s.1)
client_ends_loop e o n below above Memory down up goes s = inl ((down WasGiven s.0, up), goes, (s.1, s.2, s.3))
client_ends_loop e o n below above Read down up goes s = (inl (down GivenAndFailed s.0, up), goes, s.1)
client_ends_loop e o n below above Bound down up goes s = (inl (down GivenByMost s.0, up), goes, s.1)
client_ends_loop e o n below above Write down up goes s = inr ((down WasGiven s.0, up), goes, s.1)
client_ends_loop e o n below above (Listing line reason) down up goes s = absurd s
client_ends_loop e o n below above (Script line) down up goes s = absurd s
client_ends_loop e o n below above Hex down up goes s = absurd s

reader_ends_loop : (e : BothEnds) (o n : Devices) (below above : Traffic) (error : ToolErr) → Fine o.down n.down below → ((Reads : SourceLog → SourceLog → List ℕ → Type 0) → Reads o.up.source n.up.source above.read → Passed Wrote Reads o.up n.up above)
    → ClientAwaits e below above o.report n.report → ReaderStops e o.up.source n.up.source below above error → RunsLoop e o n below above (Err error)
reader_ends_loop e o n below above Broken down up client s = inr ((down, up WasGiven s.0), s.1, client)
reader_ends_loop e o n below above Memory down up client s = inr ((down, up WasGiven s.0), s.1, client)
reader_ends_loop e o n below above Read down up client s = (inr (down, up GivenAndFailed s.0), s.1, client)
reader_ends_loop e o n below above Bound down up client s = (inr (down, up GivenByMost s.0), s.1, client)
reader_ends_loop e o n below above Early down up client s = inr (inl (inr (down, up ReadAll s.0), s.1, client))
reader_ends_loop e o n below above Write down up client s = absurd s
reader_ends_loop e o n below above (Peer status) down up client s = absurd s
reader_ends_loop e o n below above Strange down up client s = absurd s
reader_ends_loop e o n below above (Listing line reason) down up client s = absurd s
reader_ends_loop e o n below above (Script line) down up client s = absurd s
reader_ends_loop e o n below above Hex down up client s = absurd s

-- the client stopped
pub client_stopped : (e : BothEnds) (o : Devices) (down up : DeviceWay) (report report' : SinkLog) (r : ReaderSide) (c c' : ClientSide) (source : SourceLog) (n : ℕ) (error : ToolErr) (s : State e o down up report r c n 0) → n ≤ 4096
    → ((e : BothEnds) (s0 : SourceLog) (p0 : SinkLog) (below above : Traffic) → ClientStands e above.written below.read p0 report c.gathering c.said.items c.lines.items → Given s0 down.source c.reads below.read → ClientHears e s0 source p0 report' below above n c' (Err error))
    → (below above : Traffic) × RunsLoop e o (record { down = record { sink = down.sink; source = source }; up = up; report = report' }) below above (Err error)
client_stopped e o down up report report' r c c' source n error s a_piece hears =
    let h = hears e o.down.source o.report (down_of e o down up report r c n 0 s) (up_of e o down up report r c n 0 s) s.client s.down_given in
    let below : Traffic = record { written = s.down_written; unwritten = r.said.items; read = s.down_read ++ h.0 } in
    let above : Traffic = record { written = s.up_written; unwritten = c'.said.items; read = s.up_read } in
    let new : DeviceWay = record { sink = down.sink; source = source } in
    let both = length-append s.down_read h.0 in
    let few = h.1 in
    let down_unread = s.down_unread in
    let up_unread = s.up_unread in (
      below,
      above,
      client_ends_loop e o (record { down = new; up = up; report = report' }) below above error (passed o.down new below s.down_wrote (omega arith) (omega arith)) (fine o.up up r.reads above s.up_wrote s.up_given (omega arith) (omega arith))
          (reader_goes e below above r.serving s.reader) h.2,
    )

-- the client closed the connection as planned
pub client_closed : (e : BothEnds) (o : Devices) (down up : DeviceWay) (report report' : SinkLog) (r : ReaderSide) (c c' : ClientSide) (source : SourceLog) (n : ℕ) (summary : Summary) (b : Bool) → b ≡ true → (s : State e o down up report r c n 0) → n ≤ 4096
    → ((e : BothEnds) (s0 : SourceLog) (p0 : SinkLog) (below above : Traffic) → ClientStands e above.written below.read p0 report c.gathering c.said.items c.lines.items → Given s0 down.source c.reads below.read → ClientHears e s0 source p0 report' below above n c' (Ok b)) → ((reports : List (List Tree)) → Counts reports c'.gathering → summary ≡ summary_of reports)
    → (below above : Traffic) × RunsLoop e o (record { down = record { sink = down.sink; source = source }; up = up; report = report' }) below above (Ok summary)
client_closed e o down up report report' r c c' source n summary false is s a_piece hears told = absurd cc
client_closed e o down up report report' r c c' source n summary true is s a_piece hears told =
    let h = hears e o.down.source o.report (down_of e o down up report r c n 0 s) (up_of e o down up report r c n 0 s) s.client s.down_given in
    let below : Traffic = record { written = s.down_written; unwritten = r.said.items; read = s.down_read ++ h.0 } in
    let above : Traffic = record { written = s.up_written; unwritten = c'.said.items; read = s.up_read } in
    let new : DeviceWay = record { sink = down.sink; source = source } in
    let both = length-append s.down_read h.0 in
    let few = h.1 in
    let down_unread = s.down_unread in
    let up_unread = s.up_unread in (
      below,
      above,
      ((passed o.down new below s.down_wrote (omega arith) (omega arith) WasGiven h.2, fine o.up up r.reads above s.up_wrote s.up_given (omega arith) (omega arith)), reader_goes e below above r.serving s.reader, (h.3, h.4, h.5, told h.3.reports h.6)),
    )

-- the reader stopped
pub reader_stopped : (e : BothEnds) (o : Devices) (down up : DeviceWay) (report : SinkLog) (r r' : ReaderSide) (c : ClientSide) (source : SourceLog) (n : ℕ) (error : ToolErr) (s : State e o down up report r c 0 n) → n ≤ 4096
    → ((e : BothEnds) (s0 : SourceLog) (below above : Traffic) → ReaderStands e below.written above.read r.serving r.said.items → Given s0 up.source r.reads above.read → ReaderHears e s0 source below above n r' (Err error))
    → (below above : Traffic) × RunsLoop e o (record { down = down; up = record { sink = up.sink; source = source }; report = report }) below above (Err error)
reader_stopped e o down up report r r' c source n error s a_piece hears =
    let h = hears e o.up.source (down_of e o down up report r c 0 n s) (up_of e o down up report r c 0 n s) s.reader s.up_given in
    let below : Traffic = record { written = s.down_written; unwritten = r'.said.items; read = s.down_read } in
    let above : Traffic = record { written = s.up_written; unwritten = c.said.items; read = s.up_read ++ h.0 } in
    let new : DeviceWay = record { sink = up.sink; source = source } in
    let both = length-append s.up_read h.0 in
    let few = h.1 in
    let down_unread = s.down_unread in
    let up_unread = s.up_unread in (
      below,
      above,
      reader_ends_loop e o (record { down = down; up = new; report = report }) below above error (fine o.down down c.reads below s.down_wrote s.down_given (omega arith) (omega arith)) (passed o.up new above s.up_wrote (omega arith) (omega arith))
          (client_awaits e below above o.report report c.gathering c.lines.items s.client) h.2,
    )

-- ---- the loop ends

pub not_silent : (b : Bool) {P Q : Type 0} → (P × Q → IsTrue b) → b ≡ false → P → Q → ⊥
not_silent b f is p q = let yes : b ≡ true = f (p, q) in absurd cc

-- A turn makes a read of one end or of the other.
pub fewer_left : (most a a' b b' down up : ℕ) {P Q : Type 0} → a' ≤ most → b' ≤ most → (down ≡ 0 → P) → (0 < down → a < a') → (down ≡ 0 → a' ≡ a) → (down ≡ 0 → up ≡ 0 → Q) → (0 < up → b < b') → (up ≡ 0 → b' ≡ b) → (P → Q → ⊥)
    → most - a' + (most - b') < most - a + (most - b)
fewer_left most a a' b b' zero zero few_a few_b p more_a same_a q more_b same_b never = absurd (never (p refl) (q refl refl))
fewer_left most a a' b b' zero (suc u) few_a few_b p more_a same_a q more_b same_b never = let same = same_a refl in let more = more_b (omega arith) in omega arith
fewer_left most a a' b b' (suc d) zero few_a few_b p more_a same_a q more_b same_b never = let more = more_a (omega arith) in let same = same_b refl in omega arith
fewer_left most a a' b b' (suc d) (suc u) few_a few_b p more_a same_a q more_b same_b never = let more = more_a (omega arith) in let further = more_b (omega arith) in omega arith
