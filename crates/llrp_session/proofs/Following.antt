-- A client that takes what a reader sends sees the reader's states.
use Rattle.std.proofs.Common.{◌≡◌, ℕ, refl, sym, ◌∙◌, ap, subst, Bool, true, false, cond, List, [], ◌∷◌, ◌++◌, length, arith}
use Rattle.std.specs.Prelude.{◌==◌, ◌&&◌, ◌||◌, nat_le, Option, None, Some, is_none, Ok, Err}
use Rattle.std.proofs.lemmas.Bool.{eq-eqb}
use Rattle.std.proofs.lemmas.Bool.Decides.{nat_tests}
use Rattle.llrp_tree.specs.Tree.{Tree}
use Rattle.llrp_session.specs.RoSpec.{RoSpec, ReportSpec, rospec_of}
use Rattle.llrp_session.specs.Table.{Entry, Inactive, Active, states, listing, change, change_view, without, enter, names, setting, enabling, disabling, active, first_immediate, is_active, is_inactive, state_of}
use Rattle.llrp_session.specs.TagReport.{Sighting, tag_report}
use Rattle.llrp_session.specs.Contents.{ReaderContent, Response, Listed, Report, KeepaliveSent, Started, Ended, Overflowed, ReaderMessage, Command, Add, Delete, Start, Stop, Enable, Disable, GetRospecs, SetKeepalive, GetReport, Close, requested, Operation, Adding, Deleting, Starting, Stopping, Enabling, Disabling, Listing, Configuring, Closing, keepalive_each, KeepaliveSpec, Config}
use Rattle.llrp_session.specs.Calls.Contents.{heard}
use Rattle.llrp_session.specs.ReaderMachine.{Reader, Turn, Keepalive, Up, tell, reply, with_reader, with_table, send_held, set_state, start, end, end_if, start_if_idle, serve, see, tick, keep_alive, keepalive_from, configured, is_known, add_status, effective_report, sends_at_end, has_state, is_bad_report, is_bad_keepalive, hold, send_if_enough, is_report_due, is_full, has_run_out, reset_if, set_keepalive, set_report}
use Rattle.llrp_session.specs.ClientMachine.{Client, Ready, Pending, Taking, Tags, Note, Reply, take, take_in, take_ready, granted, awaited, take_response, replied, takes, unexpected, is_response_to, cleared, answered, listed, moved}
use Rattle.llrp_session.specs.Calls.Agreement.{taken_in, and_then}
use Rattle.llrp_session.proofs.States.{states-change, states-without, states-enter}

-- messages one after another
pub taken_in-append : (xs ys : List ReaderMessage) (c d : Client) → taken_in xs c ≡ Some d → taken_in (xs ++ ys) c ≡ taken_in ys d
taken_in-append [] ys c d e = ap (taken_in ys) cc
taken_in-append (m ∷ ms) ys c d e =
    elim (take c m.id (heard m.word)) as (λ r. and_then r (taken_in ms) ≡ Some d → and_then r (taken_in (ms ++ ys)) ≡ taken_in ys d) [
      | Err refusal ↦ λ h. cc
      | Ok k ↦ λ h. taken_in-append ms ys k.client d h
    ] e

pub one_more : (xs : List ReaderMessage) (m : ReaderMessage) (c d : Client) (k : Taking) → taken_in xs c ≡ Some d → take d m.id (heard m.word) ≡ Ok k
    → taken_in (xs ++ m ∷ []) c ≡ Some k.client
one_more xs m c d k e taken = taken_in-append xs (m ∷ []) c d e ∙ ap (λ r. and_then r (taken_in [])) taken

pub when_ready : (d : Client) (id : ℕ) (w : ReaderContent) → d.phase ≡ Ready → take d id (heard w) ≡ take_ready d id (heard w)
unfolding take
when_ready d id w ready = ap (λ ph. take_in ph d id (heard w)) ready

-- The client c0, once it took what the turn sent, is ready, has p pending and sees the reader's states.
pub record Follows (c0 : Client) (p : Option Pending) (t : Turn) : Type 0 where
  pub c : Client
  pub caught_up : taken_in t.sent c0 ≡ Some c
  pub view : c.view ≡ states t.reader.table
  pub pending : c.pending ≡ p
  pub phase : c.phase ≡ Ready
  pub up : t.reader.phase ≡ Up

-- ---- messages that leave the view

pub data IsQuiet : ReaderContent → Type 0 where
  report : (tags : List Tree) → IsQuiet (Report tags)
  keepalive : IsQuiet KeepaliveSent
  overflow : (now : ℕ) → IsQuiet (Overflowed now)

quietly_taken : (d : Client) (id : ℕ) (w : ReaderContent) → IsQuiet w → (k : Taking) × (take_ready d id (heard w) ≡ Ok k) × (k.client ≡ d)
quietly_taken d id w (report tags) = (record { taken = Tags tags; sent = []; client = d }, refl, refl)
quietly_taken d id w keepalive = (_, refl, refl)
quietly_taken d id w (overflow now) = (record { taken = Note; sent = []; client = d }, refl, refl)

pub follows-tell : (c0 : Client) (p : Option Pending) (w : ReaderContent) (t : Turn) → IsQuiet w → Follows c0 p t → Follows c0 p (tell w t)
follows-tell c0 p w t quiet f =
    let k = quietly_taken f.c t.reader.next_id w quiet in
    record {
      c = f.c;
      caught_up = one_more t.sent _ c0 f.c k.0 f.caught_up (when_ready f.c t.reader.next_id w f.phase ∙ k.1) ∙ ap Some k.2;
      view = f.view;
      pending = f.pending;
      phase = f.phase;
      up = f.up;
    }

-- a change of the reader that leaves its table and its phase
pub follows-with : (c0 : Client) (p : Option Pending) (t : Turn) (r : Reader) → states r.table ≡ states t.reader.table → r.phase ≡ t.reader.phase → Follows c0 p t → Follows c0 p (with_reader r t)
follows-with c0 p t r same phase f =
    record { c = f.c; caught_up = f.caught_up; view = f.view ∙ sym same; pending = f.pending; phase = f.phase; up = phase ∙ f.up }

pub follows-send_held : (c0 : Client) (p : Option Pending) (t : Turn) → Follows c0 p t → Follows c0 p (send_held t)
follows-send_held c0 p t f = follows-with c0 p _ _ refl refl (follows-tell c0 p (Report t.reader.held) t (report t.reader.held) f)

-- ---- starts and ends

pub follows-start : (c0 : Client) (p : Option Pending) (now id : ℕ) (t : Turn) → Follows c0 p t → Follows c0 p (start now id t)
follows-start c0 p now id t f =
    record {
      c = moved f.c (record { event = 0; id = id });
      caught_up = one_more t.sent _ c0 f.c _ f.caught_up (when_ready f.c t.reader.next_id (Started now id) f.phase);
      view = ap (change_view (setting id Active)) f.view ∙ sym (states-change (setting id Active) t.reader.table);
      pending = f.pending;
      phase = f.phase;
      up = f.up;
    }

follows-ended : (c0 : Client) (p : Option Pending) (now id : ℕ) (t : Turn) → Follows c0 p t → Follows c0 p (tell (Ended now id) (set_state id Inactive t))
follows-ended c0 p now id t f =
    record {
      c = moved f.c (record { event = 1; id = id });
      caught_up = one_more t.sent _ c0 f.c _ f.caught_up (when_ready f.c t.reader.next_id (Ended now id) f.phase);
      view = ap (change_view (setting id Inactive)) f.view ∙ sym (states-change (setting id Inactive) t.reader.table);
      pending = f.pending;
      phase = f.phase;
      up = f.up;
    }

pub follows-end : (c0 : Client) (p : Option Pending) (now : ℕ) (s : RoSpec) (t : Turn) → Follows c0 p t → Follows c0 p (end now s t)
unfolding end
follows-end c0 p now s t f =
    elim (sends_at_end t.reader s) as (λ b. Follows c0 p (tell (Ended now s.id) (set_state s.id Inactive (cond b (send_held t) t)))) [
      | true ↦ follows-ended c0 p now s.id (send_held t) (follows-send_held c0 p t f)
      | false ↦ follows-ended c0 p now s.id t f
    ]

pub follows-end_if : (c0 : Client) (p : Option Pending) (test : RoSpec → Bool) (now : ℕ) (o : Option RoSpec) (t : Turn) → Follows c0 p t → Follows c0 p (end_if test now o t)
follows-end_if c0 p test now None t f = f
follows-end_if c0 p test now (Some s) t f =
    elim (test s) as (λ b. Follows c0 p (cond b (end now s t) t)) [ true ↦ follows-end c0 p now s t f | false ↦ f ]

follows-start_if_idle : (c0 : Client) (p : Option Pending) (now : ℕ) (o : Option RoSpec) (idle : Bool) (t : Turn) → Follows c0 p t → Follows c0 p (start_if_idle now o idle t)
follows-start_if_idle c0 p now None idle t f = f
follows-start_if_idle c0 p now (Some s) true t f = follows-start c0 p now s.id t f
follows-start_if_idle c0 p now (Some s) false t f = f

-- ---- responses

-- each operation whose response is a status alone, but that of closing
abbrev pub LeavesOpen : Operation → Type 0
LeavesOpen Closing = ⊥
LeavesOpen Adding = Unit {0}
LeavesOpen Deleting = Unit {0}
LeavesOpen Starting = Unit {0}
LeavesOpen Stopping = Unit {0}
LeavesOpen Enabling = Unit {0}
LeavesOpen Disabling = Unit {0}
LeavesOpen Configuring = Unit {0}
LeavesOpen Listing = ⊥

take_response-open : (operation : Operation) (c : Client) (p : Pending) (status : ℕ) → LeavesOpen operation → take_response operation c p status [] ≡ replied c p status
take_response-open Adding c p status h = refl
take_response-open Deleting c p status h = refl
take_response-open Starting c p status h = refl
take_response-open Stopping c p status h = refl
take_response-open Enabling c p status h = refl
take_response-open Disabling c p status h = refl
take_response-open Configuring c p status h = refl
take_response-open Closing c p status h = absurd h
take_response-open Listing c p status h = absurd h

-- the request with this id
abbrev pub request_with : ℕ → Operation → ℕ → Pending
request_with id operation n = record { id = id; operation = operation; rospec = n }

is_response_to-same : (id : ℕ) (operation : Operation) (n : ℕ) → is_response_to (request_with id operation n) id operation ≡ true
is_response_to-same id operation n = rw (eq-eqb id id refl) (eq-eqb _ _ refl)

-- the client takes the response that it waits for
pub awaited_response : (d : Client) (id : ℕ) (operation : Operation) (n status : ℕ) → d.phase ≡ Ready → d.pending ≡ Some (request_with id operation n)
    → take d id (heard (Response operation status)) ≡ take_response operation d (request_with id operation n) status []
awaited_response d id operation n status ready waiting =
    when_ready d id (Response operation status) ready
    ∙ ap (λ p. answered p d id operation status []) waiting
    ∙ ap (λ b. cond b (take_response operation d (request_with id operation n) status []) unexpected) (is_response_to-same id operation n)

pub follows-granted : (c0 : Client) (v id : ℕ) (operation : Operation) (n : ℕ) (r : Reader) (t : Turn)
    → LeavesOpen operation → states r.table ≡ granted operation n (states t.reader.table) → r.phase ≡ Up
    → Follows c0 (Some (request_with id operation n)) t → Follows c0 None (reply v id (Response operation 0) (with_reader r t))
follows-granted c0 v id operation n r t open_still same up f =
    let p : Pending = request_with id operation n in
    record {
      c = record f.c { pending = None; view = granted operation n f.c.view };
      caught_up = one_more t.sent _ c0 f.c _ f.caught_up (awaited_response f.c id operation n 0 f.phase f.pending ∙ take_response-open operation f.c p 0 open_still);
      view = ap (granted operation n) f.view ∙ sym same;
      pending = refl;
      phase = f.phase;
      up = up;
    }

pub follows-refused : (c0 : Client) (v id : ℕ) (operation : Operation) (n status : ℕ) (t : Turn) → LeavesOpen operation → (status == 0) ≡ false
    → Follows c0 (Some (request_with id operation n)) t → Follows c0 None (reply v id (Response operation status) t)
follows-refused c0 v id operation n status t open_still bad f =
    let p : Pending = request_with id operation n in
    let left : replied f.c p status ≡ takes (Reply status) (cleared f.c) =
    ap (λ b. takes (Reply status) (cond b (record f.c { pending = None; view = granted operation n f.c.view }) (cleared f.c))) bad in
    record {
      c = cleared f.c;
      caught_up = one_more t.sent _ c0 f.c _ f.caught_up (awaited_response f.c id operation n status f.phase f.pending ∙ take_response-open operation f.c p status open_still ∙ left);
      view = f.view;
      pending = refl;
      phase = f.phase;
      up = f.up;
    }

-- the client takes the table that it waits for
pub awaited_table : (d : Client) (id : ℕ) (table : List Entry) → d.phase ≡ Ready → d.pending ≡ Some (request_with id Listing 0)
    → take d id (heard (Listed table)) ≡ listed d 0 (listing table)
awaited_table d id table ready waiting =
    when_ready d id (Listed table) ready
    ∙ ap (λ p. answered p d id Listing 0 (listing table)) waiting
    ∙ ap (λ b. cond b (listed d 0 (listing table)) unexpected) (is_response_to-same id Listing 0)

follows-listed : (c0 : Client) (v id : ℕ) (t : Turn) → Follows c0 (Some (request_with id Listing 0)) t → Follows c0 None (reply v id (Listed t.reader.table) t)
follows-listed c0 v id t f =
    record {
      c = cleared f.c;
      caught_up = one_more t.sent _ c0 f.c _ f.caught_up (awaited_table f.c id t.reader.table f.phase f.pending);
      view = f.view;
      pending = refl;
      phase = f.phase;
      up = f.up;
    }

pub is_zero : (n : ℕ) → (n == 0) ≡ true → n ≡ 0
is_zero n h = grind (arith, nat_tests)

-- ---- settings leave the table and the phase

pub record SameTable (r old : Reader) : Type 0 where
  pub table : r.table ≡ old.table
  pub phase : r.phase ≡ old.phase
  pub held : r.held ≡ old.held
  pub limit : r.limit ≡ old.limit

same-set_keepalive : (now : ℕ) (o : Option KeepaliveSpec) (r : Reader) → SameTable (set_keepalive now o r) r
same-set_keepalive now None r = record { table = refl; phase = refl; held = refl; limit = refl }
same-set_keepalive now (Some k) r = record { table = refl; phase = refl; held = refl; limit = refl }

same-set_report : (o : Option ReportSpec) (r : Reader) → SameTable (set_report o r) r
same-set_report None r = record { table = refl; phase = refl; held = refl; limit = refl }
same-set_report (Some p) r = record { table = refl; phase = refl; held = refl; limit = refl }

same-reset_if : (b : Bool) (r : Reader) → SameTable (reset_if b r) r
same-reset_if true r = record { table = refl; phase = refl; held = refl; limit = refl }
same-reset_if false r = record { table = refl; phase = refl; held = refl; limit = refl }

pub same-configured : (now : ℕ) (k : Config) (r : Reader) → SameTable (configured now k r) r
unfolding configured
same-configured now k r =
    let a = same-reset_if k.reset r in
    let b = same-set_keepalive now k.keepalive (reset_if k.reset r) in
    let d = same-set_report k.report (set_keepalive now k.keepalive (reset_if k.reset r)) in
    record { table = d.table ∙ b.table ∙ a.table; phase = d.phase ∙ b.phase ∙ a.phase; held = d.held ∙ b.held ∙ a.held; limit = d.limit ∙ b.limit ∙ a.limit }

-- ---- a request that does not close

abbrev pub ClosesNot : Command → Type 0
ClosesNot Close = ⊥
ClosesNot _ = Unit {0}

pub follows-serve : (now v id : ℕ) (k : Command) (c0 : Client) (t : Turn) → ClosesNot k → Follows c0 (awaited id k) t → Follows c0 None (serve now v id (requested k) t)
unfolding serve
follows-serve now v id (Add spec) c0 t h f =
    let s = rospec_of spec in
    let status = add_status t.reader.limit t.reader.table s in
    elim (status == 0) as (λ b. (status == 0) ≡ b → Follows c0 None (reply v id (Response Adding status) (cond b (with_table (enter s t.reader.table) t) t))) [
      | true ↦ λ e. subst (λ (n : ℕ). Follows c0 None (reply v id (Response Adding n) (with_table (enter s t.reader.table) t))) (sym (is_zero status e))
          (follows-granted c0 v id Adding s.id (record t.reader { table = enter s t.reader.table }) t tt (states-enter s t.reader.table) f.up f)
      | false ↦ λ e. follows-refused c0 v id Adding s.id status t tt e f
    ] refl
follows-serve now v id (Delete n) c0 t h f =
    let ended = end_if (λ s. names n s.id) now (active t.reader.table) t in
    let g : Follows c0 (awaited id (Delete n)) ended = follows-end_if c0 _ (λ s. names n s.id) now (active t.reader.table) t f in
    elim (is_known n t.reader.table) as (λ b. Follows c0 None (cond b (reply v id (Response Deleting 0) (with_table (without n ended.reader.table) ended)) (reply v id (Response Deleting 101) t))) [
      | true ↦ follows-granted c0 v id Deleting n (record ended.reader { table = without n ended.reader.table }) ended tt (states-without n ended.reader.table) g.up g
      | false ↦ follows-refused c0 v id Deleting n 101 t tt refl f
    ]
follows-serve now v id (Enable n) c0 t h f =
    elim (is_known n t.reader.table) as (λ b. Follows c0 None (cond b (start_if_idle now (first_immediate n t.reader.table) (is_none (active t.reader.table)) (reply v id (Response Enabling 0) (with_table (change (enabling n) t.reader.table) t))) (reply v id (Response Enabling 101) t))) [
      | true ↦ follows-start_if_idle c0 None now (first_immediate n t.reader.table) (is_none (active t.reader.table)) _
          (follows-granted c0 v id Enabling n (record t.reader { table = change (enabling n) t.reader.table }) t tt (states-change (enabling n) t.reader.table) f.up f)
      | false ↦ follows-refused c0 v id Enabling n 101 t tt refl f
    ]
follows-serve now v id (Disable n) c0 t h f =
    let ended = end_if (λ s. names n s.id) now (active t.reader.table) t in
    let g : Follows c0 (awaited id (Disable n)) ended = follows-end_if c0 _ (λ s. names n s.id) now (active t.reader.table) t f in
    elim (is_known n t.reader.table) as (λ b. Follows c0 None (cond b (reply v id (Response Disabling 0) (with_table (change (disabling n) ended.reader.table) ended)) (reply v id (Response Disabling 101) t))) [
      | true ↦ follows-granted c0 v id Disabling n (record ended.reader { table = change (disabling n) ended.reader.table }) ended tt (states-change (disabling n) ended.reader.table) g.up g
      | false ↦ follows-refused c0 v id Disabling n 101 t tt refl f
    ]
follows-serve now v id (Start n) c0 t h f =
    elim (has_state is_inactive (state_of n t.reader.table) && is_none (active t.reader.table)) as (λ b. Follows c0 None (cond b (start now n (reply v id (Response Starting 0) t)) (reply v id (Response Starting 101) t))) [
      | true ↦ follows-start c0 None now n (reply v id (Response Starting 0) t) (follows-granted c0 v id Starting n t.reader t tt refl f.up f)
      | false ↦ follows-refused c0 v id Starting n 101 t tt refl f
    ]
follows-serve now v id (Stop n) c0 t h f =
    let ended = end_if (λ s. s.id == n) now (active t.reader.table) t in
    let g : Follows c0 (awaited id (Stop n)) ended = follows-end_if c0 _ (λ s. s.id == n) now (active t.reader.table) t f in
    elim (has_state is_active (state_of n t.reader.table)) as (λ b. Follows c0 None (cond b (reply v id (Response Stopping 0) ended) (reply v id (Response Stopping 101) t))) [
      | true ↦ follows-granted c0 v id Stopping n ended.reader ended tt refl g.up g
      | false ↦ follows-refused c0 v id Stopping n 101 t tt refl f
    ]
follows-serve now v id GetRospecs c0 t h f = follows-listed c0 v id t f
follows-serve now v id (SetKeepalive ms) c0 t h f =
    let k : Config = record { reset = false; keepalive = Some (keepalive_each ms); report = None } in
    let same = same-configured now k t.reader in
    elim (is_bad_report k.report || is_bad_keepalive k.keepalive) as (λ b. Follows c0 None (cond b (reply v id (Response Configuring 101) t) (reply v id (Response Configuring 0) (with_reader (configured now k t.reader) t)))) [
      | true ↦ follows-refused c0 v id Configuring 0 101 t tt refl f
      | false ↦ follows-granted c0 v id Configuring 0 (configured now k t.reader) t tt (ap states same.table) (same.phase ∙ f.up) f
    ]
follows-serve now v id GetReport c0 t h f = follows-send_held c0 None t f
follows-serve now v id Close c0 t h f = absurd h

-- ---- a sighting and a tick

pub follows-see : (now : ℕ) (g : Sighting) (o : Option RoSpec) (c0 : Client) (p : Option Pending) (t : Turn) → Follows c0 p t → Follows c0 p (see now g o t)
unfolding see
follows-see now g None c0 p t f = f
follows-see now g (Some s) c0 p t f =
    let report_spec = effective_report t.reader s in
    let more = hold (tag_report now s report_spec.selector g) t in
    let m : Follows c0 p more = follows-with c0 p t more.reader refl refl f in
    elim (is_full t.reader) as (λ b. Follows c0 p (cond b (tell (Overflowed now) t) (send_if_enough report_spec more))) [
      | true ↦ follows-tell c0 p (Overflowed now) t (overflow now) f
      | false ↦ elim (is_report_due report_spec (length more.reader.held)) as (λ b. Follows c0 p (cond b (send_held more) more)) [ true ↦ follows-send_held c0 p more m | false ↦ m ]
    ]

follows-keep_alive : (now : ℕ) (o : Option Keepalive) (c0 : Client) (p : Option Pending) (t : Turn) → Follows c0 p t → Follows c0 p (keep_alive now o t)
follows-keep_alive now None c0 p t f = f
follows-keep_alive now (Some k) c0 p t f =
    let told = tell KeepaliveSent t in
    elim (nat_le k.due now) as (λ b. Follows c0 p (cond b (with_reader (record told.reader { keepalive = Some (keepalive_from now k.period) }) told) t)) [
      | true ↦ follows-with c0 p told _ refl refl (follows-tell c0 p KeepaliveSent t keepalive f)
      | false ↦ f
    ]

pub follows-tick : (now : ℕ) (c0 : Client) (p : Option Pending) (t : Turn) → Follows c0 p t → Follows c0 p (tick now t)
unfolding tick
follows-tick now c0 p t f =
    let ended = end_if (has_run_out now t.reader.started) now (active t.reader.table) t in
    follows-keep_alive now ended.reader.keepalive c0 p ended (follows-end_if c0 p (has_run_out now t.reader.started) now (active t.reader.table) t f)
