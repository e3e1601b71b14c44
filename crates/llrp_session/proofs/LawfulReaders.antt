-- A reader whose numbers fit says what fits, and stays so.
use Rattle.std.proofs.Common.{◌≡◌, ◌∙◌, subst, ℕ, ◌+◌, ◌^◌, ◌<◌, ◌≤◌, ◌⊎◌, inl, refl, Bool, true, false, cond, List, [], ◌∷◌, ◌++◌, length, arith, length-append}
use Rattle.std.specs.Prelude.{◌&&◌, ◌||◌, ◌==◌, nat_le, nat_lt, Option, None, Some, is_none, Result, IfOk}
use Rattle.std.proofs.lemmas.Bool.Decides.{nat_tests}
use Rattle.llrp_tree.specs.Tree.{Tree}
use Rattle.llrp_tree.specs.declared.fault.Reason.{Reason}
use Rattle.llrp_tree.specs.declared.fault.Reason.TheVariants.{Reserved, Version, MessageType, MessageLength, Short, Value, Count, Utf8, ParamType, Misplaced, TooMany, TooDeep, ParamLength, Extra, Missing}
use Rattle.llrp_session.specs.RoSpec.{RoSpec, ReportSpec, ContentSelector, rospec_of}
use Rattle.llrp_session.specs.Table.{RoState, Entry, Disabled, Inactive, Active, change, without, enter, names, setting, enabling, disabling, active, first_immediate, is_active, is_inactive, is_disabled, state_of, octets_of}
use Rattle.llrp_session.specs.TagReport.{Sighting, tag_report}
use Rattle.llrp_session.specs.Contents.{ReaderContent, Response, Listed, Error, Report, KeepaliveSent, Accepted, Started, Ended, Overflowed, ReaderMessage, Adding, Deleting, Starting, Stopping, Enabling, Disabling, Configuring, Closing, Config, KeepaliveSpec, Request, AddRoSpec, DeleteRoSpec, StartRoSpec, StopRoSpec, EnableRoSpec, DisableRoSpec, GetRoSpecs, SetReaderConfig, GetReports, CloseConnection, NoRequest, Unsupported}
use Rattle.llrp_session.specs.ReaderMachine.{Reader, Turn, Keepalive, ReaderPhase, Waiting, Up, Down, tell, reply, with_reader, with_table, send_held, set_state, start, end, end_if, start_if_idle, serve, see, tick, keep_alive, keepalive_from, configured, turn_begun, is_known, add_status, has_bad_field, is_too_long, effective_report, sends_at_end, has_state, is_bad_report, is_bad_keepalive, hold, send_if_enough, is_report_due, has_run_out, is_full, counting, lists_antenna, following, fault_status, set_keepalive, set_report, reset_if, ReaderEvent, Connect, Take, TakeBad, Seen, Tick, new_reader, next, next_in}
use Rattle.llrp_session.specs.Refusal.{Refusal}
use Rattle.llrp_session.proofs.ToldOfLawful.{told_of_lawful}
use Rattle.llrp_session.proofs.ReportLemmas.{report_of_sighting}
use Rattle.llrp_session.specs.Calls.LawfulWords.{IsReport, AreReports, IsToldOf, AreToldOf, FitsLimit, IsLawfulReaderWord, IsLawfulReaderMessage}
use Rattle.llrp_session.specs.Calls.LawfulStates.{IsLawfulReader, IsLawfulRequest, IsLawfulReaderEvent, AreLawfulReaderMessages}
use Rattle.llrp_session.specs.MessageWorld.{IsLawfulSighting}
use Rattle.llrp_session.proofs.TableChanges.{octets-change, octets-without, octets-enter}
use Rattle.llrp_session.proofs.Adding.{added-fits}
use Rattle.llrp_session.proofs.Following.{same-configured, is_zero}

-- ---- lists

reports-append : (xs : List Tree) (t : Tree) → AreReports xs → IsReport t → AreReports (xs ++ t ∷ [])
reports-append [] t h g = (g, tt)
reports-append (x ∷ xs) t h g = (h.0, reports-append xs t h.1 g)

messages-append : (limit : ℕ) (xs : List ReaderMessage) (m : ReaderMessage) → AreLawfulReaderMessages limit xs → IsLawfulReaderMessage limit m → AreLawfulReaderMessages limit (xs ++ m ∷ [])
messages-append limit [] m h g = (g, tt)
messages-append limit (x ∷ xs) m h g = (h.0, messages-append limit xs m h.1 g)

-- ---- tables

pub told-change : (f : ℕ → RoState → RoState) (t : List Entry) → AreToldOf t → AreToldOf (change f t)
unfolding change
told-change f [] h = tt
told-change f (e ∷ es) h = (h.0, told-change f es h.1)

told-without : (n : ℕ) (t : List Entry) → AreToldOf t → AreToldOf (without n t)
unfolding without
told-without n [] h = tt
told-without n (e ∷ es) h = elim (names n e.spec.id) as (λ b. AreToldOf (cond b (without n es) (e ∷ without n es))) [ true ↦ told-without n es h.1 | false ↦ (h.0, told-without n es h.1) ]

told-enter : (s : RoSpec) (t : List Entry) → IsToldOf s → AreToldOf t → AreToldOf (enter s t)
unfolding enter
told-enter s [] g h = (g, tt)
told-enter s (e ∷ es) g h =
    let new : Entry = record { spec = s; state = Disabled } in
    elim (s.id == e.spec.id) as (λ a. AreToldOf (cond a (new ∷ es) (cond (nat_lt s.id e.spec.id) (new ∷ e ∷ es) (e ∷ enter s es)))) [
      | true ↦ (g, h.1)
      | false ↦ elim (nat_lt s.id e.spec.id) as (λ b. AreToldOf (cond b (new ∷ e ∷ es) (e ∷ enter s es))) [ true ↦ (g, h) | false ↦ (h.0, told-enter s es g h.1) ]
    ]

pub fits-change : (limit : ℕ) (f : ℕ → RoState → RoState) (t : List Entry) → FitsLimit limit t → FitsLimit limit (change f t)
fits-change limit f t h = let e = octets-change f t in omega (arith, e, h)

fits-without : (limit n : ℕ) (t : List Entry) → FitsLimit limit t → FitsLimit limit (without n t)
fits-without limit n t h = let e = octets-without n t in omega (arith, e, h)

fits-enter : (limit : ℕ) (s : RoSpec) (t : List Entry) → add_status limit t s ≡ 0 → FitsLimit limit t → FitsLimit limit (enter s t)
fits-enter limit s t status h = let e = octets-enter s t in let g = added-fits limit t s status in omega (arith, e, g, h)

abbrev IfToldOf : Option RoSpec → Type 0
IfToldOf None = Unit {0}
IfToldOf (Some s) = IsToldOf s

told-active : (t : List Entry) → AreToldOf t → IfToldOf (active t)
unfolding active
told-active [] h = tt
told-active (e ∷ es) h = elim (is_active e.state) as (λ b. IfToldOf (cond b (Some e.spec) (active es))) [ true ↦ h.0 | false ↦ told-active es h.1 ]

told-first_immediate : (n : ℕ) (t : List Entry) → AreToldOf t → IfToldOf (first_immediate n t)
unfolding first_immediate
told-first_immediate n [] h = tt
told-first_immediate n (e ∷ es) h =
    elim (names n e.spec.id && (is_disabled e.state && (e.spec.start_trigger == 1))) as (λ b. IfToldOf (cond b (Some e.spec) (first_immediate n es))) [ true ↦ h.0 | false ↦ told-first_immediate n es h.1 ]

told-counting : (g : Sighting) (o : Option RoSpec) → IfToldOf o → IfToldOf (counting g o)
told-counting g None h = tt
told-counting g (Some s) h = elim (lists_antenna g.antenna s.antennas) as (λ b. IfToldOf (cond b (Some s) None)) [ true ↦ h | false ↦ tt ]

-- ---- turns

pub record IsLawfulTurn (limit : ℕ) (t : Turn) : Type 0 where
  pub sent : AreLawfulReaderMessages limit t.sent
  pub reader : IsLawfulReader t.reader
  pub same : t.reader.limit ≡ limit

following-fits : (id : ℕ) → id < 2 ^ 32 → following id < 2 ^ 32
following-fits id h = elim (id == 4294967295) as (λ b. (id == 4294967295) ≡ b → cond b 1 (id + 1) < 2 ^ 32) [ true ↦ λ e. omega arith | false ↦ λ e. below_top id h e ] refl
  where
    below_top : (id : ℕ) → id < 2 ^ 32 → (id == 4294967295) ≡ false → id + 1 < 2 ^ 32
    below_top id h e = grind (arith, nat_tests)

lawful-tell : (limit : ℕ) (w : ReaderContent) (t : Turn) → IsLawfulReaderWord limit w → IsLawfulTurn limit t → IsLawfulTurn limit (tell w t)
lawful-tell limit w t l h =
    let r = h.reader in
    record {
      sent = messages-append limit t.sent _ h.sent (record { version = r.version; id = r.next_id; word = l });
      reader = record { next_id = following-fits t.reader.next_id r.next_id; version = r.version; held = r.held; few = r.few; table = r.table; fits = r.fits };
      same = h.same;
    }

lawful-reply : (limit : ℕ) (v id : ℕ) (w : ReaderContent) (t : Turn) → (v ≡ 1) ⊎ (v ≡ 2) → id < 2 ^ 32 → IsLawfulReaderWord limit w → IsLawfulTurn limit t → IsLawfulTurn limit (reply v id w t)
lawful-reply limit v id w t version fits l h = record { sent = messages-append limit t.sent _ h.sent (record { version = version; id = fits; word = l }); reader = h.reader; same = h.same }

lawful-with_table : (limit : ℕ) (table : List Entry) (t : Turn) → AreToldOf table → FitsLimit t.reader.limit table → IsLawfulTurn limit t → IsLawfulTurn limit (with_table table t)
lawful-with_table limit table t told fits h = let r = h.reader in record { sent = h.sent; reader = record { next_id = r.next_id; version = r.version; held = r.held; few = r.few; table = told; fits = fits }; same = h.same }

lawful-send_held : (limit : ℕ) (t : Turn) → IsLawfulTurn limit t → IsLawfulTurn limit (send_held t)
lawful-send_held limit t h =
    let told = lawful-tell limit (Report t.reader.held) t (h.reader.held, h.reader.few) h in
    let r = told.reader in
    record { sent = told.sent; reader = record { next_id = r.next_id; version = r.version; held = tt; few = omega arith; table = r.table; fits = r.fits }; same = told.same }

lawful-start : (limit : ℕ) (now id : ℕ) (t : Turn) → now < 2 ^ 64 → id < 2 ^ 32 → IsLawfulTurn limit t → IsLawfulTurn limit (start now id t)
lawful-start limit now id t moment fits h =
    let active_now = lawful-with_table limit (change (setting id Active) t.reader.table) t (told-change (setting id Active) t.reader.table h.reader.table) (fits-change t.reader.limit (setting id Active) t.reader.table h.reader.fits) h in
    let r = active_now.reader in
    lawful-tell limit (Started now id) _ (moment, fits) (record { sent = h.sent; reader = record { next_id = r.next_id; version = r.version; held = r.held; few = r.few; table = r.table; fits = r.fits }; same = h.same })

lawful-ended : (limit : ℕ) (now id : ℕ) (t : Turn) → now < 2 ^ 64 → id < 2 ^ 32 → IsLawfulTurn limit t → IsLawfulTurn limit (tell (Ended now id) (set_state id Inactive t))
lawful-ended limit now id t moment fits h = lawful-tell limit (Ended now id) _ (moment, fits) (lawful-with_table limit _ t (told-change (setting id Inactive) t.reader.table h.reader.table) (fits-change t.reader.limit (setting id Inactive) t.reader.table h.reader.fits) h)

lawful-end : (limit : ℕ) (now : ℕ) (s : RoSpec) (t : Turn) → now < 2 ^ 64 → IsToldOf s → IsLawfulTurn limit t → IsLawfulTurn limit (end now s t)
unfolding end
lawful-end limit now s t moment told h =
    elim (sends_at_end t.reader s) as (λ b. IsLawfulTurn limit (tell (Ended now s.id) (set_state s.id Inactive (cond b (send_held t) t)))) [
      | true ↦ lawful-ended limit now s.id (send_held t) moment told.id (lawful-send_held limit t h)
      | false ↦ lawful-ended limit now s.id t moment told.id h
    ]

lawful-end_if : (limit : ℕ) (test : RoSpec → Bool) (now : ℕ) (o : Option RoSpec) (t : Turn) → now < 2 ^ 64 → IfToldOf o → IsLawfulTurn limit t → IsLawfulTurn limit (end_if test now o t)
lawful-end_if limit test now None t moment told h = h
lawful-end_if limit test now (Some s) t moment told h = elim (test s) as (λ b. IsLawfulTurn limit (cond b (end now s t) t)) [ true ↦ lawful-end limit now s t moment told h | false ↦ h ]

lawful-start_if_idle : (limit : ℕ) (now : ℕ) (o : Option RoSpec) (idle : Bool) (t : Turn) → now < 2 ^ 64 → IfToldOf o → IsLawfulTurn limit t → IsLawfulTurn limit (start_if_idle now o idle t)
lawful-start_if_idle limit now None idle t moment told h = h
lawful-start_if_idle limit now (Some s) true t moment told h = lawful-start limit now s.id t moment told.id h
lawful-start_if_idle limit now (Some s) false t moment told h = h

add_status-fits : (limit : ℕ) (table : List Entry) (s : RoSpec) → add_status limit table s < 2 ^ 16
add_status-fits limit table s =
    elim (has_bad_field table s) as (λ b. cond b 101 (cond (is_too_long limit table s) 100 0) < 2 ^ 16) [
      | true ↦ omega arith
      | false ↦ elim (is_too_long limit table s) as (λ b. cond b 100 0 < 2 ^ 16) [ true ↦ omega arith | false ↦ omega arith ]
    ]

fault_status-fits : (reason : Reason) → fault_status reason < 2 ^ 16
fault_status-fits Version = omega arith
fault_status-fits MessageType = omega arith
fault_status-fits Reserved = omega arith
fault_status-fits Value = omega arith
fault_status-fits Count = omega arith
fault_status-fits Utf8 = omega arith
fault_status-fits MessageLength = omega arith
fault_status-fits Short = omega arith
fault_status-fits ParamType = omega arith
fault_status-fits Misplaced = omega arith
fault_status-fits TooMany = omega arith
fault_status-fits TooDeep = omega arith
fault_status-fits ParamLength = omega arith
fault_status-fits Extra = omega arith
fault_status-fits Missing = omega arith

-- settings leave what is reported
lawful-set_keepalive : (now : ℕ) (o : Option KeepaliveSpec) (r : Reader) → IsLawfulReader r → IsLawfulReader (set_keepalive now o r)
lawful-set_keepalive now None r h = h
lawful-set_keepalive now (Some k) r h = record { next_id = h.next_id; version = h.version; held = h.held; few = h.few; table = h.table; fits = h.fits }

lawful-set_report : (o : Option ReportSpec) (r : Reader) → IsLawfulReader r → IsLawfulReader (set_report o r)
lawful-set_report None r h = h
lawful-set_report (Some p) r h = record { next_id = h.next_id; version = h.version; held = h.held; few = h.few; table = h.table; fits = h.fits }

lawful-reset_if : (b : Bool) (r : Reader) → IsLawfulReader r → IsLawfulReader (reset_if b r)
lawful-reset_if true r h = record { next_id = h.next_id; version = h.version; held = h.held; few = h.few; table = h.table; fits = h.fits }
lawful-reset_if false r h = h

lawful-configured : (now : ℕ) (k : Config) (r : Reader) → IsLawfulReader r → IsLawfulReader (configured now k r)
unfolding configured
lawful-configured now k r h = lawful-set_report k.report _ (lawful-set_keepalive now k.keepalive _ (lawful-reset_if k.reset r h))

-- ---- requests

-- what is read in a lawful ROSpec may be written
abbrev RoSpecsAreTold : Type 0
RoSpecsAreTold = (rospec : Tree) → IsLawfulRequest (AddRoSpec rospec) → IsToldOf (rospec_of rospec)

lawful-serve : (limit : ℕ) → RoSpecsAreTold → (now v id : ℕ) (q : Request) (t : Turn) → now < 2 ^ 64 → (v ≡ 1) ⊎ (v ≡ 2) → id < 2 ^ 32 → IsLawfulRequest q → IsLawfulTurn limit t → IsLawfulTurn limit (serve now v id q t)
unfolding serve
lawful-serve limit told now v id (AddRoSpec spec) t moment version fits l h =
    let p = rospec_of spec in
    let status = add_status t.reader.limit t.reader.table p in
    let small = add_status-fits t.reader.limit t.reader.table p in
    elim (status == 0) as (λ b. (status == 0) ≡ b → IsLawfulTurn limit (reply v id (Response Adding status) (cond b (with_table (enter p t.reader.table) t) t))) [
      | true ↦ λ e. lawful-reply limit v id (Response Adding status) _ version fits small
          (lawful-with_table limit _ t (told-enter p t.reader.table (told spec l) h.reader.table) (fits-enter t.reader.limit p t.reader.table (is_zero status e) h.reader.fits) h)
      | false ↦ λ e. lawful-reply limit v id (Response Adding status) t version fits small h
    ] refl
lawful-serve limit told now v id (DeleteRoSpec n) t moment version fits l h =
    let ended = end_if (λ s. names n s.id) now (active t.reader.table) t in
    let g : IsLawfulTurn limit ended = lawful-end_if limit (λ s. names n s.id) now (active t.reader.table) t moment (told-active t.reader.table h.reader.table) h in
    elim (is_known n t.reader.table) as (λ b. IsLawfulTurn limit (cond b (reply v id (Response Deleting 0) (with_table (without n ended.reader.table) ended)) (reply v id (Response Deleting 101) t))) [
      | true ↦ lawful-reply limit v id (Response Deleting 0) _ version fits (omega arith) (lawful-with_table limit _ ended (told-without n ended.reader.table g.reader.table) (fits-without ended.reader.limit n ended.reader.table g.reader.fits) g)
      | false ↦ lawful-reply limit v id (Response Deleting 101) t version fits (omega arith) h
    ]
lawful-serve limit told now v id (DisableRoSpec n) t moment version fits l h =
    let ended = end_if (λ s. names n s.id) now (active t.reader.table) t in
    let g : IsLawfulTurn limit ended = lawful-end_if limit (λ s. names n s.id) now (active t.reader.table) t moment (told-active t.reader.table h.reader.table) h in
    elim (is_known n t.reader.table) as (λ b. IsLawfulTurn limit (cond b (reply v id (Response Disabling 0) (with_table (change (disabling n) ended.reader.table) ended)) (reply v id (Response Disabling 101) t))) [
      | true ↦ lawful-reply limit v id (Response Disabling 0) _ version fits (omega arith) (lawful-with_table limit _ ended (told-change (disabling n) ended.reader.table g.reader.table) (fits-change ended.reader.limit (disabling n) ended.reader.table g.reader.fits) g)
      | false ↦ lawful-reply limit v id (Response Disabling 101) t version fits (omega arith) h
    ]
lawful-serve limit told now v id (EnableRoSpec n) t moment version fits l h =
    let enabled = reply v id (Response Enabling 0) (with_table (change (enabling n) t.reader.table) t) in
    let g : IsLawfulTurn limit enabled = lawful-reply limit v id (Response Enabling 0) _ version fits (omega arith) (lawful-with_table limit _ t (told-change (enabling n) t.reader.table h.reader.table) (fits-change t.reader.limit (enabling n) t.reader.table h.reader.fits) h) in
    elim (is_known n t.reader.table) as (λ b. IsLawfulTurn limit (cond b (start_if_idle now (first_immediate n t.reader.table) (is_none (active t.reader.table)) enabled) (reply v id (Response Enabling 101) t))) [
      | true ↦ lawful-start_if_idle limit now (first_immediate n t.reader.table) (is_none (active t.reader.table)) enabled moment (told-first_immediate n t.reader.table h.reader.table) g
      | false ↦ lawful-reply limit v id (Response Enabling 101) t version fits (omega arith) h
    ]
lawful-serve limit told now v id (StartRoSpec n) t moment version fits l h =
    elim (has_state is_inactive (state_of n t.reader.table) && is_none (active t.reader.table)) as (λ b. IsLawfulTurn limit (cond b (start now n (reply v id (Response Starting 0) t)) (reply v id (Response Starting 101) t))) [
      | true ↦ lawful-start limit now n _ moment l (lawful-reply limit v id (Response Starting 0) t version fits (omega arith) h)
      | false ↦ lawful-reply limit v id (Response Starting 101) t version fits (omega arith) h
    ]
lawful-serve limit told now v id (StopRoSpec n) t moment version fits l h =
    let ended = end_if (λ s. s.id == n) now (active t.reader.table) t in
    let g : IsLawfulTurn limit ended = lawful-end_if limit (λ s. s.id == n) now (active t.reader.table) t moment (told-active t.reader.table h.reader.table) h in
    elim (has_state is_active (state_of n t.reader.table)) as (λ b. IsLawfulTurn limit (cond b (reply v id (Response Stopping 0) ended) (reply v id (Response Stopping 101) t))) [
      | true ↦ lawful-reply limit v id (Response Stopping 0) ended version fits (omega arith) g
      | false ↦ lawful-reply limit v id (Response Stopping 101) t version fits (omega arith) h
    ]
lawful-serve limit told now v id GetRoSpecs t moment version fits l h =
    lawful-reply limit v id (Listed t.reader.table) t version fits (h.reader.table, subst (λ (n : ℕ). FitsLimit n t.reader.table) h.same h.reader.fits) h
lawful-serve limit told now v id (SetReaderConfig k) t moment version fits l h =
    elim (is_bad_report k.report || is_bad_keepalive k.keepalive) as (λ b. IsLawfulTurn limit (cond b (reply v id (Response Configuring 101) t) (reply v id (Response Configuring 0) (with_reader (configured now k t.reader) t)))) [
      | true ↦ lawful-reply limit v id (Response Configuring 101) t version fits (omega arith) h
      | false ↦ lawful-reply limit v id (Response Configuring 0) _ version fits (omega arith) (record { sent = h.sent; reader = lawful-configured now k t.reader h.reader; same = (same-configured now k t.reader).limit ∙ h.same })
    ]
lawful-serve limit told now v id GetReports t moment version fits l h = lawful-send_held limit t h
lawful-serve limit told now v id CloseConnection t moment version fits l h =
    let r = h.reader in
    lawful-reply limit v id (Response Closing 0) _ version fits (omega arith) (record { sent = h.sent; reader = record { next_id = r.next_id; version = r.version; held = r.held; few = r.few; table = r.table; fits = r.fits }; same = h.same })
lawful-serve limit told now v id NoRequest t moment version fits l h = h
lawful-serve limit told now v id Unsupported t moment version fits l h = lawful-reply limit v id (Error 109) t version fits (omega arith) h

-- ---- sightings and time

-- the report of a sighting may be sent
abbrev SightingsAreReports : Type 0
SightingsAreReports = (now : ℕ) (s : RoSpec) (c : ContentSelector) (g : Sighting) → now < 2 ^ 64 → IsToldOf s → IsLawfulSighting g → IsReport (tag_report now s c g)

room : (n : ℕ) → nat_le 64 n ≡ false → n + 1 ≤ 64
room n h = grind (arith, nat_tests)

lawful-see : (limit : ℕ) → SightingsAreReports → (now : ℕ) (g : Sighting) (o : Option RoSpec) (t : Turn) → now < 2 ^ 64 → IsLawfulSighting g → IfToldOf o → IsLawfulTurn limit t → IsLawfulTurn limit (see now g o t)
unfolding see
lawful-see limit reports now g None t moment l told h = h
lawful-see limit reports now g (Some s) t moment l told h =
    let report_spec = effective_report t.reader s in
    let tag = tag_report now s report_spec.selector g in
    let more = hold tag t in
    let r = h.reader in
    elim (is_full t.reader) as (λ b. is_full t.reader ≡ b → IsLawfulTurn limit (cond b (tell (Overflowed now) t) (send_if_enough report_spec more))) [
      | true ↦ λ e. lawful-tell limit (Overflowed now) t moment h
      | false ↦ λ e.
          let held : IsLawfulTurn limit more =
          record {
            sent = h.sent;
            reader = record {
              next_id = r.next_id;
              version = r.version;
              held = reports-append t.reader.held tag r.held (reports now s report_spec.selector g moment told l);
              few = let one = room (length t.reader.held) e in omega (arith, length-append t.reader.held (tag ∷ []));
              table = r.table;
              fits = r.fits;
            };
            same = h.same;
          } in
          elim (is_report_due report_spec (length more.reader.held)) as (λ b. IsLawfulTurn limit (cond b (send_held more) more)) [ true ↦ lawful-send_held limit more held | false ↦ held ]
    ] refl

lawful-keep_alive : (limit : ℕ) (now : ℕ) (o : Option Keepalive) (t : Turn) → IsLawfulTurn limit t → IsLawfulTurn limit (keep_alive now o t)
lawful-keep_alive limit now None t h = h
lawful-keep_alive limit now (Some k) t h =
    let told = lawful-tell limit KeepaliveSent t tt h in
    let r = told.reader in
    elim (nat_le k.due now) as (λ b. IsLawfulTurn limit (cond b (with_reader (record (tell KeepaliveSent t).reader { keepalive = Some (keepalive_from now k.period) }) (tell KeepaliveSent t)) t)) [
      | true ↦ record { sent = told.sent; reader = record { next_id = r.next_id; version = r.version; held = r.held; few = r.few; table = r.table; fits = r.fits }; same = told.same }
      | false ↦ h
    ]

lawful-tick : (limit : ℕ) (now : ℕ) (t : Turn) → now < 2 ^ 64 → IsLawfulTurn limit t → IsLawfulTurn limit (tick now t)
unfolding tick
lawful-tick limit now t moment h =
    let ended = end_if (has_run_out now t.reader.started) now (active t.reader.table) t in
    lawful-keep_alive limit now ended.reader.keepalive ended (lawful-end_if limit (has_run_out now t.reader.started) now (active t.reader.table) t moment (told-active t.reader.table h.reader.table) h)

-- ---- a step

abbrev LawfulStep : ℕ → Result Turn Refusal → Type 0
LawfulStep limit step = IfOk step (λ t. AreLawfulReaderMessages limit t.sent × (IsLawfulReader t.reader × (t.reader.limit ≡ limit)))

done : (limit : ℕ) (t : Turn) → IsLawfulTurn limit t → AreLawfulReaderMessages limit t.sent × (IsLawfulReader t.reader × (t.reader.limit ≡ limit))
done limit t h = (h.sent, (h.reader, h.same))

lawful-next : RoSpecsAreTold → SightingsAreReports → (now : ℕ) (e : ReaderEvent) (r : Reader) → now < 2 ^ 64 → IsLawfulReaderEvent e → IsLawfulReader r → LawfulStep r.limit (next now e r)
unfolding next
lawful-next told reports now e r moment l h = in_phase r.phase e l
  where
    begin : (r : Reader) → IsLawfulReader r → IsLawfulTurn r.limit (turn_begun r)
    begin r h = record { sent = tt; reader = h; same = refl }

    in_phase : (ph : ReaderPhase) (e : ReaderEvent) → IsLawfulReaderEvent e → LawfulStep r.limit (next_in ph now e r)
    in_phase Down e l = tt
    in_phase Waiting Connect l =
        done r.limit _ (lawful-tell r.limit (Accepted now) (turn_begun (record r { phase = Up })) moment (begin (record r { phase = Up }) (record { next_id = h.next_id; version = h.version; held = h.held; few = h.few; table = h.table; fits = h.fits })))
    in_phase Waiting (Take v id q) l = tt
    in_phase Waiting (TakeBad id reason) l = tt
    in_phase Waiting (Seen g) l = tt
    in_phase Waiting Tick l = tt
    in_phase Up Connect l = tt
    in_phase Up (Take v id q) l =
        let taken : IsLawfulReader (record r { version = v }) = record { next_id = h.next_id; version = l.0; held = h.held; few = h.few; table = h.table; fits = h.fits } in
        done r.limit _ (lawful-serve r.limit told now v id q (turn_begun (record r { version = v })) moment l.0 l.1 l.2 (begin (record r { version = v }) taken))
    in_phase Up (TakeBad id reason) l = done r.limit _ (lawful-reply r.limit r.version id (Error (fault_status reason)) (turn_begun r) h.version l (fault_status-fits reason) (begin r h))
    in_phase Up (Seen g) l = done r.limit _ (lawful-see r.limit reports now g (counting g (active r.table)) (turn_begun r) moment l (told-counting g (active r.table) (told-active r.table h.table)) (begin r h))
    in_phase Up Tick l = done r.limit _ (lawful-tick r.limit now (turn_begun r) moment (begin r h))

pub reader_says_lawful : (now : ℕ) (e : ReaderEvent) (r : Reader) → now < 2 ^ 64 → IsLawfulReaderEvent e → IsLawfulReader r
    → IfOk (next now e r) (λ t. AreLawfulReaderMessages r.limit t.sent × (IsLawfulReader t.reader × (t.reader.limit ≡ r.limit)))
reader_says_lawful now e r moment l h = lawful-next told_of_lawful report_of_sighting now e r moment l h

pub reader_as_new : (limit first_id : ℕ) → 4096 ≤ limit → first_id < 2 ^ 32 → IsLawfulReader (new_reader limit first_id)
unfolding octets_of
reader_as_new limit first_id l h = record { next_id = h; version = inl refl; held = tt; few = omega arith; table = tt; fits = let empty : octets_of (new_reader limit first_id).table ≡ 0 = refl in omega (arith, empty) }
