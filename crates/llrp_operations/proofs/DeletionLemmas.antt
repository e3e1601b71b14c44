-- A course begins and ends with the deletions of its AccessSpec and ROSpec.
use Rattle.std.proofs.Common.{◌≡◌, ◌∙◌, inl, inr, ℕ, List, [], ◌∷◌, ◌++◌, Bool, true, false, if◌then◌else◌, ◌||◌, not, Option, Some, None, refl, sym, ap, subst, append_assoc, is_some, rules}
use Rattle.std.specs.Prelude.{◌==◌, ◌&&◌}
use Rattle.std.specs.Str.{bytes_eq}
use Rattle.llrp_operations.specs.declared.course.Demand.{Demand}
use Rattle.llrp_operations.specs.declared.course.Demand.TheVariants.{ClearAccess, ClearInventory, AddInventory, EnableInventory, StartInventory, AddAccess, EnableAccess, RemoveAccess, RemoveInventory, Close}
use Rattle.llrp_operations.specs.declared.course.Heard.{Heard}
use Rattle.llrp_operations.specs.declared.course.Heard.TheVariants.{Accepts, Answers, Keepalive, Sees, Results}
use Rattle.llrp_operations.specs.declared.course.Saying.{Saying}
use Rattle.llrp_operations.specs.declared.course.Saying.TheVariants.{Asks, Acknowledges}
use Rattle.llrp_operations.specs.declared.course.Stage.{Stage}
use Rattle.llrp_operations.specs.declared.course.Stage.TheVariants.{Accepting, Asking, Seeking, Settling, Operating, Ended, Lost}
use Rattle.llrp_operations.specs.Calls.Course.{Course, accept, answer, finished, first_course, granted, hear, is_alone, looks, noted, refused_by, say, selects, settled, silent, stands, tolerates}
use Rattle.llrp_operations.specs.Calls.CourseLaws.{BeginsWithDeletions, DeletedBoth, DeletesBoth, Event, Hears, Silence, Loss, after, demands_in, follow}

-- ---- what was asked so far, by the stage

-- both were deleted first
abbrev Begun : List Demand → Type 0
Begun ds = (more : List Demand) × (ds ≡ ClearAccess ∷ ClearInventory ∷ more)

-- both were deleted first, and last this was asked
abbrev Ends : List Demand → List Demand → Type 0
Ends last ds = (more : List Demand) × (ds ≡ ClearAccess ∷ ClearInventory ∷ (more ++ last))

abbrev Asked : Demand → List Demand → Type 0
Asked ClearAccess ds = ds ≡ ClearAccess ∷ []
Asked ClearInventory ds = ds ≡ ClearAccess ∷ ClearInventory ∷ []
Asked AddInventory ds = Begun ds
Asked EnableInventory ds = Begun ds
Asked StartInventory ds = Begun ds
Asked AddAccess ds = Begun ds
Asked EnableAccess ds = Begun ds
Asked RemoveAccess ds = Ends (RemoveAccess ∷ []) ds
Asked RemoveInventory ds = Ends (RemoveAccess ∷ RemoveInventory ∷ []) ds
Asked Close ds = Ends (RemoveAccess ∷ RemoveInventory ∷ Close ∷ []) ds

abbrev At : Stage → List Demand → Type 0
At Accepting ds = ds ≡ []
At (Asking d) ds = Asked d ds
At Seeking ds = Begun ds
At Settling ds = Begun ds
At Operating ds = Begun ds
At Ended ds = DeletedBoth ds
At Lost ds = BeginsWithDeletions ds

abbrev Holds : Course → Type 0
Holds c = At c.stage (demands_in c.said)

-- ---- what begins so

none_begins : (ds : List Demand) → ds ≡ [] → BeginsWithDeletions ds
none_begins ds e = subst BeginsWithDeletions (sym e) tt

begun_begins : (ds : List Demand) → Begun ds → BeginsWithDeletions ds
begun_begins ds (more, e) = subst BeginsWithDeletions (sym e) (refl, refl)

ends_begins : (last ds : List Demand) → Ends last ds → BeginsWithDeletions ds
ends_begins last ds (more, e) = begun_begins ds (more ++ last, e)

asked_begins : (d : Demand) (ds : List Demand) → Asked d ds → BeginsWithDeletions ds
asked_begins ClearAccess ds e = subst BeginsWithDeletions (sym e) refl
asked_begins ClearInventory ds e = begun_begins ds ([], e)
asked_begins AddInventory ds h = begun_begins ds h
asked_begins EnableInventory ds h = begun_begins ds h
asked_begins StartInventory ds h = begun_begins ds h
asked_begins AddAccess ds h = begun_begins ds h
asked_begins EnableAccess ds h = begun_begins ds h
asked_begins RemoveAccess ds h = ends_begins (RemoveAccess ∷ []) ds h
asked_begins RemoveInventory ds h = ends_begins (RemoveAccess ∷ RemoveInventory ∷ []) ds h
asked_begins Close ds h = ends_begins (RemoveAccess ∷ RemoveInventory ∷ Close ∷ []) ds h

deleted_begins : (ds : List Demand) → DeletedBoth ds → BeginsWithDeletions ds
deleted_begins ds (inl e) = none_begins ds e
deleted_begins ds (inr h) = ends_begins (RemoveAccess ∷ RemoveInventory ∷ Close ∷ []) ds h

at_begins : (s : Stage) (ds : List Demand) → At s ds → BeginsWithDeletions ds
at_begins Accepting ds h = none_begins ds h
at_begins (Asking d) ds h = asked_begins d ds h
at_begins Seeking ds h = begun_begins ds h
at_begins Settling ds h = begun_begins ds h
at_begins Operating ds h = begun_begins ds h
at_begins Ended ds h = deleted_begins ds h
at_begins Lost ds h = h

-- ---- what is said next

demands_more : (ss : List Saying) (d : Demand) → demands_in (ss ++ Asks d ∷ []) ≡ demands_in ss ++ d ∷ []
demands_more [] d = refl
demands_more (Asks e ∷ ss) d = ap (λ (ds : List Demand). e ∷ ds) (demands_more ss d)
demands_more (Acknowledges id ∷ ss) d = demands_more ss d

demands_same : (ss : List Saying) (id : ℕ) → demands_in (ss ++ Acknowledges id ∷ []) ≡ demands_in ss
demands_same [] id = refl
demands_same (Asks e ∷ ss) id = ap (λ (ds : List Demand). e ∷ ds) (demands_same ss id)
demands_same (Acknowledges i ∷ ss) id = demands_same ss id

begun_more : (ds : List Demand) (d : Demand) → Begun ds → Begun (ds ++ d ∷ [])
begun_more ds d (more, e) = (more ++ d ∷ [], ap (λ (x : List Demand). x ++ d ∷ []) e)

begun_ends : (ds : List Demand) (d : Demand) → Begun ds → Ends (d ∷ []) (ds ++ d ∷ [])
begun_ends ds d (more, e) = (more, ap (λ (x : List Demand). x ++ d ∷ []) e)

ends_more : (last ds : List Demand) (d : Demand) → Ends last ds → Ends (last ++ d ∷ []) (ds ++ d ∷ [])
ends_more last ds d (more, e) = (more, ap (λ (x : List Demand). x ++ d ∷ []) e ∙ ap (λ (x : List Demand). ClearAccess ∷ ClearInventory ∷ x) (append_assoc more last (d ∷ [])))

says : (d : Demand) (c : Course) → Asked d (demands_in c.said ++ d ∷ []) → Holds (say d c)
says d c h = subst (Asked d) (sym (demands_more c.said d)) h

removes : (c : Course) → Begun (demands_in c.said) → Holds (say RemoveAccess c)
removes c h = says RemoveAccess c (begun_ends (demands_in c.said) RemoveAccess h)

-- ---- answers

look_keeps : (c : Course) (b s : Bool) → Begun (demands_in c.said) → Holds (if not b then say AddAccess c else record c { stage = if s then Settling else Seeking })
look_keeps c true true h = h
look_keeps c true false h = h
look_keeps c false s h = says AddAccess c (begun_more (demands_in c.said) AddAccess h)

operate_keeps : (c : Course) (b : Bool) → Begun (demands_in c.said) → Holds (if b then say RemoveAccess c else record c { stage = Operating })
operate_keeps c true h = removes c h
operate_keeps c false h = h

granted_keeps : (d : Demand) (c : Course) → Asked d (demands_in c.said) → Holds (granted d c)
granted_keeps ClearAccess c h = says ClearInventory c (ap (λ (x : List Demand). x ++ ClearInventory ∷ []) h)
granted_keeps ClearInventory c h = says AddInventory c (begun_more (demands_in c.said) AddInventory ([], h))
granted_keeps AddInventory c h = says EnableInventory c (begun_more (demands_in c.said) EnableInventory h)
granted_keeps EnableInventory c h = says StartInventory c (begun_more (demands_in c.said) StartInventory h)
granted_keeps StartInventory c h = look_keeps c c.changes (is_some c.seen) h
granted_keeps AddAccess c h = says EnableAccess c (begun_more (demands_in c.said) EnableAccess h)
granted_keeps EnableAccess c h = operate_keeps c c.reported h
granted_keeps RemoveAccess c h = says RemoveInventory c (ends_more (RemoveAccess ∷ []) (demands_in c.said) RemoveInventory h)
granted_keeps RemoveInventory c h = says Close c (ends_more (RemoveAccess ∷ RemoveInventory ∷ []) (demands_in c.said) Close h)
granted_keeps Close c h = inr h

or_true : (a : Bool) → (a || true) ≡ false → ⊥
or_true true h = search (rules, h)
or_true false h = search (rules, h)

-- what is refused is not passed over, so both were deleted before
refused_begun : (d : Demand) (zero : Bool) (ds : List Demand) → (zero || tolerates d) ≡ false → Asked d ds → Begun ds
refused_begun ClearAccess zero ds e h = absurd (or_true zero e)
refused_begun ClearInventory zero ds e h = absurd (or_true zero e)
refused_begun AddInventory zero ds e h = h
refused_begun EnableInventory zero ds e h = h
refused_begun StartInventory zero ds e h = h
refused_begun AddAccess zero ds e h = h
refused_begun EnableAccess zero ds e h = h
refused_begun RemoveAccess zero ds e h = absurd (or_true zero e)
refused_begun RemoveInventory zero ds e h = absurd (or_true zero e)
refused_begun Close zero ds e h = absurd (or_true zero e)

answered_by : (d : Demand) (status : ℕ) (c : Course) (b : Bool) → ((status == 0) || tolerates d) ≡ b → Asked d (demands_in c.said)
    → Holds (if b then granted d c else say RemoveAccess (refused_by d status c))
answered_by d status c true is h = granted_keeps d c h
answered_by d status c false is h = removes (refused_by d status c) (refused_begun d (status == 0) (demands_in c.said) is h)

at_stage : (s : Stage) (c : Course) → c.stage ≡ s → Holds c → At s (demands_in c.said)
at_stage s c e h = subst (λ (x : Stage). At x (demands_in c.said)) e h

answer_keeps : (s : Stage) (status : ℕ) (c : Course) → c.stage ≡ s → Holds c → Holds (answer s status c)
answer_keeps Accepting status c e h = h
answer_keeps (Asking d) status c e h = answered_by d status c ((status == 0) || tolerates d) refl (at_stage (Asking d) c e h)
answer_keeps Seeking status c e h = h
answer_keeps Settling status c e h = h
answer_keeps Operating status c e h = h
answer_keeps Ended status c e h = h
answer_keeps Lost status c e h = h

accepted : (status : ℕ) (c : Course) (b : Bool) → demands_in c.said ≡ [] → Holds (if b then say ClearAccess c else record c { refused = Some status; stage = Ended })
accepted status c true h = says ClearAccess c (ap (λ (x : List Demand). x ++ ClearAccess ∷ []) h)
accepted status c false h = inl h

accept_keeps : (s : Stage) (status : ℕ) (c : Course) → c.stage ≡ s → Holds c → Holds (accept s status c)
accept_keeps Accepting status c e h = accepted status c (status == 0) (at_stage Accepting c e h)
accept_keeps (Asking d) status c e h = h
accept_keeps Seeking status c e h = h
accept_keeps Settling status c e h = h
accept_keeps Operating status c e h = h
accept_keeps Ended status c e h = h
accept_keeps Lost status c e h = h

acknowledged : (id : ℕ) (c : Course) (b : Bool) → Holds c → Holds (if b then record c { said = c.said ++ Acknowledges id ∷ [] } else c)
acknowledged id c true h = subst (At c.stage) (sym (demands_same c.said id)) h
acknowledged id c false h = h

-- ---- tags and results

settled_keeps : (s : Stage) (ds : List Demand) → At s ds → At (settled s) ds
settled_keeps Accepting ds h = h
settled_keeps (Asking d) ds h = h
settled_keeps Seeking ds h = h
settled_keeps Settling ds h = h
settled_keeps Operating ds h = h
settled_keeps Ended ds h = h
settled_keeps Lost ds h = h

noted_keeps : (epc : List ℕ) (s : Stage) (c : Course) (o : Option (List ℕ)) → At s (demands_in c.said) → Holds (record (noted epc o c) { stage = s })
noted_keeps epc s c None h = h
noted_keeps epc s c (Some first) h = go (bytes_eq first epc)
  where
    go : (b : Bool) → Holds (record (if b then c else record c { several = true }) { stage = s })
    go true = h
    go false = h

seen_keeps : (epc : List ℕ) (c : Course) (b : Bool) → Holds c → Holds (if b then record (noted epc c.seen c) { stage = settled c.stage } else c)
seen_keeps epc c true h = noted_keeps epc (settled c.stage) c c.seen (settled_keeps c.stage (demands_in c.said) h)
seen_keeps epc c false h = h

finished_keeps : (s : Stage) (c : Course) → c.stage ≡ s → Holds c → Holds (finished s c)
finished_keeps Accepting c e h = h
finished_keeps (Asking d) c e h = h
finished_keeps Seeking c e h = h
finished_keeps Settling c e h = h
finished_keeps Operating c e h = removes (record c { reported = true }) (at_stage Operating c e h)
finished_keeps Ended c e h = h
finished_keeps Lost c e h = h

finish_keeps : (c : Course) (b : Bool) → Holds c → Holds (if not b then c else finished c.stage c)
finish_keeps c true h = finished_keeps c.stage c refl h
finish_keeps c false h = h

hear_keeps : (heard : Heard) (c : Course) → Holds c → Holds (hear heard c)
hear_keeps (Accepts status) c h = accept_keeps c.stage status c refl h
hear_keeps (Answers status) c h = answer_keeps c.stage status c refl h
hear_keeps (Keepalive id) c h = acknowledged id c (stands c.stage) h
hear_keeps (Sees epc) c h = seen_keeps epc.now c (c.changes && (looks c.stage && selects c.mask epc.now)) h
hear_keeps Results c h = finish_keeps c c.armed h

-- ---- the time is over, or the connection lost

settle_keeps : (c : Course) (b : Bool) → Begun (demands_in c.said) → Holds (if b then say AddAccess c else say RemoveAccess c)
settle_keeps c true h = says AddAccess c (begun_more (demands_in c.said) AddAccess h)
settle_keeps c false h = removes c h

silent_keeps : (s : Stage) (c : Course) → c.stage ≡ s → Holds c → Holds (silent s c)
silent_keeps Accepting c e h = at_begins c.stage (demands_in c.said) h
silent_keeps (Asking d) c e h = at_begins c.stage (demands_in c.said) h
silent_keeps Seeking c e h = removes c (at_stage Seeking c e h)
silent_keeps Settling c e h = settle_keeps c (is_alone c.mask c.seen c.several) (at_stage Settling c e h)
silent_keeps Operating c e h = removes c (at_stage Operating c e h)
silent_keeps Ended c e h = h
silent_keeps Lost c e h = h

lost_keeps : (c : Course) (b : Bool) → Holds c → Holds (if b then record c { stage = Lost } else c)
lost_keeps c true h = at_begins c.stage (demands_in c.said) h
lost_keeps c false h = h

-- ---- all that happens

after_keeps : (event : Event) (c : Course) → Holds c → Holds (after event c)
after_keeps (Hears heard) c h = hear_keeps heard c h
after_keeps Silence c h = silent_keeps c.stage c refl h
after_keeps Loss c h = lost_keeps c (stands c.stage) h

follow_keeps : (events : List Event) (c : Course) → Holds c → Holds (follow events c)
follow_keeps [] c h = h
follow_keeps (event ∷ events) c h = follow_keeps events (after event c) (after_keeps event c h)

pub deletes_both : DeletesBoth
deletes_both mask changes events =
    let end = follow events (first_course mask changes) in
    let h : Holds end = follow_keeps events (first_course mask changes) refl in
    record { begins = at_begins end.stage (demands_in end.said) h; ends = λ e. at_stage Ended end e h }
