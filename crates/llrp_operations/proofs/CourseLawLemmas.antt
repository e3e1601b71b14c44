-- A course that changes a tag adds its AccessSpec only where one EPC was seen.
use Rattle.std.proofs.Common.{◌≡◌, ◌∙◌, ◌⊎◌, inl, inr, ℕ, List, [], ◌∷◌, ◌++◌, Bool, true, false, if◌then◌else◌, ◌&&◌, ◌||◌, not, Option, Some, None, refl, sym, ap, rules, is_some}
use Rattle.std.specs.Prelude.{◌==◌}
use Rattle.std.specs.List.{list_any}
use Rattle.std.specs.Str.{bytes_eq}
use Rattle.std.proofs.lemmas.Slice.Eq.{bytes_eq-Decides}
use Rattle.llrp_operations.specs.declared.course.Demand.{Demand}
use Rattle.llrp_operations.specs.declared.course.Demand.TheVariants.{ClearAccess, ClearInventory, AddInventory, EnableInventory, StartInventory, AddAccess, EnableAccess, RemoveAccess, RemoveInventory, Close}
use Rattle.llrp_operations.specs.declared.course.Heard.{Heard}
use Rattle.llrp_operations.specs.declared.course.Heard.TheVariants.{Accepts, Answers, Keepalive, Sees, Results}
use Rattle.llrp_operations.specs.declared.course.Saying.{Saying}
use Rattle.llrp_operations.specs.declared.course.Saying.TheVariants.{Asks, Acknowledges}
use Rattle.llrp_operations.specs.declared.course.Stage.{Stage}
use Rattle.llrp_operations.specs.declared.course.Stage.TheVariants.{Accepting, Asking, Seeking, Settling, Operating, Ended, Lost}
use Rattle.llrp_operations.specs.Calls.Course.{Course, accept, answer, finished, first_course, granted, hear, is_alone, looks, noted, refused_by, say, selects, settled, silent, stands, tolerates}
use Rattle.llrp_operations.specs.Calls.CourseLaws.{ChangesOne, Event, Hears, Silence, Loss, SawOne, adds, after, follow}

-- before the AccessSpec is added
abbrev early : Stage → Bool
early Accepting = true
early (Asking ClearAccess) = true
early (Asking ClearInventory) = true
early (Asking AddInventory) = true
early (Asking EnableInventory) = true
early (Asking StartInventory) = true
early Seeking = true
early Settling = true
early _ = false

-- what holds of a course: nothing was added early, and where it was one EPC was seen
record Holds (mask : List ℕ) (c : Course) : Type 0 where
  changes : c.changes ≡ true
  own : c.mask ≡ mask
  none : early c.stage ≡ true → list_any adds c.said ≡ false
  one : list_any adds c.said ≡ true → SawOne mask c

any_end : (xs : List Saying) (x : Saying) → list_any adds (xs ++ x ∷ []) ≡ (list_any adds xs || adds x)
any_end [] x = search rules
any_end (y ∷ xs) x = go (adds y) (any_end xs x)
  where
    go : (b : Bool) → list_any adds (xs ++ x ∷ []) ≡ (list_any adds xs || adds x) → (b || list_any adds (xs ++ x ∷ [])) ≡ ((b || list_any adds xs) || adds x)
    go true later = refl
    go false later = later

or_false : (a b : Bool) → b ≡ false → (a || b) ≡ a
or_false true b h = refl
or_false false b h = h

-- what is none of it leaves it as it was
no_more : (xs : List Saying) (x : Saying) → adds x ≡ false → list_any adds (xs ++ x ∷ []) ≡ list_any adds xs
no_more xs x h = any_end xs x ∙ or_false (list_any adds xs) (adds x) h

both : (a b : Bool) → (a && b) ≡ true → (a ≡ true) × (b ≡ true)
both true b h = (refl, h)
both false b h = absurd (search (rules, h))

apart : (b : Bool) → b ≡ false → b ≡ true → ⊥
apart true f t = search (rules, f)
apart false f t = search (rules, t)

never : false ≡ true → ⊥
never h = search (rules, h)

-- ---- courses to which nothing was added

clean : (mask : List ℕ) (c : Course) → c.changes ≡ true → c.mask ≡ mask → list_any adds c.said ≡ false → Holds mask c
clean mask c changes own f = record { changes = changes; own = own; none = λ e. f; one = λ t. absurd (apart (list_any adds c.said) f t) }

-- ---- steps

say_keeps : (mask : List ℕ) (d : Demand) (c : Course) → adds (Asks d) ≡ false → (early (Asking d) ≡ true → list_any adds c.said ≡ false) → Holds mask c → Holds mask (say d c)
say_keeps mask d c other fresh h = record {
  changes = h.changes;
  own = h.own;
  none = λ e. no_more c.said (Asks d) other ∙ fresh e;
  one = λ t. h.one (sym (no_more c.said (Asks d) other) ∙ t);
}

staged : (mask : List ℕ) (s : Stage) (c : Course) → (early s ≡ true → list_any adds c.said ≡ false) → Holds mask c → Holds mask (record c { stage = s })
staged mask s c fresh h = record { changes = h.changes; own = h.own; none = fresh; one = h.one }

removes : (mask : List ℕ) (c : Course) → Holds mask c → Holds mask (say RemoveAccess c)
removes mask c h = say_keeps mask RemoveAccess c refl (λ e. absurd (never e)) h

look_keeps : (mask : List ℕ) (c : Course) (b s : Bool) → b ≡ true → list_any adds c.said ≡ false → Holds mask c
    → Holds mask (if not b then say AddAccess c else record c { stage = if s then Settling else Seeking })
look_keeps mask c true true e f h = staged mask Settling c (λ x. f) h
look_keeps mask c true false e f h = staged mask Seeking c (λ x. f) h
look_keeps mask c false s e f h = absurd (never e)

operate_keeps : (mask : List ℕ) (c : Course) (b : Bool) → Holds mask c → Holds mask (if b then say RemoveAccess c else record c { stage = Operating })
operate_keeps mask c true h = removes mask c h
operate_keeps mask c false h = staged mask Operating c (λ e. absurd (never e)) h

granted_keeps : (mask : List ℕ) (d : Demand) (c : Course) → c.stage ≡ Asking d → Holds mask c → Holds mask (granted d c)
granted_keeps mask ClearAccess c at h = say_keeps mask ClearInventory c refl (λ e. h.none (ap early at)) h
granted_keeps mask ClearInventory c at h = say_keeps mask AddInventory c refl (λ e. h.none (ap early at)) h
granted_keeps mask AddInventory c at h = say_keeps mask EnableInventory c refl (λ e. h.none (ap early at)) h
granted_keeps mask EnableInventory c at h = say_keeps mask StartInventory c refl (λ e. h.none (ap early at)) h
granted_keeps mask StartInventory c at h = look_keeps mask c c.changes (is_some c.seen) h.changes (h.none (ap early at)) h
granted_keeps mask AddAccess c at h = say_keeps mask EnableAccess c refl (λ e. absurd (never e)) h
granted_keeps mask EnableAccess c at h = operate_keeps mask c c.reported h
granted_keeps mask RemoveAccess c at h = say_keeps mask RemoveInventory c refl (λ e. absurd (never e)) h
granted_keeps mask RemoveInventory c at h = say_keeps mask Close c refl (λ e. absurd (never e)) h
granted_keeps mask Close c at h = staged mask Ended c (λ e. absurd (never e)) h

answered_by : (mask : List ℕ) (d : Demand) (status : ℕ) (c : Course) (b : Bool) → c.stage ≡ Asking d → Holds mask c
    → Holds mask (if b then granted d c else say RemoveAccess (refused_by d status c))
answered_by mask d status c true at h = granted_keeps mask d c at h
answered_by mask d status c false at h = removes mask (refused_by d status c) (record { changes = h.changes; own = h.own; none = h.none; one = h.one })

answer_keeps : (mask : List ℕ) (s : Stage) (status : ℕ) (c : Course) → c.stage ≡ s → Holds mask c → Holds mask (answer s status c)
answer_keeps mask Accepting status c at h = h
answer_keeps mask (Asking d) status c at h = answered_by mask d status c ((status == 0) || tolerates d) at h
answer_keeps mask Seeking status c at h = h
answer_keeps mask Settling status c at h = h
answer_keeps mask Operating status c at h = h
answer_keeps mask Ended status c at h = h
answer_keeps mask Lost status c at h = h

accepted : (mask : List ℕ) (status : ℕ) (c : Course) (b : Bool) → list_any adds c.said ≡ false → Holds mask c
    → Holds mask (if b then say ClearAccess c else record c { refused = Some status; stage = Ended })
accepted mask status c true f h = say_keeps mask ClearAccess c refl (λ e. f) h
accepted mask status c false f h = record { changes = h.changes; own = h.own; none = λ e. absurd (never e); one = h.one }

accept_keeps : (mask : List ℕ) (s : Stage) (status : ℕ) (c : Course) → c.stage ≡ s → Holds mask c → Holds mask (accept s status c)
accept_keeps mask Accepting status c at h = accepted mask status c (status == 0) (h.none (ap early at)) h
accept_keeps mask (Asking d) status c at h = h
accept_keeps mask Seeking status c at h = h
accept_keeps mask Settling status c at h = h
accept_keeps mask Operating status c at h = h
accept_keeps mask Ended status c at h = h
accept_keeps mask Lost status c at h = h

acknowledged : (mask : List ℕ) (id : ℕ) (c : Course) (b : Bool) → Holds mask c → Holds mask (if b then record c { said = c.said ++ Acknowledges id ∷ [] } else c)
acknowledged mask id c true h = record {
  changes = h.changes;
  own = h.own;
  none = λ e. no_more c.said (Acknowledges id) refl ∙ h.none e;
  one = λ t. h.one (sym (no_more c.said (Acknowledges id) refl) ∙ t);
}
acknowledged mask id c false h = h

-- tags are counted only before anything is added
looks_early : (s : Stage) → looks s ≡ true → early s ≡ true
looks_early Accepting h = refl
looks_early (Asking ClearAccess) h = refl
looks_early (Asking ClearInventory) h = refl
looks_early (Asking AddInventory) h = refl
looks_early (Asking EnableInventory) h = refl
looks_early (Asking StartInventory) h = refl
looks_early (Asking AddAccess) h = absurd (never h)
looks_early (Asking EnableAccess) h = absurd (never h)
looks_early (Asking RemoveAccess) h = absurd (never h)
looks_early (Asking RemoveInventory) h = absurd (never h)
looks_early (Asking Close) h = absurd (never h)
looks_early Seeking h = refl
looks_early Settling h = refl
looks_early Operating h = absurd (never h)
looks_early Ended h = absurd (never h)
looks_early Lost h = absurd (never h)

noted_clean : (mask epc : List ℕ) (s : Stage) (c : Course) (o : Option (List ℕ)) → c.changes ≡ true → c.mask ≡ mask → list_any adds c.said ≡ false → Holds mask (record (noted epc o c) { stage = s })
noted_clean mask epc s c None changes own f = clean mask (record c { seen = Some epc; stage = s }) changes own f
noted_clean mask epc s c (Some first) changes own f = go (bytes_eq first epc)
  where
    go : (b : Bool) → Holds mask (record (if b then c else record c { several = true }) { stage = s })
    go true = clean mask (record c { stage = s }) changes own f
    go false = clean mask (record c { several = true; stage = s }) changes own f

seen_keeps : (mask epc : List ℕ) (c : Course) (b : Bool) → (c.changes && (looks c.stage && selects c.mask epc)) ≡ b → Holds mask c
    → Holds mask (if b then record (noted epc c.seen c) { stage = settled c.stage } else c)
seen_keeps mask epc c true is h = noted_clean mask epc (settled c.stage) c c.seen h.changes h.own (h.none (looks_early c.stage (both (looks c.stage) (selects c.mask epc) (both c.changes (looks c.stage && selects c.mask epc) is).1).0))
seen_keeps mask epc c false is h = h

finished_keeps : (mask : List ℕ) (s : Stage) (c : Course) → Holds mask c → Holds mask (finished s c)
finished_keeps mask Accepting c h = record { changes = h.changes; own = h.own; none = h.none; one = h.one }
finished_keeps mask (Asking d) c h = record { changes = h.changes; own = h.own; none = h.none; one = h.one }
finished_keeps mask Seeking c h = record { changes = h.changes; own = h.own; none = h.none; one = h.one }
finished_keeps mask Settling c h = record { changes = h.changes; own = h.own; none = h.none; one = h.one }
finished_keeps mask Operating c h = removes mask (record c { reported = true }) (record { changes = h.changes; own = h.own; none = h.none; one = h.one })
finished_keeps mask Ended c h = record { changes = h.changes; own = h.own; none = h.none; one = h.one }
finished_keeps mask Lost c h = record { changes = h.changes; own = h.own; none = h.none; one = h.one }

finish_keeps : (mask : List ℕ) (c : Course) (b : Bool) → Holds mask c → Holds mask (if not b then c else finished c.stage c)
finish_keeps mask c true h = finished_keeps mask c.stage c h
finish_keeps mask c false h = h

hear_keeps : (mask : List ℕ) (heard : Heard) (c : Course) → Holds mask c → Holds mask (hear heard c)
hear_keeps mask (Accepts status) c h = accept_keeps mask c.stage status c refl h
hear_keeps mask (Answers status) c h = answer_keeps mask c.stage status c refl h
hear_keeps mask (Keepalive id) c h = acknowledged mask id c (stands c.stage) h
hear_keeps mask (Sees epc) c h = seen_keeps mask epc.now c (c.changes && (looks c.stage && selects c.mask epc.now)) refl h
hear_keeps mask Results c h = finish_keeps mask c c.armed h

-- ---- the time is over

alone_is : (mask m : List ℕ) (o : Option (List ℕ)) (s : Bool) → m ≡ mask → is_alone m o s ≡ true → (epc : List ℕ) × (o ≡ Some epc) × (s ≡ false) × (epc ≡ [] → ⊥) × ((mask ≡ []) ⊎ (mask ≡ epc))
alone_is mask m None s own h = absurd (never h)
alone_is mask m (Some epc) true own h = absurd (never h)
alone_is mask m (Some epc) false own h =
    let two = both (not (bytes_eq epc [])) (bytes_eq m [] || bytes_eq m epc) h in
    (epc, refl, refl, λ e. absurd (apart (not (bytes_eq epc [])) (ap not ((bytes_eq-Decides epc []).1 e)) two.0), go (bytes_eq m []) refl two.1)
  where
    go : (b : Bool) → bytes_eq m [] ≡ b → (b || bytes_eq m epc) ≡ true → (mask ≡ []) ⊎ (mask ≡ epc)
    go true is t = inl (sym own ∙ (bytes_eq-Decides m []).0 is)
    go false is t = inr (sym own ∙ (bytes_eq-Decides m epc).0 t)

settle_keeps : (mask : List ℕ) (c : Course) (b : Bool) → is_alone c.mask c.seen c.several ≡ b → Holds mask c → Holds mask (if b then say AddAccess c else say RemoveAccess c)
settle_keeps mask c true is h = record {
  changes = h.changes;
  own = h.own;
  none = λ e. absurd (never e);
  one = λ t. alone_is mask c.mask c.seen c.several h.own is;
}
settle_keeps mask c false is h = removes mask c h

silent_keeps : (mask : List ℕ) (s : Stage) (c : Course) → Holds mask c → Holds mask (silent s c)
silent_keeps mask Accepting c h = staged mask Lost c (λ e. absurd (never e)) h
silent_keeps mask (Asking d) c h = staged mask Lost c (λ e. absurd (never e)) h
silent_keeps mask Seeking c h = removes mask c h
silent_keeps mask Settling c h = settle_keeps mask c (is_alone c.mask c.seen c.several) refl h
silent_keeps mask Operating c h = removes mask c h
silent_keeps mask Ended c h = h
silent_keeps mask Lost c h = h

lost_keeps : (mask : List ℕ) (c : Course) (b : Bool) → Holds mask c → Holds mask (if b then record c { stage = Lost } else c)
lost_keeps mask c true h = staged mask Lost c (λ e. absurd (never e)) h
lost_keeps mask c false h = h

-- ---- all that happens

after_keeps : (mask : List ℕ) (event : Event) (c : Course) → Holds mask c → Holds mask (after event c)
after_keeps mask (Hears heard) c h = hear_keeps mask heard c h
after_keeps mask Silence c h = silent_keeps mask c.stage c h
after_keeps mask Loss c h = lost_keeps mask c (stands c.stage) h

follow_keeps : (mask : List ℕ) (events : List Event) (c : Course) → Holds mask c → Holds mask (follow events c)
follow_keeps mask [] c h = h
follow_keeps mask (event ∷ events) c h = follow_keeps mask events (after event c) (after_keeps mask event c h)

pub changes_one : ChangesOne
changes_one mask events = (follow_keeps mask events (first_course mask true) (clean mask (first_course mask true) refl refl refl)).one
