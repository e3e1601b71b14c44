-- A course that enabled an AccessSpec that changes a tag does not deny the change.
use Rattle.std.proofs.Common.{◌≡◌, ◌∙◌, ℕ, List, [], ◌∷◌, ◌++◌, Bool, true, false, if◌then◌else◌, ◌&&◌, ◌||◌, not, Option, Some, None, refl, sym, ap, rules, is_some}
use Rattle.std.specs.Prelude.{◌==◌}
use Rattle.std.specs.List.{list_any}
use Rattle.std.specs.Str.{bytes_eq}
use Rattle.llrp_operations.specs.declared.course.Demand.{Demand}
use Rattle.llrp_operations.specs.declared.course.Demand.TheVariants.{ClearAccess, ClearInventory, AddInventory, EnableInventory, StartInventory, AddAccess, EnableAccess, RemoveAccess, RemoveInventory, Close}
use Rattle.llrp_operations.specs.declared.course.Heard.{Heard}
use Rattle.llrp_operations.specs.declared.course.Heard.TheVariants.{Accepts, Answers, Keepalive, Sees, Results}
use Rattle.llrp_operations.specs.declared.course.Outcome.TheVariants.{Reported, Several, Unknown}
use Rattle.llrp_operations.specs.declared.course.Saying.{Saying}
use Rattle.llrp_operations.specs.declared.course.Saying.TheVariants.{Asks, Acknowledges}
use Rattle.llrp_operations.specs.declared.course.Stage.{Stage}
use Rattle.llrp_operations.specs.declared.course.Stage.TheVariants.{Accepting, Asking, Seeking, Settling, Operating, Ended, Lost}
use Rattle.llrp_operations.specs.Calls.Course.{Course, accept, answer, arms, finished, first_course, granted, hear, is_alone, is_lost, looks, noted, outcome, refused_by, refused_or, say, selects, settled, silent, stands, tolerates}
use Rattle.llrp_operations.specs.Calls.CourseLaws.{AdmitsChange, Event, Hears, Silence, Loss, after, denies_change, enables, follow}

-- a course that changes a tag knows whether it enabled the AccessSpec
record Knows (c : Course) : Type 0 where
  changes : c.changes ≡ true
  armed : list_any enables c.said ≡ c.armed

same : (c d : Course) → d.changes ≡ c.changes → d.said ≡ c.said → d.armed ≡ c.armed → Knows c → Knows d
same c d changes said armed k = record { changes = changes ∙ k.changes; armed = ap (list_any enables) said ∙ k.armed ∙ sym armed }

any_end : (xs : List Saying) (x : Saying) → list_any enables (xs ++ x ∷ []) ≡ (list_any enables xs || enables x)
any_end [] x = search rules
any_end (y ∷ xs) x = go (enables y) (any_end xs x)
  where
    go : (b : Bool) → list_any enables (xs ++ x ∷ []) ≡ (list_any enables xs || enables x) → (b || list_any enables (xs ++ x ∷ [])) ≡ ((b || list_any enables xs) || enables x)
    go true later = refl
    go false later = later

arms_it : (d : Demand) → enables (Asks d) ≡ arms d
arms_it ClearAccess = refl
arms_it ClearInventory = refl
arms_it AddInventory = refl
arms_it EnableInventory = refl
arms_it StartInventory = refl
arms_it AddAccess = refl
arms_it EnableAccess = refl
arms_it RemoveAccess = refl
arms_it RemoveInventory = refl
arms_it Close = refl

or_false : (a : Bool) → (a || false) ≡ a
or_false true = refl
or_false false = refl

says : (d : Demand) (c : Course) → Knows c → Knows (say d c)
says d c k = record { changes = k.changes; armed = any_end c.said (Asks d) ∙ ap (λ (b : Bool). b || enables (Asks d)) k.armed ∙ ap (λ (b : Bool). c.armed || b) (arms_it d) }

look_keeps : (c : Course) (b s : Bool) → Knows c → Knows (if not b then say AddAccess c else record c { stage = if s then Settling else Seeking })
look_keeps c true true k = same c (record c { stage = Settling }) refl refl refl k
look_keeps c true false k = same c (record c { stage = Seeking }) refl refl refl k
look_keeps c false s k = says AddAccess c k

operate_keeps : (c : Course) (b : Bool) → Knows c → Knows (if b then say RemoveAccess c else record c { stage = Operating })
operate_keeps c true k = says RemoveAccess c k
operate_keeps c false k = same c (record c { stage = Operating }) refl refl refl k

granted_keeps : (d : Demand) (c : Course) → Knows c → Knows (granted d c)
granted_keeps ClearAccess c k = says ClearInventory c k
granted_keeps ClearInventory c k = says AddInventory c k
granted_keeps AddInventory c k = says EnableInventory c k
granted_keeps EnableInventory c k = says StartInventory c k
granted_keeps StartInventory c k = look_keeps c c.changes (is_some c.seen) k
granted_keeps AddAccess c k = says EnableAccess c k
granted_keeps EnableAccess c k = operate_keeps c c.reported k
granted_keeps RemoveAccess c k = says RemoveInventory c k
granted_keeps RemoveInventory c k = says Close c k
granted_keeps Close c k = same c (record c { stage = Ended }) refl refl refl k

answered_by : (d : Demand) (status : ℕ) (c : Course) (b : Bool) → Knows c → Knows (if b then granted d c else say RemoveAccess (refused_by d status c))
answered_by d status c true k = granted_keeps d c k
answered_by d status c false k = says RemoveAccess (refused_by d status c) (same c (refused_by d status c) refl refl refl k)

answer_keeps : (s : Stage) (status : ℕ) (c : Course) → Knows c → Knows (answer s status c)
answer_keeps Accepting status c k = k
answer_keeps (Asking d) status c k = answered_by d status c ((status == 0) || tolerates d) k
answer_keeps Seeking status c k = k
answer_keeps Settling status c k = k
answer_keeps Operating status c k = k
answer_keeps Ended status c k = k
answer_keeps Lost status c k = k

accepted : (status : ℕ) (c : Course) (b : Bool) → Knows c → Knows (if b then say ClearAccess c else record c { refused = Some status; stage = Ended })
accepted status c true k = says ClearAccess c k
accepted status c false k = same c (record c { refused = Some status; stage = Ended }) refl refl refl k

accept_keeps : (s : Stage) (status : ℕ) (c : Course) → Knows c → Knows (accept s status c)
accept_keeps Accepting status c k = accepted status c (status == 0) k
accept_keeps (Asking d) status c k = k
accept_keeps Seeking status c k = k
accept_keeps Settling status c k = k
accept_keeps Operating status c k = k
accept_keeps Ended status c k = k
accept_keeps Lost status c k = k

acknowledged : (id : ℕ) (c : Course) (b : Bool) → Knows c → Knows (if b then record c { said = c.said ++ Acknowledges id ∷ [] } else c)
acknowledged id c true k = record { changes = k.changes; armed = any_end c.said (Acknowledges id) ∙ or_false (list_any enables c.said) ∙ k.armed }
acknowledged id c false k = k

noted_keeps : (epc : List ℕ) (s : Stage) (c : Course) (o : Option (List ℕ)) → Knows c → Knows (record (noted epc o c) { stage = s })
noted_keeps epc s c None k = same c (record c { seen = Some epc; stage = s }) refl refl refl k
noted_keeps epc s c (Some first) k = go (bytes_eq first epc)
  where
    go : (b : Bool) → Knows (record (if b then c else record c { several = true }) { stage = s })
    go true = same c (record c { stage = s }) refl refl refl k
    go false = same c (record c { several = true; stage = s }) refl refl refl k

seen_keeps : (epc : List ℕ) (c : Course) (b : Bool) → Knows c → Knows (if b then record (noted epc c.seen c) { stage = settled c.stage } else c)
seen_keeps epc c true k = noted_keeps epc (settled c.stage) c c.seen k
seen_keeps epc c false k = k

finished_keeps : (s : Stage) (c : Course) → Knows c → Knows (finished s c)
finished_keeps Accepting c k = same c (record c { reported = true }) refl refl refl k
finished_keeps (Asking d) c k = same c (record c { reported = true }) refl refl refl k
finished_keeps Seeking c k = same c (record c { reported = true }) refl refl refl k
finished_keeps Settling c k = same c (record c { reported = true }) refl refl refl k
finished_keeps Operating c k = says RemoveAccess (record c { reported = true }) (same c (record c { reported = true }) refl refl refl k)
finished_keeps Ended c k = same c (record c { reported = true }) refl refl refl k
finished_keeps Lost c k = same c (record c { reported = true }) refl refl refl k

finish_keeps : (c : Course) (b : Bool) → Knows c → Knows (if not b then c else finished c.stage c)
finish_keeps c true k = finished_keeps c.stage c k
finish_keeps c false k = k

hear_keeps : (heard : Heard) (c : Course) → Knows c → Knows (hear heard c)
hear_keeps (Accepts status) c k = accept_keeps c.stage status c k
hear_keeps (Answers status) c k = answer_keeps c.stage status c k
hear_keeps (Keepalive id) c k = acknowledged id c (stands c.stage) k
hear_keeps (Sees epc) c k = seen_keeps epc.now c (c.changes && (looks c.stage && selects c.mask epc.now)) k
hear_keeps Results c k = finish_keeps c c.armed k

settle_keeps : (c : Course) (b : Bool) → Knows c → Knows (if b then say AddAccess c else say RemoveAccess c)
settle_keeps c true k = says AddAccess c k
settle_keeps c false k = says RemoveAccess c k

silent_keeps : (s : Stage) (c : Course) → Knows c → Knows (silent s c)
silent_keeps Accepting c k = same c (record c { stage = Lost }) refl refl refl k
silent_keeps (Asking d) c k = same c (record c { stage = Lost }) refl refl refl k
silent_keeps Seeking c k = says RemoveAccess c k
silent_keeps Settling c k = settle_keeps c (is_alone c.mask c.seen c.several) k
silent_keeps Operating c k = says RemoveAccess c k
silent_keeps Ended c k = k
silent_keeps Lost c k = k

lost_keeps : (c : Course) (b : Bool) → Knows c → Knows (if b then record c { stage = Lost } else c)
lost_keeps c true k = same c (record c { stage = Lost }) refl refl refl k
lost_keeps c false k = k

after_keeps : (event : Event) (c : Course) → Knows c → Knows (after event c)
after_keeps (Hears heard) c k = hear_keeps heard c k
after_keeps Silence c k = silent_keeps c.stage c k
after_keeps Loss c k = lost_keeps c (stands c.stage) k

follow_keeps : (events : List Event) (c : Course) → Knows c → Knows (follow events c)
follow_keeps [] c k = k
follow_keeps (event ∷ events) c k = follow_keeps events (after event c) (after_keeps event c k)

-- ---- what is said of it

by_refusal : (o : Option ℕ) (targets several : Bool) → denies_change (refused_or o targets (if several then Several else Unknown)) ≡ false
by_refusal (Some status) true several = refl
by_refusal (Some status) false several = refl
by_refusal None targets true = refl
by_refusal None targets false = refl

by_loss : (lost targets several : Bool) (o : Option ℕ) → denies_change (if lost then Unknown else refused_or o targets (if several then Several else Unknown)) ≡ false
by_loss true targets several o = refl
by_loss false targets several o = by_refusal o targets several

by_report : (reported lost targets several : Bool) (o : Option ℕ)
    → denies_change (if reported then Reported else if lost then Unknown else refused_or o targets (if several then Several else Unknown)) ≡ false
by_report true lost targets several o = refl
by_report false lost targets several o = by_loss lost targets several o

admits : (c : Course) → c.armed ≡ true → c.changes ≡ true → denies_change (outcome c) ≡ false
admits c armed changes = rw (armed, changes) (by_report c.reported (is_lost c.stage) c.refused_targets c.several c.refused)

pub admits_change : AdmitsChange
admits_change mask events h =
    let k = follow_keeps events (first_course mask true) (record { changes = refl; armed = refl }) in
    admits (follow events (first_course mask true)) (sym k.armed ∙ h) k.changes
