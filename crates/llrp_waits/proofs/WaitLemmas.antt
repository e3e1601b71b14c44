-- Courses end no later than their waits.
use Rattle.std.proofs.Common.{◌≡◌, ◌+◌, ◌≤◌, ◌&&◌, not, inl, inr, ⊎_elim, ℕ, List, [], ◌∷◌, Option, None, Some, Bool, true, false, if◌then◌else◌, refl, ◌∙◌, sym, subst, arith, le_refl}
use Rattle.llrp_waits.specs.declared.head.Head.{Head}
use Rattle.llrp_waits.specs.declared.wait.Wait.{Wait}
use Rattle.llrp_waits.specs.declared.waits.Awaited.TheVariants.{Answer}
use Rattle.llrp_waits.specs.declared.waits.Waits.{Waits}
use Rattle.llrp_waits.specs.Calls.Heads.{is_awaited}
use Rattle.llrp_waits.specs.Calls.Waits.{asks, awaited_wait, frame_wait, is_ended_by, is_own, left, left_in, left_of, silence_wait, sooner}
use Rattle.llrp_waits.specs.Calls.WaitLaws.{after, after_event, Answers, Asked, Event, Heard, IsOpen, IsWithin, KeepsTime, last_moment, NoAnswerInTime, NoCourseWaitsLonger, NoneAnswers, Passes, Took, Turn, WholeInTime}

sooner_first : (a b : Option ℕ) (most : ℕ) → IsWithin most a → IsWithin most (sooner a b)
sooner_first None b most h = absurd h
sooner_first (Some a) None most h = h
sooner_first (Some a) (Some b) most h = omega (arith, h)

sooner_second : (a b : Option ℕ) (most : ℕ) → IsWithin most b → IsWithin most (sooner a b)
sooner_second a None most h = absurd h
sooner_second None (Some b) most h = h
sooner_second (Some a) (Some b) most h = omega (arith, h)

of_wait : (o : Option Wait) (wait : Wait) (now : ℕ) → o ≡ Some wait → IsWithin (left_of now wait) (left_in now o)
of_wait o wait now h = subst (λ p. IsWithin (left_of now wait) (left_in now p)) (sym h) (le_refl _)

pub bounds : (w : Waits) (wait : Wait) (now : ℕ) → IsOpen wait w → IsWithin (left_of now wait) (left now w)
bounds w wait now opened =
    let asked = left_in now (awaited_wait w) in
    let heard = left_in now (silence_wait w) in
    let frame = left_in now (frame_wait w) in
    let whole = left_in now w.whole in
    let most = left_of now wait in
    let first : IsWithin most (sooner asked heard) → IsWithin most (left now w) = sooner_first (sooner asked heard) (sooner frame whole) most in
    let second : IsWithin most (sooner frame whole) → IsWithin most (left now w) = sooner_second (sooner asked heard) (sooner frame whole) most in
    ⊎_elim (λ h. first (sooner_first asked heard most (of_wait (awaited_wait w) wait now h)))
    (⊎_elim (λ h. first (sooner_second asked heard most (of_wait (silence_wait w) wait now h)))
    (⊎_elim (λ h. second (sooner_first frame whole most (of_wait (frame_wait w) wait now h)))
    (λ h. second (sooner_second frame whole most (of_wait w.whole wait now h))))) opened

passes_within : (o : Option ℕ) (most before now : ℕ) → IsWithin most o → Passes o before now → (before ≤ now) × (now ≤ before + most)
passes_within None most before now h p = absurd h
passes_within (Some n) most before now h p = (p.0, let bound = p.1 in omega (arith, h, bound))

-- a turn that keeps its time comes before an open wait is over
next_within : (wait : Wait) (w : Waits) (before now : ℕ) → IsOpen wait w → Passes (left before w) before now → wait.since ≤ before → before ≤ wait.since + wait.most
    → (wait.since ≤ now) × (now ≤ wait.since + wait.most)
next_within wait w before now opened passes since within =
    let p = passes_within (left before w) (left_of before wait) before now (bounds w wait before opened) passes in
    (omega (arith, p.0, since), omega (arith, p.0, p.1, since, within))

pub no_longer : NoCourseWaitsLonger
no_longer wait w [] now opened keeps since within = within
no_longer wait w (turn ∷ turns) now opened keeps since within =
    let n = next_within wait w now turn.at opened.0 keeps.0 since within in
    no_longer wait (after turn w) turns turn.at opened.1 keeps.1 n.0 n.1

-- ---- the wait as a whole

-- one of two with this wait as a whole has it
whole_of_either : (test : Bool) (x y : Waits) (whole : Option Wait) → x.whole ≡ whole → y.whole ≡ whole → (if test then x else y).whole ≡ whole
whole_of_either true x y whole first second = first
whole_of_either false x y whole first second = second

-- the wait as a whole stays as it is
whole_stays : (event : Event) (now : ℕ) (w : Waits) → (after_event event now w).whole ≡ w.whole
whole_stays (Asked request) now w = whole_of_either (not (is_own w.awaited) && is_awaited request) _ w w.whole refl refl
whole_stays (Took cut) now w = refl
whole_stays (Heard head) now w = whole_of_either (is_ended_by head w) _ w w.whole refl refl

pub whole : WholeInTime
whole wait w [] now is keeps since within = within
whole wait w (turn ∷ turns) now is keeps since within =
    let n = next_within wait w now turn.at (inr (inr (inr is))) keeps.0 since within in
    whole wait (after turn w) turns turn.at (whole_stays turn.event turn.at w ∙ is) keeps.1 n.0 n.1

-- ---- a request without an answer

-- its wait, which began at a moment
abbrev wait_of : ℕ → ℕ → Wait
wait_of since most = record { since = since; most = most }

-- the request is awaited, since this moment and for this long
abbrev IsAsked : Head → ℕ → ℕ → Waits → Type 0
IsAsked request since most w = (w.awaited ≡ Answer request) × (w.since ≡ since) × (w.bounds.answer ≡ Some most)

asked_stays : (request : Head) (since most now : ℕ) (event : Event) (w : Waits) → Answers request event ≡ false → IsAsked request since most w → IsAsked request since most (after_event event now w)
asked_stays request since most now (Asked other) w none is = grind arith
asked_stays request since most now (Took cut) w none is = is
asked_stays request since most now (Heard head) w none is = grind arith

asked_is_open : (request : Head) (since most : ℕ) (w : Waits) → IsAsked request since most w → IsOpen (wait_of since most) w
asked_is_open request since most w is = inl (grind arith)

stays_asked : (request : Head) (since most : ℕ) (w : Waits) (turns : List Turn) (now : ℕ) → IsAsked request since most w → NoneAnswers request turns → KeepsTime now w turns
    → since ≤ now → now ≤ since + most → last_moment now turns ≤ since + most
stays_asked request since most w [] now is none keeps from within = within
stays_asked request since most w (turn ∷ turns) now is none keeps from within =
    let n = next_within (wait_of since most) w now turn.at (asked_is_open request since most w is) keeps.0 from within in
    stays_asked request since most (after turn w) turns turn.at (asked_stays request since most turn.at turn.event w none.0 is) none.1 keeps.1 n.0 n.1

asks_so : (request : Head) (now most : ℕ) (w : Waits) → is_own w.awaited ≡ false → is_awaited request ≡ true → w.bounds.answer ≡ Some most → IsAsked request now most (asks request now w)
asks_so request now most w other awaited bound = grind arith

pub no_answer : NoAnswerInTime
no_answer request w turns now most other awaited bound none keeps =
    stays_asked request now most (asks request now w) turns now (asks_so request now most w other awaited bound) none keeps (le_refl _) (omega arith)
