-- The steps of a plan without those that only await a report.
use Rattle.std.proofs.Common.{◌≡◌, ℕ, zero, suc, Bool, true, false, List, [], ◌∷◌, ◌++◌, refl, sym, ap, subst, ◌∙◌}
use Rattle.std.specs.Prelude.{replicate, Result, Ok}
use Rattle.llrp_tree.specs.Tree.{Tree}
use Rattle.llrp_session.specs.declared.types.Command.TheVariants.{Add, Enable, Start, SetKeepalive, GetReport}
use Rattle.llrp_listing.specs.declared.outcome.ToolErr.{ToolErr}
use Rattle.llrp_endpoints.specs.declared.course.Awaits.{Awaits}
use Rattle.llrp_endpoints.specs.declared.course.Awaits.TheVariants.{Answer, TaggedReport, Report, End}
use Rattle.llrp_endpoints.specs.declared.course.Phase.TheVariants.{Open}
use Rattle.llrp_endpoints.specs.declared.course.Step.{Step}
use Rattle.llrp_endpoints.specs.declared.course.Step.TheVariants.{Send, AwaitTags}
use Rattle.llrp_endpoints.specs.declared.gathering.Gathering.{Gathering}
use Rattle.llrp_endpoints.specs.declared.gathering.remaining.Later.{Later}
use Rattle.llrp_endpoints.specs.declared.gathering.remaining.RemainingCommands.{RemainingCommands}
use Rattle.llrp_endpoints.specs.Plan.{Plan, adding, is_kept, is_started, keeping, removing, rospec_id, starting}
use Rattle.llrp_stream.specs.Decoding.{DecoderState}
use Rattle.llrp_stream.specs.Calls.Decoding.{StandsIn}
use Rattle.llrp_endpoints.specs.Gathering.{Beginning, Course, hurried, pressed, send_next, without_waits}
use Rattle.llrp_endpoints.specs.Calls.GatheringStands.{Holds, IsOpenFrom, Moves, further, adds_then_awaits, awaiting, closing, keeps_then_adds, later_of, polling, starts_then_awaits, steps_left}
use Rattle.llrp_endpoints.specs.Private.GatheringStands.{Does, KeepsOthers}
use Rattle.llrp_endpoints.proofs.GatheringFeeds.{gathers_anew}
use Rattle.llrp_endpoints.proofs.GatheringLemmas.{does_after, open_text, still}

-- ---- lists of steps

waits_after : (a b : List Step) → without_waits (a ++ b) ≡ without_waits a ++ without_waits b
waits_after [] b = refl
waits_after (Send k ∷ a) b = ap (λ (steps : List Step). Send k ∷ steps) (waits_after a b)
waits_after (AwaitTags ∷ a) b = waits_after a b

no_waits : (n : ℕ) → without_waits (replicate n AwaitTags) ≡ []
no_waits zero = refl
no_waits (suc n) = no_waits n

polls_stay : (n : ℕ) → without_waits (replicate n (Send GetReport)) ≡ replicate n (Send GetReport)
polls_stay zero = refl
polls_stay (suc n) = ap (λ (steps : List Step). Send GetReport ∷ steps) (polls_stay n)

removing_stays : (adds disables checked : Bool) (id : ℕ) → without_waits (removing adds disables checked id ++ closing) ≡ removing adds disables checked id ++ closing
removing_stays true disables true id = refl
removing_stays true disables false id = refl
removing_stays false disables checked id = refl

pub checking_stays : (checked : Bool) (id : ℕ) → without_waits (steps_left (RemainingCommands.Checking checked id)) ≡ steps_left (RemainingCommands.Checking checked id)
checking_stays true id = refl
checking_stays false id = refl

polling_stays : (l : Later) → without_waits (polling l) ≡ polling l
polling_stays l =
    let polls = replicate l.polls (Send GetReport) in
    let last = removing l.adds l.disables l.checked l.id ++ closing in
    waits_after polls last ∙ ap (λ (steps : List Step). steps ++ without_waits last) (polls_stay l.polls) ∙ ap (λ (steps : List Step). polls ++ steps) (removing_stays l.adds l.disables l.checked l.id)

pub awaiting_hurried : (l : Later) → awaiting (record l { reports = 0 }) ≡ without_waits (awaiting l)
awaiting_hurried l =
    sym (waits_after (replicate l.reports AwaitTags) (polling l) ∙ ap (λ (steps : List Step). steps ++ without_waits (polling l)) (no_waits l.reports) ∙ polling_stays l)

starting_hurried : (starts : Bool) (id : ℕ) (l : Later) → starting starts id ++ awaiting (record l { reports = 0 }) ≡ without_waits (starting starts id ++ awaiting l)
starting_hurried true id l = ap (λ (steps : List Step). Send (Start id) ∷ steps) (awaiting_hurried l)
starting_hurried false id l = awaiting_hurried l

pub starts_hurried : (l : Later) → starts_then_awaits (record l { reports = 0 }) ≡ without_waits (starts_then_awaits l)
starts_hurried l = starting_hurried l.starts l.id l

adding_hurried : (adds starts : Bool) (rospec : Tree) (id : ℕ) (l : Later) → adding adds starts rospec id ++ awaiting (record l { reports = 0 }) ≡ without_waits (adding adds starts rospec id ++ awaiting l)
adding_hurried true starts rospec id l = ap (λ (steps : List Step). Send (Add rospec) ∷ Send (Enable id) ∷ steps) (starting_hurried starts id l)
adding_hurried false starts rospec id l = awaiting_hurried l

pub adds_hurried : (plan : Plan) → adds_then_awaits (record plan { reports = 0 }) ≡ without_waits (adds_then_awaits plan)
adds_hurried plan = adding_hurried plan.adds (is_started plan) plan.rospec (rospec_id plan) (later_of plan)

keeping_hurried : (keeps : Bool) (ms : ℕ) (a b : List Step) → a ≡ without_waits b → keeping keeps ms ++ a ≡ without_waits (keeping keeps ms ++ b)
keeping_hurried true ms a b e = ap (λ (steps : List Step). Send (SetKeepalive ms) ∷ steps) e
keeping_hurried false ms a b e = e

pub keeps_hurried : (plan : Plan) → keeps_then_adds (record plan { reports = 0 }) ≡ without_waits (keeps_then_adds plan)
keeps_hurried plan = keeping_hurried (is_kept plan) plan.keepalive _ _ (adds_hurried plan)

-- ---- a course

-- it is so far, with those steps left
pub holds_hurried : (c : Course) (g : Gathering) (left : RemainingCommands) → Holds c g → steps_left left ≡ without_waits (steps_left g.left) → Holds (record c { left = without_waits c.left }) (record g { left = left })
holds_hurried c g left h e = record { client_is = h.client_is; form_is = h.form_is; asides_are = h.asides_are; left_is = e ∙ ap without_waits h.left_is; awaits_is = h.awaits_is; counts = h.counts }

pressed_there : (g : Awaits) (c : Course) → g ≡ TaggedReport → g ≡ c.awaits → send_next (record c { left = without_waits c.left }) ≡ hurried c
pressed_there g c w e = ap (λ (a : Awaits). pressed a (record c { left = without_waits c.left })) (sym w ∙ e)

-- a wait for a report with a tag ends
pub wait_ends : (c : Course) (g new : Gathering) (o0 o1 r : List ℕ) (answer : Result Bool ToolErr) → Holds c g → c.phase ≡ Open → g.awaits ≡ TaggedReport
    → Does (record c { left = without_waits c.left }) (send_next (record c { left = without_waits c.left })) new o0 o1 r r answer → Does c (hurried c) new o0 o1 r r answer
wait_ends c g new o0 o1 r answer h opened w does =
    let d : Course = record c { left = without_waits c.left } in
    subst (λ (e : Course). Does c e new o0 o1 r r answer) (pressed_there g.awaits c w h.awaits_is)
    (does_after c d (send_next d) new o0 o0 o1 r r r answer (still c d o0 r refl refl refl refl (open_text c.form c.phase c.reports opened)) opened does)

waits_else : (g : Awaits) (c : Course) → (g ≡ TaggedReport → ⊥) → g ≡ c.awaits → record c { left = without_waits c.left } ≡ hurried c
waits_else Answer c w e = ap (λ (a : Awaits). pressed a (record c { left = without_waits c.left })) e
waits_else Report c w e = ap (λ (a : Awaits). pressed a (record c { left = without_waits c.left })) e
waits_else End c w e = ap (λ (a : Awaits). pressed a (record c { left = without_waits c.left })) e
waits_else TaggedReport c w e = absurd (w refl)

-- something else is awaited
pub wait_goes_on : (c : Course) (g : Gathering) (left : RemainingCommands) (o r : List ℕ) → Holds c g → c.phase ≡ Open → (g.awaits ≡ TaggedReport → ⊥) → steps_left left ≡ without_waits (steps_left g.left)
    → Does c (hurried c) (record g { left = left }) o o r r (Ok false)
wait_goes_on c g left o r h opened w e =
    let d : Course = record c { left = without_waits c.left } in
    let g2 : Gathering = record g { left = left } in
    subst (λ (x : Course). Does c x g2 o o r r (Ok false)) (waits_else g.awaits c w h.awaits_is)
    (opened, holds_hurried c g left h e, still c d o r refl refl refl refl (open_text c.form c.phase c.reports opened))

-- it stands there, and begins anew
pub hurry_stands : (b : Beginning) (bytes rest : List ℕ) (c : Course) (g n : Gathering) (o0 o1 : List ℕ) → IsOpenFrom b bytes rest c g → KeepsOthers g n → Does c (hurried c) n o0 o1 [] [] (Ok false)
    → IsOpenFrom (further b (hurried c)) rest rest (hurried c) n × Moves c (hurried c) o0 o1 [] []
hurry_stands b bytes rest c g n o0 o1 s k does = (
  record {
    stands = record {
      gathers = gathers_anew b rest (hurried c);
      open_is = does.0;
      holds = does.1;
      decoder = subst (λ (d : DecoderState). StandsIn b.hearing.set d rest) (sym k.decoder) s.stands.decoder;
      limit_is = ap (λ (d : DecoderState). d.limit) k.decoder ∙ s.stands.limit_is;
      hearing_is = k.hearing ∙ s.stands.hearing_is;
    };
    phase = k.phase ∙ s.phase;
  },
  does.2,
)
