-- The steps of a plan: what holds of each, how many commands and reports are among them, and that only the last closes.
use Rattle.std.proofs.Common.{◌≡◌, ℕ, zero, suc, ◌+◌, ◌≤◌, List, [], ◌∷◌, ◌++◌, length, refl, sym, ap, subst, ◌∙◌, append_assoc, arith}
use Rattle.std.specs.Prelude.{replicate, ◌≢◌, Bool, true, false}
use Rattle.std.specs.List.{AllByRecursion}
use Rattle.std.proofs.lemmas.List.{append-nil}
use Rattle.llrp_session.specs.declared.types.Command.{Command}
use Rattle.llrp_session.specs.declared.types.Command.TheVariants.{Add, Delete, Start, Stop, Enable, Disable, GetRospecs, SetKeepalive, GetReport, Close}
use Rattle.llrp_session.specs.Contents.{Asks, ClientMessage}
use Rattle.llrp_endpoints.specs.declared.course.Step.{Step}
use Rattle.llrp_endpoints.specs.declared.course.Step.TheVariants.{Send, AwaitTags}
use Rattle.llrp_tree.specs.Tree.{Tree}
use Rattle.llrp_endpoints.specs.Plan.{Plan, rospec_id, is_kept, is_started, cleaning, keeping, starting, adding, ending, checking, removing, steps}
use Rattle.llrp_endpoints.specs.Calls.Plans.{commands, commands_in}
use Rattle.llrp_endpoints.specs.Calls.PlanLaws.{numbered}

-- ---- what holds of each step

-- all steps but the last one
but_last : Plan → List Step
but_last plan =
    cleaning plan.cleans plan.renews (rospec_id plan) ++ (keeping (is_kept plan) plan.keepalive
    ++ (adding plan.adds (is_started plan) plan.rospec (rospec_id plan)
    ++ (replicate plan.reports AwaitTags ++ (replicate plan.polls (Send GetReport)
    ++ removing plan.adds plan.disables plan.checked (rospec_id plan)))))

all_steps : (plan : Plan) → steps plan ≡ but_last plan ++ Send Close ∷ []
unfolding steps but_last
all_steps plan =
    let id : ℕ = rospec_id plan in
    let last : List Step = Send Close ∷ [] in
    let cleans : List Step = cleaning plan.cleans plan.renews id in
    let keeps : List Step = keeping (is_kept plan) plan.keepalive in
    let adds : List Step = adding plan.adds (is_started plan) plan.rospec id in
    let waits : List Step = replicate plan.reports AwaitTags in
    let polls : List Step = replicate plan.polls (Send GetReport) in
    let removes : List Step = removing plan.adds plan.disables plan.checked id in
    sym
    (append_assoc cleans (keeps ++ (adds ++ (waits ++ (polls ++ removes)))) last
    ∙ ap (λ (x : List Step). cleans ++ x)
    (append_assoc keeps (adds ++ (waits ++ (polls ++ removes))) last
    ∙ ap (λ (x : List Step). keeps ++ x)
    (append_assoc adds (waits ++ (polls ++ removes)) last
    ∙ ap (λ (x : List Step). adds ++ x)
    (append_assoc waits (polls ++ removes) last
    ∙ ap (λ (x : List Step). waits ++ x)
    (append_assoc polls removes last)))))

-- it holds of each step that a plan of this ROSpec can have, but the last one
pub record OfEach (P : Step → Type 0) (plan : Plan) : Type 0 where
  pub cleans : P (Send (Delete 0))
  pub keeps : P (Send (SetKeepalive plan.keepalive))
  pub adds : P (Send (Add plan.rospec))
  pub enables : P (Send (Enable (rospec_id plan)))
  pub starts : P (Send (Start (rospec_id plan)))
  pub awaits : P AwaitTags
  pub polls : P (Send GetReport)
  pub stops : P (Send (Stop (rospec_id plan)))
  pub disables : P (Send (Disable (rospec_id plan)))
  pub checks : P (Send GetRospecs)
  pub deletes : P (Send (Delete (rospec_id plan)))

all_append : (P : Step → Type 0) (a b : List Step) → AllByRecursion P a → AllByRecursion P b → AllByRecursion P (a ++ b)
all_append P [] b p q = q
all_append P (step ∷ a) b p q = (p.0, all_append P a b p.1 q)

all_replicate : (P : Step → Type 0) (n : ℕ) (step : Step) → P step → AllByRecursion P (replicate n step)
all_replicate P zero step p = tt
all_replicate P (suc n) step p = (p, all_replicate P n step p)

all_cleaning : (P : Step → Type 0) (cleans renews : Bool) (id : ℕ) → P (Send (Delete 0)) → P (Send (Delete id)) → AllByRecursion P (cleaning cleans renews id)
all_cleaning P true renews id p q = (p, tt)
all_cleaning P false true id p q = (q, tt)
all_cleaning P false false id p q = tt

all_keeping : (P : Step → Type 0) (kept : Bool) (ms : ℕ) → P (Send (SetKeepalive ms)) → AllByRecursion P (keeping kept ms)
all_keeping P true ms p = (p, tt)
all_keeping P false ms p = tt

all_starting : (P : Step → Type 0) (starts : Bool) (id : ℕ) → P (Send (Start id)) → AllByRecursion P (starting starts id)
all_starting P true id p = (p, tt)
all_starting P false id p = tt

all_checking : (P : Step → Type 0) (checked : Bool) → P (Send GetRospecs) → AllByRecursion P (checking checked)
all_checking P true p = (p, tt)
all_checking P false p = tt

all_adding : (P : Step → Type 0) (adds starts : Bool) (rospec : Tree) (id : ℕ) → P (Send (Add rospec)) → P (Send (Enable id)) → P (Send (Start id)) → AllByRecursion P (adding adds starts rospec id)
all_adding P true starts rospec id p q r = (p, (q, all_starting P starts id r))
all_adding P false starts rospec id p q r = tt

of_ending : (P : Step → Type 0) (disables : Bool) (id : ℕ) → P (Send (Disable id)) → P (Send (Stop id)) → P (Send (ending disables id))
of_ending P true id p q = p
of_ending P false id p q = q

all_removing : (P : Step → Type 0) (adds : Bool) (plan : Plan) → OfEach P plan → AllByRecursion P (removing adds plan.disables plan.checked (rospec_id plan))
all_removing P true plan h = (of_ending P plan.disables (rospec_id plan) h.disables h.stops, all_append P (checking plan.checked) _ (all_checking P plan.checked h.checks) (h.deletes, tt))
all_removing P false plan h = tt

all_but_last : (P : Step → Type 0) (plan : Plan) → OfEach P plan → AllByRecursion P (but_last plan)
unfolding but_last
all_but_last P plan h =
    let id : ℕ = rospec_id plan in
    all_append P (cleaning plan.cleans plan.renews id) _ (all_cleaning P plan.cleans plan.renews id h.cleans h.deletes)
    (all_append P (keeping (is_kept plan) plan.keepalive) _ (all_keeping P (is_kept plan) plan.keepalive h.keeps)
    (all_append P (adding plan.adds (is_started plan) plan.rospec id) _ (all_adding P plan.adds (is_started plan) plan.rospec id h.adds h.enables h.starts)
    (all_append P (replicate plan.reports AwaitTags) _ (all_replicate P plan.reports AwaitTags h.awaits)
    (all_append P (replicate plan.polls (Send GetReport)) _ (all_replicate P plan.polls (Send GetReport) h.polls) (all_removing P plan.adds plan h)))))

pub each_step : (P : Step → Type 0) (plan : Plan) → OfEach P plan → P (Send Close) → AllByRecursion P (steps plan)
each_step P plan h last =
    subst (λ (x : List Step). AllByRecursion P x) (sym (all_steps plan)) (all_append P (but_last plan) (Send Close ∷ []) (all_but_last P plan h) (last, tt))

-- ---- how many there are

total : (Step → ℕ) → List Step → ℕ
total w [] = 0
total w (step ∷ steps) = w step + total w steps

total-append : (w : Step → ℕ) (a b : List Step) → total w (a ++ b) ≡ total w a + total w b
unfolding total
total-append w [] b = omega arith
total-append w (step ∷ a) b = let ih = total-append w a b in omega (arith, ih)

total-ones : (w : Step → ℕ) (n : ℕ) (step : Step) → w step ≡ 1 → total w (replicate n step) ≡ n
unfolding total
total-ones w zero step one = refl
total-ones w (suc n) step one = let ih = total-ones w n step one in omega (arith, ih, one)

total-none : (w : Step → ℕ) (n : ℕ) (step : Step) → w step ≡ 0 → total w (replicate n step) ≡ 0
unfolding total
total-none w zero step none = refl
total-none w (suc n) step none = let ih = total-none w n step none in omega (arith, ih, none)

-- the commands

abbrev sends_of : Step → ℕ
sends_of (Send k) = 1
sends_of AwaitTags = 0

how_many : (ss : List Step) → length (commands_in ss) ≡ total sends_of ss
unfolding total
how_many [] = refl
how_many (Send k ∷ ss) = let ih = how_many ss in omega (arith, ih)
how_many (AwaitTags ∷ ss) = let ih = how_many ss in omega (arith, ih)

one_cleaning : (cleans renews : Bool) (id : ℕ) → total sends_of (cleaning cleans renews id) ≤ 1
unfolding total
one_cleaning true renews id = omega arith
one_cleaning false true id = omega arith
one_cleaning false false id = omega arith

one_keeping : (kept : Bool) (ms : ℕ) → total sends_of (keeping kept ms) ≤ 1
unfolding total
one_keeping true ms = omega arith
one_keeping false ms = omega arith

one_start : (starts : Bool) (id : ℕ) → total sends_of (starting starts id) ≤ 1
unfolding total
one_start true id = omega arith
one_start false id = omega arith

one_check : (checked : Bool) → total sends_of (checking checked) ≤ 1
unfolding total
one_check true = omega arith
one_check false = omega arith

few_adding : (adds starts : Bool) (rospec : Tree) (id : ℕ) → total sends_of (adding adds starts rospec id) ≤ 3
unfolding total
few_adding true starts rospec id = omega (arith, one_start starts id)
few_adding false starts rospec id = omega arith

few_removing : (adds disables checked : Bool) (id : ℕ) → total sends_of (removing adds disables checked id) ≤ 3
unfolding total
few_removing true disables checked id = omega (arith, total-append sends_of (checking checked) (Send (Delete id) ∷ []), one_check checked)
few_removing false disables checked id = omega arith

pub length-commands : (plan : Plan) → length (commands plan) ≤ plan.polls + 9
unfolding steps total
length-commands plan =
    let id : ℕ = rospec_id plan in
    let cleans : List Step = cleaning plan.cleans plan.renews id in
    let keeps : List Step = keeping (is_kept plan) plan.keepalive in
    let adds : List Step = adding plan.adds (is_started plan) plan.rospec id in
    let waits : List Step = replicate plan.reports AwaitTags in
    let polls : List Step = replicate plan.polls (Send GetReport) in
    let removes : List Step = removing plan.adds plan.disables plan.checked id in
    let last : List Step = Send Close ∷ [] in
    omega (
      arith,
      how_many (steps plan),
      total-append sends_of cleans (keeps ++ (adds ++ (waits ++ (polls ++ (removes ++ last))))),
      one_cleaning plan.cleans plan.renews id,
      total-append sends_of keeps (adds ++ (waits ++ (polls ++ (removes ++ last)))),
      one_keeping (is_kept plan) plan.keepalive,
      total-append sends_of adds (waits ++ (polls ++ (removes ++ last))),
      few_adding plan.adds (is_started plan) plan.rospec id,
      total-append sends_of waits (polls ++ (removes ++ last)),
      total-none sends_of plan.reports AwaitTags refl,
      total-append sends_of polls (removes ++ last),
      total-ones sends_of plan.polls (Send GetReport) refl,
      total-append sends_of removes last,
      few_removing plan.adds plan.disables plan.checked id,
    )

-- ---- how many reports they await

-- a poll awaits one
abbrev pub poll_of : Command → ℕ
poll_of GetReport = 1
poll_of (Add spec) = 0
poll_of (Delete id) = 0
poll_of (Start id) = 0
poll_of (Stop id) = 0
poll_of (Enable id) = 0
poll_of (Disable id) = 0
poll_of GetRospecs = 0
poll_of (SetKeepalive ms) = 0
poll_of Close = 0

-- how many reports a step awaits
abbrev pub report_of : Step → ℕ
report_of (Send k) = poll_of k
report_of AwaitTags = 1

-- of those with a tag
abbrev pub tagged_of : Step → ℕ
tagged_of (Send k) = 0
tagged_of AwaitTags = 1

pub reports_in : List Step → ℕ
reports_in ss = total report_of ss

pub tagged_in : List Step → ℕ
tagged_in ss = total tagged_of ss

pub reports_in-none : reports_in [] ≡ 0
unfolding reports_in total
reports_in-none = refl

pub tagged_in-none : tagged_in [] ≡ 0
unfolding tagged_in total
tagged_in-none = refl

pub reports_in-last : (a : List Step) (step : Step) → reports_in (a ++ step ∷ []) ≡ reports_in a + report_of step
unfolding reports_in total
reports_in-last a step = omega (arith, total-append report_of a (step ∷ []))

pub tagged_in-last : (a : List Step) (step : Step) → tagged_in (a ++ step ∷ []) ≡ tagged_in a + tagged_of step
unfolding tagged_in total
tagged_in-last a step = omega (arith, total-append tagged_of a (step ∷ []))

pub one_at_most : (k : Command) → poll_of k ≤ 1
one_at_most GetReport = omega arith
one_at_most (Add spec) = omega arith
one_at_most (Delete id) = omega arith
one_at_most (Start id) = omega arith
one_at_most (Stop id) = omega arith
one_at_most (Enable id) = omega arith
one_at_most (Disable id) = omega arith
one_at_most GetRospecs = omega arith
one_at_most (SetKeepalive ms) = omega arith
one_at_most Close = omega arith

none_cleaning : (cleans renews : Bool) (id : ℕ) → total report_of (cleaning cleans renews id) ≡ 0
unfolding total
none_cleaning true renews id = refl
none_cleaning false true id = refl
none_cleaning false false id = refl

none_keeping : (kept : Bool) (ms : ℕ) → total report_of (keeping kept ms) ≡ 0
unfolding total
none_keeping true ms = refl
none_keeping false ms = refl

none_starting : (starts : Bool) (id : ℕ) → total report_of (starting starts id) ≡ 0
unfolding total
none_starting true id = refl
none_starting false id = refl

none_checking : (checked : Bool) → total report_of (checking checked) ≡ 0
unfolding total
none_checking true = refl
none_checking false = refl

no_poll_ends : (disables : Bool) (id : ℕ) → poll_of (ending disables id) ≡ 0
no_poll_ends true id = refl
no_poll_ends false id = refl

none_adding : (adds starts : Bool) (rospec : Tree) (id : ℕ) → total report_of (adding adds starts rospec id) ≡ 0
unfolding total
none_adding true starts rospec id = omega (arith, none_starting starts id)
none_adding false starts rospec id = refl

none_removing : (adds disables checked : Bool) (id : ℕ) → total report_of (removing adds disables checked id) ≡ 0
unfolding total
none_removing true disables checked id =
    omega (arith, no_poll_ends disables id, total-append report_of (checking checked) (Send (Delete id) ∷ []), none_checking checked)
none_removing false disables checked id = refl

pub reports_in-steps : (plan : Plan) → reports_in (steps plan) ≡ plan.reports + plan.polls
unfolding reports_in steps total
reports_in-steps plan =
    let id : ℕ = rospec_id plan in
    let cleans : List Step = cleaning plan.cleans plan.renews id in
    let keeps : List Step = keeping (is_kept plan) plan.keepalive in
    let adds : List Step = adding plan.adds (is_started plan) plan.rospec id in
    let waits : List Step = replicate plan.reports AwaitTags in
    let polls : List Step = replicate plan.polls (Send GetReport) in
    let removes : List Step = removing plan.adds plan.disables plan.checked id in
    let last : List Step = Send Close ∷ [] in
    omega (
      arith,
      total-append report_of cleans (keeps ++ (adds ++ (waits ++ (polls ++ (removes ++ last))))),
      none_cleaning plan.cleans plan.renews id,
      total-append report_of keeps (adds ++ (waits ++ (polls ++ (removes ++ last)))),
      none_keeping (is_kept plan) plan.keepalive,
      total-append report_of adds (waits ++ (polls ++ (removes ++ last))),
      none_adding plan.adds (is_started plan) plan.rospec id,
      total-append report_of waits (polls ++ (removes ++ last)),
      total-ones report_of plan.reports AwaitTags refl,
      total-append report_of polls (removes ++ last),
      total-ones report_of plan.polls (Send GetReport) refl,
      total-append report_of removes last,
      none_removing plan.adds plan.disables plan.checked id,
    )

untagged_cleaning : (cleans renews : Bool) (id : ℕ) → total tagged_of (cleaning cleans renews id) ≡ 0
unfolding total
untagged_cleaning true renews id = refl
untagged_cleaning false true id = refl
untagged_cleaning false false id = refl

untagged_keeping : (kept : Bool) (ms : ℕ) → total tagged_of (keeping kept ms) ≡ 0
unfolding total
untagged_keeping true ms = refl
untagged_keeping false ms = refl

untagged_starting : (starts : Bool) (id : ℕ) → total tagged_of (starting starts id) ≡ 0
unfolding total
untagged_starting true id = refl
untagged_starting false id = refl

untagged_checking : (checked : Bool) → total tagged_of (checking checked) ≡ 0
unfolding total
untagged_checking true = refl
untagged_checking false = refl

untagged_adding : (adds starts : Bool) (rospec : Tree) (id : ℕ) → total tagged_of (adding adds starts rospec id) ≡ 0
unfolding total
untagged_adding true starts rospec id = omega (arith, untagged_starting starts id)
untagged_adding false starts rospec id = refl

untagged_removing : (adds disables checked : Bool) (id : ℕ) → total tagged_of (removing adds disables checked id) ≡ 0
unfolding total
untagged_removing true disables checked id = omega (arith, total-append tagged_of (checking checked) (Send (Delete id) ∷ []), untagged_checking checked)
untagged_removing false disables checked id = refl

pub tagged_in-steps : (plan : Plan) → tagged_in (steps plan) ≡ plan.reports
unfolding tagged_in steps total
tagged_in-steps plan =
    let id : ℕ = rospec_id plan in
    let cleans : List Step = cleaning plan.cleans plan.renews id in
    let keeps : List Step = keeping (is_kept plan) plan.keepalive in
    let adds : List Step = adding plan.adds (is_started plan) plan.rospec id in
    let waits : List Step = replicate plan.reports AwaitTags in
    let polls : List Step = replicate plan.polls (Send GetReport) in
    let removes : List Step = removing plan.adds plan.disables plan.checked id in
    let last : List Step = Send Close ∷ [] in
    omega (
      arith,
      total-append tagged_of cleans (keeps ++ (adds ++ (waits ++ (polls ++ (removes ++ last))))),
      untagged_cleaning plan.cleans plan.renews id,
      total-append tagged_of keeps (adds ++ (waits ++ (polls ++ (removes ++ last)))),
      untagged_keeping (is_kept plan) plan.keepalive,
      total-append tagged_of adds (waits ++ (polls ++ (removes ++ last))),
      untagged_adding plan.adds (is_started plan) plan.rospec id,
      total-append tagged_of waits (polls ++ (removes ++ last)),
      total-ones tagged_of plan.reports AwaitTags refl,
      total-append tagged_of polls (removes ++ last),
      total-none tagged_of plan.polls (Send GetReport) refl,
      total-append tagged_of removes last,
      untagged_removing plan.adds plan.disables plan.checked id,
    )

-- ---- only the last closes

abbrev NotClosing : Step → Type 0
NotClosing step = step ≢ Send Close

none_closes : (plan : Plan) → AllByRecursion NotClosing (but_last plan)
none_closes plan =
    let each : OfEach NotClosing plan = record {
      cleans = λ e. cc;
      keeps = λ e. cc;
      adds = λ e. cc;
      enables = λ e. cc;
      starts = λ e. cc;
      awaits = λ e. cc;
      polls = λ e. cc;
      stops = λ e. cc;
      disables = λ e. cc;
      checks = λ e. cc;
      deletes = λ e. cc;
    } in
    all_but_last NotClosing plan each

never_none : (before left : List Step) → [] ≡ (before ++ Send Close ∷ []) ++ left → ⊥
never_none [] left e = cc
never_none (b ∷ before) left e = cc

only_last : (ss before left : List Step) → AllByRecursion NotClosing ss → ss ++ Send Close ∷ [] ≡ (before ++ Send Close ∷ []) ++ left → left ≡ []
only_last [] [] left none e = cc
only_last [] (b ∷ before) left none e = let tails : [] ≡ (before ++ Send Close ∷ []) ++ left = cc in absurd (never_none before left tails)
only_last (s ∷ ss) [] left none e = let same : s ≡ Send Close = cc in absurd (none.0 same)
only_last (s ∷ ss) (b ∷ before) left none e = let tails : ss ++ Send Close ∷ [] ≡ (before ++ Send Close ∷ []) ++ left = cc in only_last ss before left none.1 tails

-- where a plan closes, no step is left
pub last_closes : (plan : Plan) (before left : List Step) → steps plan ≡ (before ++ Send Close ∷ []) ++ left → left ≡ []
last_closes plan before left e = only_last (but_last plan) before left (none_closes plan) (sym (all_steps plan) ∙ e)

no_last : {A : Type 0} (ys : List A) (y : A) → [] ≡ ys ++ y ∷ [] → ⊥
no_last [] y e = cc
no_last (b ∷ ys) y e = cc

pub same_last : {A : Type 0} (xs ys : List A) (x y : A) → xs ++ x ∷ [] ≡ ys ++ y ∷ [] → x ≡ y
same_last [] [] x y e = cc
same_last {A} [] (b ∷ ys) x y e = let none : [] ≡ ys ++ y ∷ [] = cc in absurd (no_last ys y none)
same_last {A} (a ∷ xs) [] x y e = let none : xs ++ x ∷ [] ≡ [] = cc in absurd (no_last xs x (sym none))
same_last {A} (a ∷ xs) (b ∷ ys) x y e = let tails : xs ++ x ∷ [] ≡ ys ++ y ∷ [] = cc in same_last xs ys x y tails

pub same_before : {A : Type 0} (xs ys : List A) (x y : A) → xs ++ x ∷ [] ≡ ys ++ y ∷ [] → xs ≡ ys
same_before [] [] x y e = refl
same_before {A} [] (b ∷ ys) x y e = let none : [] ≡ ys ++ y ∷ [] = cc in absurd (no_last ys y none)
same_before {A} (a ∷ xs) [] x y e = let none : xs ++ x ∷ [] ≡ [] = cc in absurd (no_last xs x (sym none))
same_before {A} (a ∷ xs) (b ∷ ys) x y e =
    let tails : xs ++ x ∷ [] ≡ ys ++ y ∷ [] = cc in
    let heads : a ≡ b = cc in
    let ih : xs ≡ ys = same_before xs ys x y tails in cc

-- the last step of a plan closes
pub closes_last : (plan : Plan) (before : List Step) (step : Step) → steps plan ≡ (before ++ step ∷ []) ++ [] → step ≡ Send Close
closes_last plan before step e = sym (same_last (but_last plan) before (Send Close) step (sym (all_steps plan) ∙ e ∙ append-nil (before ++ step ∷ [])))

-- a plan has steps
pub some_steps : (plan : Plan) → steps plan ≡ [] → ⊥
some_steps plan e = no_last (but_last plan) (Send Close) (sym e ∙ all_steps plan)

-- ---- their messages

pub commands_in-append : (a b : List Step) → commands_in (a ++ b) ≡ commands_in a ++ commands_in b
commands_in-append [] b = refl
commands_in-append (Send k ∷ a) b = ap (λ (ks : List Command). k ∷ ks) (commands_in-append a b)
commands_in-append (AwaitTags ∷ a) b = commands_in-append a b

pub length-numbered : (id : ℕ) (ks : List Command) → length (numbered id ks) ≡ length ks
length-numbered id [] = refl
length-numbered id (k ∷ ks) = let ih = length-numbered (id + 1) ks in omega (arith, ih)

pub numbered-append : (id : ℕ) (a b : List Command) → numbered id (a ++ b) ≡ numbered id a ++ numbered (id + length a) b
numbered-append id [] b = let e : id ≡ id + 0 = omega arith in ap (λ (n : ℕ). numbered n b) e
numbered-append id (k ∷ a) b =
    let e : id + 1 + length a ≡ id + length (k ∷ a) = omega arith in
    let head : ClientMessage = record { id = id; word = Asks k } in
    ap (λ (ms : List ClientMessage). head ∷ ms) (numbered-append (id + 1) a b ∙ ap (λ (n : ℕ). numbered (id + 1) a ++ numbered n b) e)

-- the messages of steps, of which the last is this one
pub numbered-last : (first : List Step) (step : Step) → numbered 1 (commands_in (first ++ step ∷ [])) ≡ numbered 1 (commands_in first) ++ numbered (length (commands_in first) + 1) (commands_in (step ∷ []))
numbered-last first step =
    let e : 1 + length (commands_in first) ≡ length (commands_in first) + 1 = omega arith in
    ap (numbered 1) (commands_in-append first (step ∷ [])) ∙ numbered-append 1 (commands_in first) (commands_in (step ∷ []))
    ∙ ap (λ (n : ℕ). numbered 1 (commands_in first) ++ numbered n (commands_in (step ∷ []))) e
