-- Steps one after another, and what is sent of what is said.
use Rattle.std.proofs.Common.{◌≡◌, ℕ, ◌+◌, if◌then◌else◌, false, List, [], ◌∷◌, ◌++◌, map, Option, Some, None, refl, sym, ap, subst, ◌∙◌, append_assoc, arith, inl}
use Rattle.std.proofs.lemmas.List.{append-nil}
use Rattle.llrp_tree.specs.Tree.{MessageTree}
use Rattle.llrp_stream.specs.Items.{ItemsSoFarIn}
use Rattle.llrp_stream.specs.declared.item.Item.{Item}
use Rattle.llrp_stream.specs.declared.item.Item.TheVariants.{Msg, Bad}
use Rattle.llrp_schema.specs.declared.kinds.KindSet.TheVariants.{Standard}
use Rattle.llrp_session.specs.Calls.NextClient.{for_next_client}
use Rattle.llrp_session.specs.ReaderMachine.{Reader}
use Rattle.llrp_versions.specs.declared.version.Version.{Version}
use Rattle.llrp_versions.specs.declared.version.Version.TheVariants.{First}
use Rattle.llrp_answers.specs.declared.answers.Pair.{Pair}
use Rattle.llrp_endpoints.specs.declared.script.Entry.{Entry}
use Rattle.llrp_endpoints.specs.Serving.{entries_at}
use Rattle.llrp_live.specs.declared.fault_places.FaultPlace.{FaultPlace}
use Rattle.llrp_live.specs.Calls.Doings.{Dated, agreed, closes, comes_in, course, doing, next_version, once}
use Rattle.llrp_live.specs.Calls.Living.{NoneCloses, came}
use Rattle.llrp_live.specs.Calls.RefusedRequests.{refused_place}
use Rattle.llrp_general.specs.Calls.Located.{MayPlace, WithPlace}
use Rattle.llrp_general.specs.Calls.Serving.{Setting, Step, AreSent, Begins, IsDone, IsSentFor, all_dated, by_script, connecting, count_after, due_after, next_step, steps, steps_from, taking}
use Rattle.llrp_general.specs.Private.Acting.{entry_dates}
use Rattle.llrp_live.proofs.LiveLemmas.{reader-append}
use Rattle.llrp_general.proofs.ActingLemmas.{dated-append}

-- ---- one more item

pub came_push : (ps : List Pair) (v : Version) (items : List Item) (item : Item) → came ps v (items ++ item ∷ []) ≡ came ps v items + (if comes_in (doing ps (agreed v items) item) then 1 else 0)
came_push ps v [] item = omega arith
came_push ps v (i ∷ items) item = rw (came_push ps (next_version v i) items item) (omega arith)

steps_from-snoc : (s : Setting) (count : ℕ) (v : Version) (items : List Item) (item : Item) → steps_from s count v (items ++ item ∷ [])
    ≡ steps_from s count v items ++ (taking s (count + came s.answers v items) (agreed v items) item ∷ due_after s.entries (count + came s.answers v items) (doing s.answers (agreed v items) item))
steps_from-snoc s count v [] item =
    let e : count + 0 ≡ count = omega arith in
    rw (e, append-nil (due_after s.entries count (doing s.answers v item))) refl
steps_from-snoc s count v (first ∷ items) item =
    let what = doing s.answers v first in
    let due : List Step = due_after s.entries count what in
    let k : ℕ = count_after count what in
    let u : Version = next_version v first in
    let last : ℕ → List Step = λ (n : ℕ). taking s n (agreed u items) item ∷ due_after s.entries n (doing s.answers (agreed u items) item) in
    let e : k + came s.answers u items ≡ count + came s.answers v (first ∷ items) = omega arith in
    ap (λ (xs : List Step). taking s count v first ∷ (due ++ xs)) (steps_from-snoc s k u items item ∙ ap (λ (n : ℕ). steps_from s k u items ++ last n) e)
    ∙ ap (λ (xs : List Step). taking s count v first ∷ xs) (sym (append_assoc due (steps_from s k u items) (last (count + came s.answers v (first ∷ items)))))

-- what is done of the script after one more item
abbrev pub due_here : Setting → List Item → Item → List Step
due_here s items item = due_after s.entries (came s.answers First items) (doing s.answers (agreed First items) item)

zero_more : (n : ℕ) → 0 + n ≡ n
zero_more n = omega arith

pub steps-snoc : (s : Setting) (items : List Item) (item : Item) → steps s (items ++ item ∷ []) ≡ steps s items ++ (next_step s items item ∷ due_here s items item)
unfolding steps
steps-snoc s items item =
    let first : List Step = map by_script (entries_at 0 s.entries) in
    let last : ℕ → List Step = λ (n : ℕ). taking s n (agreed First items) item ∷ due_after s.entries n (doing s.answers (agreed First items) item) in
    let step : steps_from s 0 First (items ++ item ∷ []) ≡ steps_from s 0 First items ++ last (came s.answers First items) =
    steps_from-snoc s 0 First items item ∙ ap (λ (n : ℕ). steps_from s 0 First items ++ last n) (zero_more (came s.answers First items)) in
    ap (λ (xs : List Step). connecting ∷ (first ++ xs)) step ∙ ap (λ (xs : List Step). connecting ∷ xs) (sym (append_assoc first (steps_from s 0 First items) (last (came s.answers First items))))

pub steps-none : (s : Setting) → steps s [] ≡ connecting ∷ map by_script (entries_at 0 s.entries)
unfolding steps
steps-none s = ap (λ (xs : List Step). connecting ∷ xs) (append-nil (map by_script (entries_at 0 s.entries)))

pub none_push : (items : List Item) (item : Item) → NoneCloses items → closes item ≡ false → NoneCloses (items ++ item ∷ [])
none_push [] item h c = (c, tt)
none_push (i ∷ items) item h c = (h.0, none_push items item h.1 c)

-- ---- what is sent

pub are_append : (r : Reader) (a b : List Step) (x y : List MessageTree) → AreSent r a x → AreSent (course r (all_dated a)).reader b y → AreSent r (a ++ b) (x ++ y)
are_append r [] b x y p q = subst (λ (z : List MessageTree). AreSent r b (z ++ y)) (sym p) q
are_append r (step ∷ a) b x y (first, later, is, one, more) q =
    (first, later ++ y, ap (λ (z : List MessageTree). z ++ y) is ∙ append_assoc first later y, one, are_append (once r step.dated step.dated.doing).reader a b later y more q)

-- what a script makes a reader say is sent as it is
pub as_said : (r : Reader) (es : List Entry) → AreSent r (map by_script es) (course r (entry_dates es)).said
as_said r [] = refl
as_said r (e ∷ es) =
    let d : Dated = (by_script e).dated in
    ((once r d d.doing).said, (course (once r d d.doing).reader (entry_dates es)).said, refl, refl, as_said (once r d d.doing).reader es)

all_same : (place : FaultPlace) (said : List MessageTree) → WithPlace place said said
all_same place [] = tt
all_same place (m ∷ said) = (inl refl, all_same place said)

may_same : (place : Option FaultPlace) (said : List MessageTree) → MayPlace place said said
may_same None said = refl
may_same (Some place) said = all_same place said

-- all that is said can be sent as it is
sent_as_said : (item : Option Item) (said : List MessageTree) → IsSentFor item said said
sent_as_said None said = refl
sent_as_said (Some (Msg m)) said = may_same (refused_place m said) said
sent_as_said (Some (Bad id fault)) said = (None, refl)

pub some_sent : (r : Reader) (a : List Step) → (sent : List MessageTree) × AreSent r a sent
some_sent r [] = ([], refl)
some_sent r (step ∷ a) =
    let first : List MessageTree = (once r step.dated step.dated.doing).said in
    let later = some_sent (once r step.dated step.dated.doing).reader a in
    (first ++ later.0, (first, later.0, refl, sent_as_said step.item first, later.1))

-- ---- where memory ran out

-- Steps were done after those whose messages were sent, and others not.
pub begins_at : (s : Setting) (others : ℕ) (bytes : List ℕ) (messages : List MessageTree) (items : List Item) (rest : List ℕ) (first more undone : List Step) (core : Reader) → ItemsSoFarIn Standard s.reader.limit bytes items rest
    → IsDone s others items ((first ++ more) ++ undone) → AreSent s.reader first messages → core ≡ (course (course s.reader (all_dated first)).reader (all_dated more)).reader → Begins s others (for_next_client core) bytes messages
begins_at s others bytes messages items rest first more undone core are is_done sent is =
    let later = some_sent (course s.reader (all_dated first)).reader more in
    record {
      items = items;
      rest = rest;
      are = are;
      done = first ++ more;
      undone = undone;
      is_done = is_done;
      unsent = later.0;
      sent = are_append s.reader first more messages later.0 sent later.1;
      leaves = ap for_next_client (is ∙ sym (reader-append s.reader (all_dated first) (all_dated more)) ∙ ap (λ (ds : List Dated). (course s.reader ds).reader) (sym (dated-append first more)));
    }
