-- What an item and the entries after it make of a reader that acts by a script, and what its start makes of it.
use Rattle.std.proofs.Common.{◌≡◌, ℕ, ◌+◌, if◌then◌else◌, Bool, true, false, List, [], ◌∷◌, ◌++◌, map, Result, Ok, Err, refl, sym, ap, subst, ◌∙◌, append_assoc, arith, inl, inr}
use Rattle.std.proofs.lemmas.List.{append-nil, map-append}
use Rattle.llrp_schema.specs.declared.kinds.KindSet.TheVariants.{Standard}
use Rattle.llrp_tree.specs.Tree.{MessageTree}
use Rattle.llrp_stream.specs.Items.{ItemsSoFarIn}
use Rattle.llrp_stream.specs.declared.item.Item.{Item}
use Rattle.llrp_stream.proofs.RunLemmas.{items_grow}
use Rattle.llrp_session.specs.Calls.NextClient.{for_next_client}
use Rattle.llrp_session.specs.ReaderMachine.{Reader}
use Rattle.llrp_listing.specs.declared.outcome.ToolErr.{ToolErr}
use Rattle.llrp_versions.specs.declared.version.Version.TheVariants.{First}
use Rattle.llrp_endpoints.specs.declared.script.Entry.{Entry}
use Rattle.llrp_endpoints.specs.Serving.{entries_at, last_moment}
use Rattle.llrp_live.specs.declared.reader.LiveReader.{LiveReader}
use Rattle.llrp_live.specs.Calls.Doings.{Dated, agreed, comes_in, course, doing, once}
use Rattle.llrp_live.specs.Calls.Living.{Begun, Happened, Lives, begun, came}
use Rattle.llrp_live.proofs.LiveLemmas.{reader-append}
use Rattle.llrp_general.specs.Calls.Serving.{Setting, Step, AreSent, Begins, IsDone, all_dated, by_script, connecting, next_step, steps}
use Rattle.llrp_general.specs.Private.Acting.{HasDone, entry_dates}
use Rattle.llrp_general.specs.Private.Due.{AreDue, DidAtOnce, DidDue, DidSomeDue, DoesDue, MayBeDue}
use Rattle.llrp_general.specs.Private.Standing.{Fed, Fetched, FetchedOn, Follows, IsFresh, IsKept, Stands, Took, goes_on, last_now, left_by}
use Rattle.llrp_general.specs.declared.serving.WholeReader.{WholeReader}
use Rattle.llrp_general.proofs.ActingLemmas.{dated-append}
use Rattle.llrp_general.proofs.DueLemmas.{done_none, moment_of_done}
use Rattle.llrp_general.proofs.NoteLemmas.{is_done_first, is_done_more, last-append, last-script}
use Rattle.llrp_general.proofs.StepLemmas.{are_append, as_said, begins_at, came_push, none_push, steps-none, steps-snoc}

-- ---- whether entries are due

may_be : (count all : ℕ) (flag : Bool) → all ≡ count + (if flag then 1 else 0) → MayBeDue (count + 1) all
may_be count all true e = inl (omega (arith, e))
may_be count all false e = inr (omega (arith, e))

due_are : (entries due : List Entry) (count all : ℕ) (flag : Bool) → all ≡ count + (if flag then 1 else 0) → AreDue (count + 1) all entries due → map by_script due ≡ (if flag then map by_script (entries_at (count + 1) entries) else [])
due_are entries due count all true e (inl d) = ap (map by_script) (d.1 ∙ ap (λ (n : ℕ). entries_at n entries) (sym d.0))
due_are entries due count all true e (inr d) = absurd (omega (arith, e, d.0))
due_are entries due count all false e (inl d) = absurd (omega (arith, e, d.0))
due_are entries due count all false e (inr d) = ap (map by_script) d.1

module _ (s : Setting) (items : List Item) (item : Item) where
  abbrev step : Dated
  step = (next_step s items item).dated

  abbrev b : Begun
  b = begun s.reader s.answers

  abbrev count : ℕ
  count = came s.answers First items

  pub may_be_due : MayBeDue (came s.answers First items + 1) (came s.answers First (items ++ item ∷ []))
  may_be_due = may_be count (came s.answers First (items ++ item ∷ [])) (comes_in (doing s.answers (agreed First items) item)) (came_push s.answers First items item)

  all_steps : (due : List Entry) → AreDue (count + 1) (came s.answers First (items ++ item ∷ [])) s.entries due → steps s (items ++ item ∷ []) ≡ steps s items ++ (next_step s items item ∷ map by_script due)
  all_steps due are = steps-snoc s items item
      ∙ ap (λ (xs : List Step). steps s items ++ (next_step s items item ∷ xs)) (sym (due_are s.entries due count (came s.answers First (items ++ item ∷ [])) (comes_in (doing s.answers (agreed First items) item)) (came_push s.answers First items item) are))

  module _ (others : ℕ) (bytes0 : List ℕ) (messages : List MessageTree) (old : WholeReader) (f : Follows s others bytes0 messages items old) where
    -- what was done before
    abbrev before : List Dated
    before = all_dated f.done

    -- the reader before
    abbrev core : Reader
    core = (course s.reader (all_dated f.done)).reader

    -- the entries that came before it are done
    pub next_done : (mid : WholeReader) → IsKept old mid → HasDone (came s.answers First items + 1) s.entries mid.script mid.done mid.moment
    next_done mid k = rw (k.script, k.done, k.moment) f.entries

    all_done : (due : List Entry) → AreDue (count + 1) (came s.answers First (items ++ item ∷ [])) s.entries due → IsDone s others (items ++ item ∷ []) (f.done ++ (next_step s items item ∷ map by_script due))
    all_done due are = is_done_more s others items (items ++ item ∷ []) f.done (next_step s items item ∷ map by_script due) f.is_done (all_steps due are)

    module _ (bytes : List ℕ) (mid new : WholeReader) (sent0 sent1 sent2 : List MessageTree) (k : FetchedOn s f.done bytes items item mid sent0 sent1) where
      core_is : mid.reader.core ≡ (once core step step.doing).reader
      core_is = k.lives.reader_is ∙ reader-append s.reader before (step ∷ [])

      -- what is sent to the item and then
      abbrev pub all_sent : (due : List Entry) → List MessageTree
      all_sent due = k.placed ++ (course mid.reader.core (entry_dates due)).said

      pub said_is : (d : DidDue (came s.answers First items + 1) s.entries (begun s.reader s.answers) (all_dated f.done ++ (next_step s items item).dated ∷ []) bytes (items ++ item ∷ []) mid new sent1 sent2) → sent2 ≡ sent0 ++ all_sent d.due
      said_is d = d.did.said ∙ ap (λ (z : List MessageTree). z ++ (course mid.reader.core (entry_dates d.due)).said) k.sent ∙ append_assoc sent0 k.placed (course mid.reader.core (entry_dates d.due)).said

      -- the moment of the last step
      moment_is : (due : List Entry) → IsKept old mid → new.moment ≡ last_moment mid.moment due → new.moment ≡ last_now 0 (f.done ++ (next_step s items item ∷ map by_script due))
      moment_is due kept is =
          let there : mid.moment ≡ step.now = kept.moment ∙ moment_of_done count s.entries old.script old.done old.moment f.entries in
          is ∙ ap (λ (now : ℕ). last_moment now due) there ∙ sym (last-append 0 f.done (next_step s items item ∷ map by_script due) ∙ last-script step.now due)

      pub follows : IsKept old mid → (d : DidDue (came s.answers First items + 1) s.entries (begun s.reader s.answers) (all_dated f.done ++ (next_step s items item).dated ∷ []) bytes (items ++ item ∷ []) mid new sent1 sent2)
          → Follows s others bytes (messages ++ all_sent d.due) (items ++ item ∷ []) new
      follows kept d =
          let due : List Entry = d.due in
          let later : List MessageTree = (course mid.reader.core (entry_dates due)).said in
          let plain : AreSent (once core step step.doing).reader (map by_script due) later = subst (λ (r : Reader). AreSent r (map by_script due) later) core_is (as_said mid.reader.core due) in
          let dates : (before ++ step ∷ []) ++ entry_dates due ≡ all_dated (f.done ++ (next_step s items item ∷ map by_script due)) =
          append_assoc before (step ∷ []) (entry_dates due) ∙ sym (dated-append f.done (next_step s items item ∷ map by_script due)) in
          record {
            none = none_push items item f.none k.open_still;
            done = f.done ++ (next_step s items item ∷ map by_script due);
            is_done = all_done due d.are;
            sent = are_append s.reader f.done (next_step s items item ∷ map by_script due) messages (k.placed ++ later) f.sent (k.placed, later, refl, k.is, plain);
            lives = subst (λ (ds : List Dated). Lives b ds bytes (items ++ item ∷ []) new.reader) dates d.did.lives;
            entries = d.has_done;
            moment = moment_is due kept d.moment;
          }

      -- memory ran out in the entries
      pub not_followed : ItemsSoFarIn Standard s.reader.limit bytes (items ++ item ∷ []) [] → DidSomeDue (came s.answers First items + 1) s.entries (begun s.reader s.answers) (items ++ item ∷ []) mid new → Begins s others (left_by new) bytes messages
      not_followed are d =
          let some = d.did in
          let next : Step = next_step s items item in
          let lives = some.lives b (before ++ step ∷ []) bytes (items ++ item ∷ []) k.lives in
          let parts : f.done ++ (next ∷ map by_script d.due) ≡ (f.done ++ (next ∷ map by_script some.done)) ++ map by_script some.undone =
          ap (λ (xs : List Step). f.done ++ (next ∷ xs)) (ap (map by_script) some.parts ∙ map-append by_script some.done some.undone)
          ∙ sym (append_assoc f.done (next ∷ map by_script some.done) (map by_script some.undone)) in
          let is : new.reader.core ≡ (course core (step ∷ entry_dates some.done)).reader =
          lives.reader_is ∙ ap (λ (ds : List Dated). (course s.reader ds).reader) (append_assoc before (step ∷ []) (entry_dates some.done)) ∙ reader-append s.reader before (step ∷ entry_dates some.done) in
          begins_at s others bytes messages (items ++ item ∷ []) [] f.done (next ∷ map by_script some.done) (map by_script some.undone) new.reader.core are (subst (λ (xs : List Step). IsDone s others (items ++ item ∷ []) xs) parts (all_done d.due d.are)) f.sent is

-- ---- an item and what comes after it

still_on : (s : Setting) (others : ℕ) (done : List Step) (bytes : List ℕ) (messages : List MessageTree) (items : List Item) (item : Item) (mid : WholeReader) (sent0 sent1 : List MessageTree) (flag : Bool) → flag ≡ false
    → Fetched s others done bytes messages items item mid sent0 sent1 (Ok flag) → FetchedOn s done bytes items item mid sent0 sent1
still_on s others done bytes messages items item mid sent0 sent1 true e k = absurd cc
still_on s others done bytes messages items item mid sent0 sent1 false e k = k

module _ (s : Setting) (others : ℕ) (items : List Item) (item : Item) (bytes0 bytes : List ℕ) (messages : List MessageTree) (old mid new : WholeReader) (sent0 sent1 sent2 : List MessageTree) (f : Follows s others bytes0 messages items old) where
  pub taken_on : (flag : Bool) → flag ≡ false → Fetched s others f.done bytes messages items item mid sent0 sent1 (Ok flag) → IsKept old mid → DoesDue mid new sent1 sent2 (Ok tt) → Took s others bytes messages items item new sent0 sent2 (Ok false)
  taken_on flag e fetched kept does =
      let k = still_on s others f.done bytes messages items item mid sent0 sent1 flag e fetched in
      let d = does (came s.answers First items + 1) s.entries (begun s.reader s.answers) (all_dated f.done ++ (next_step s items item).dated ∷ []) bytes (items ++ item ∷ []) k.lives (next_done s items item others bytes0 messages old f mid kept) (may_be_due s items item) in (
        all_sent s items item others bytes0 messages old f bytes mid new sent0 sent1 sent2 k d.due,
        said_is s items item others bytes0 messages old f bytes mid new sent0 sent1 sent2 k d,
        follows s items item others bytes0 messages old f bytes mid new sent0 sent1 sent2 k kept d,
      )

  pub taken_in_part : (flag : Bool) → flag ≡ false → Fetched s others f.done bytes messages items item mid sent0 sent1 (Ok flag) → IsKept old mid → (error : ToolErr) → DoesDue mid new sent1 sent2 (Err error) → ItemsSoFarIn Standard s.reader.limit bytes (items ++ item ∷ []) []
      → Took s others bytes messages items item new sent0 sent2 (Err error)
  taken_in_part flag e fetched kept error does are =
      let k = still_on s others f.done bytes messages items item mid sent0 sent1 flag e fetched in
      let d = does (came s.answers First items + 1) s.entries (begun s.reader s.answers) (all_dated f.done ++ (next_step s items item).dated ∷ []) bytes (items ++ item ∷ []) k.lives (next_done s items item others bytes0 messages old f mid kept) (may_be_due s items item) in
      (d.0, not_followed s items item others bytes0 messages old f bytes mid new sent0 sent1 sent2 k are d.1)

-- ---- the start

-- the connection's step
abbrev first_step : Dated
first_step = connecting.dated

due_first : (entries due : List Entry) → AreDue 0 0 entries due → due ≡ entries_at 0 entries
due_first entries due (inl d) = d.1
due_first entries due (inr d) = absurd (omega (arith, d.0))

first_steps : (s : Setting) (due : List Entry) → AreDue 0 0 s.entries due → steps s [] ≡ connecting ∷ map by_script due
first_steps s due are = steps-none s ∙ ap (λ (es : List Entry). connecting ∷ map by_script es) (sym (due_first s.entries due are))

pub fresh_done : (s : Setting) (old mid : WholeReader) → IsFresh s old → mid.script ≡ old.script → mid.done ≡ old.done → mid.moment ≡ old.moment → HasDone 0 s.entries mid.script mid.done mid.moment
fresh_done s old mid f script done moment = done_none s.entries mid.script mid.done mid.moment f.lawful (script ∙ f.script_is) (done ∙ f.none_done) (moment ∙ f.begins)

-- all that is done first
all_first : (s : Setting) (due : List Entry) → AreDue 0 0 s.entries due → IsDone s 0 [] (connecting ∷ map by_script due)
all_first s due are = is_done_first s (map by_script due) (first_steps s due are)

-- the reader did not connect
pub not_connected : (s : Setting) (old : WholeReader) (new : LiveReader) → IsFresh s old → new ≡ old.reader → Begins s 0 (for_next_client new.core) [] []
not_connected s old new f same = begins_at s 0 [] [] [] [] [] [] (connecting ∷ map by_script (entries_at 0 s.entries)) new.core (items_grow s.reader.limit).none (all_first s (entries_at 0 s.entries) (inl (refl, refl))) refl (rw same f.lives.reader_is)

module _ (s : Setting) (old mid new : WholeReader) (sent0 sent1 sent2 : List MessageTree) (f : IsFresh s old) (h : Happened (connecting.dated) (begun s.reader s.answers) [] [] [] old.reader mid.reader sent0 sent1) where
  began_is : mid.reader.core ≡ (once s.reader first_step first_step.doing).reader
  began_is = h.lives.reader_is

  -- what is sent first
  abbrev pub greeting : (due : List Entry) → List MessageTree
  greeting due = (once s.reader first_step first_step.doing).said ++ (course mid.reader.core (entry_dates due)).said

  pub greeting_is : (d : DidDue 0 s.entries (begun s.reader s.answers) (connecting.dated ∷ []) [] [] mid new sent1 sent2) → sent2 ≡ sent0 ++ greeting d.due
  greeting_is d =
      let one : List MessageTree = (once s.reader first_step first_step.doing).said in
      let first : sent1 ≡ sent0 ++ one = h.said ∙ ap (λ (r : Reader). sent0 ++ (course r (first_step ∷ [])).said) f.lives.reader_is ∙ ap (λ (z : List MessageTree). sent0 ++ z) (append-nil one) in
      d.did.said ∙ ap (λ (z : List MessageTree). z ++ (course mid.reader.core (entry_dates d.due)).said) first ∙ append_assoc sent0 one (course mid.reader.core (entry_dates d.due)).said

  pub connected : (d : DidDue 0 s.entries (begun s.reader s.answers) (connecting.dated ∷ []) [] [] mid new sent1 sent2) → new.decoder ≡ old.decoder → mid.moment ≡ old.moment → Stands s 0 [] (greeting d.due) new
  connected d same moment =
      let due : List Entry = d.due in
      let later : List MessageTree = (course mid.reader.core (entry_dates due)).said in
      let plain : AreSent (once s.reader first_step first_step.doing).reader (map by_script due) later = subst (λ (r : Reader). AreSent r (map by_script due) later) began_is (as_said mid.reader.core due) in
      record {
        items = [];
        rest = [];
        are = (items_grow s.reader.limit).none;
        follows = record {
          none = tt;
          done = connecting ∷ map by_script due;
          is_done = all_first s due d.are;
          sent = ((once s.reader first_step first_step.doing).said, later, refl, refl, plain);
          lives = d.did.lives;
          entries = d.has_done;
          moment = d.moment ∙ ap (λ (now : ℕ). last_moment now due) (moment ∙ f.begins) ∙ sym (last-script 0 due);
        };
        decoder = rw same f.decoder;
        limit = rw same f.limit;
      }

  pub connected_in_part : DidSomeDue 0 s.entries (begun s.reader s.answers) [] mid new → Begins s 0 (left_by new) [] []
  connected_in_part d =
      let some = d.did in
      let lives = some.lives (begun s.reader s.answers) (first_step ∷ []) [] [] h.lives in
      let parts : connecting ∷ map by_script d.due ≡ ([] ++ (connecting ∷ map by_script some.done)) ++ map by_script some.undone =
      ap (λ (xs : List Step). connecting ∷ xs) (ap (map by_script) some.parts ∙ map-append by_script some.done some.undone) in
      begins_at s 0 [] [] [] [] [] (connecting ∷ map by_script some.done) (map by_script some.undone) new.reader.core (items_grow s.reader.limit).none (subst (λ (xs : List Step). IsDone s 0 [] xs) parts (all_first s d.due d.are)) refl lives.reader_is

-- ---- what the start makes of it

pub started : (s : Setting) (old mid new : WholeReader) (sent0 sent1 sent2 : List MessageTree) (f : IsFresh s old) (h : Happened (connecting.dated) (begun s.reader s.answers) [] [] [] old.reader mid.reader sent0 sent1) (answer : Result (Unit {0}) ToolErr) → DoesDue mid new sent1 sent2 answer
    → mid.script ≡ old.script → mid.done ≡ old.done → mid.moment ≡ old.moment → new.decoder ≡ old.decoder → Fed s 0 [] [] new sent0 sent2 (goes_on answer)
started s old mid new sent0 sent1 sent2 f h answer does script done moment decoder = by answer (does 0 s.entries (begun s.reader s.answers) (connecting.dated ∷ []) [] [] h.lives (fresh_done s old mid f script done moment) (inl refl))
  where
    by : (answer : Result (Unit {0}) ToolErr) → DidAtOnce 0 s.entries (begun s.reader s.answers) (connecting.dated ∷ []) [] [] mid new sent1 sent2 answer → Fed s 0 [] [] new sent0 sent2 (goes_on answer)
    by (Ok u) d = (greeting s old mid new sent0 sent1 sent2 f h d.due, greeting_is s old mid new sent0 sent1 sent2 f h d, connected s old mid new sent0 sent1 sent2 f h d decoder moment)
    by (Err error) d = (d.0, connected_in_part s old mid new sent0 sent1 sent2 f h d.1)
