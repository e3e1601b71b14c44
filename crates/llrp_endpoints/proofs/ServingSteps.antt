-- The steps of serving.
use Rattle.std.proofs.Common.{◌≡◌, ℕ, ◌+◌, ◌≤◌, min, Bool, IsTrue, true, false, List, [], ◌∷◌, ◌++◌, length, map, take, drop, Result, Ok, Err, OnOk, IfErr, refl, ◌-◌, sym, ap, subst, ◌∙◌, append_assoc, arith}
use Rattle.std.specs.List.{AllByRecursion}
use Rattle.std.proofs.lemmas.List.{length-append, length-drop}
use Rattle.std.proofs.Math.Seq.{take-length}
use Rattle.llrp_tree.specs.Tree.{MessageTree}
use Rattle.llrp_stream.specs.declared.item.Item.{Item}
use Rattle.llrp_session.specs.ReaderMachine.{Reader, ReaderEvent, Connect}
use Rattle.llrp_listing.specs.declared.outcome.ToolErr.{ToolErr}
use Rattle.llrp_endpoints.specs.declared.script.Entry.{Entry}
use Rattle.llrp_endpoints.specs.declared.serving.scripted.ScriptedReader.{ScriptedReader}
use Rattle.llrp_endpoints.specs.Serving.{Happening, happening, taking, entries_at, moment_after, last_moment, events, closing_events, run, said, Closes}
use Rattle.llrp_endpoints.specs.Private.Acting.{Did, DidSome, IsDue}
use Rattle.llrp_endpoints.specs.Calls.ServingStands.{HasDone, HasTaken, IsNew}
use Rattle.llrp_endpoints.specs.TagLines.{greatest_count}
use Rattle.llrp_endpoints.specs.Private.ServingStands.{Connects, TakesItem, DoesEntries}
use Rattle.llrp_endpoints.proofs.ActingLemmas.{said-append, reader-append, did_more, some_more, some_first}
use Rattle.llrp_endpoints.proofs.ServingEvents.{events-snoc, events-none, moment_of_done, DueNow, due_now, done_more, left_of}

take_front : (a b : List Entry) → take (length a) (a ++ b) ≡ a
take_front [] b = refl
take_front (e ∷ a) b = ap (λ (es : List Entry). e ∷ es) (take_front a b)

-- what is due, and what is left after it
record Parts (count : ℕ) (entries : List Entry) (s : ScriptedReader) (left : List Entry) (k : ℕ) : Type 0 where
  due : List Entry
  later : List Entry
  taken : take k left ≡ due
  counted : k ≡ length due
  done : HasDone count entries s
  cut : done.left ≡ due ++ later
  now : DueNow count entries s due later

parts : (count : ℕ) (entries : List Entry) (s : ScriptedReader) (left : List Entry) (k : ℕ) → left ≡ drop s.done s.script → IsDue left s.taken k → HasDone count entries s → s.taken ≡ min count greatest_count → Parts count entries s left k
parts count entries s left k is d h t =
    let cut : h.left ≡ d.due ++ d.later = sym (left_of count entries s h) ∙ sym is ∙ d.whole in
    record {
      due = d.due;
      later = d.later;
      taken = rw (d.count_is, d.whole) (take_front d.due d.later);
      counted = d.count_is;
      done = h;
      cut = cut;
      now = due_now count entries s h d.due d.later cut (subst (λ (n : ℕ). AllByRecursion (λ e. e.after ≤ n) d.due) t d.due_are) (λ (e : Entry) (es : List Entry) (p : d.later ≡ e ∷ es). let above = d.later_begin e es p in omega arith);
    }

pub does : (count : ℕ) (entries : List Entry) (s new : ScriptedReader) (left : List Entry) (k : ℕ) (out0 out1 : List ℕ) → left ≡ drop s.done s.script → IsDue left s.taken k
    → Did s.core (map happening (take k left)) new.core out0 out1 → new.script ≡ s.script → new.done ≡ s.done + k → new.moment ≡ last_moment s.moment (take k left)
    → HasDone count entries s → s.taken ≡ min count greatest_count → DoesEntries count entries s new out0 out1
does count entries s new left k out0 out1 is d did script done moment h t =
    let p = parts count entries s left k is d h t in
    let same : take k left ≡ entries_at count entries = p.taken ∙ sym p.now.due_are in
    record {
      did = subst (λ (es : List Entry). Did s.core (map happening es) new.core out0 out1) same did;
      done = done_more count entries s new p.done p.due p.later p.cut p.now script (done ∙ ap (λ (n : ℕ). s.done + n) p.counted) (moment ∙ ap (last_moment s.moment) p.taken);
    }

pub does_some : (count : ℕ) (entries : List Entry) (s : ScriptedReader) (left : List Entry) (k : ℕ) (error : ToolErr) (out0 out1 : List ℕ) → left ≡ drop s.done s.script → IsDue left s.taken k
    → DidSome s.core (map happening (take k left)) error out0 out1 → HasDone count entries s → s.taken ≡ min count greatest_count → DidSome s.core (map happening (entries_at count entries)) error out0 out1
does_some count entries s left k error out0 out1 is d did h t =
    let p = parts count entries s left k is d h t in
    subst (λ (es : List Entry). DidSome s.core (map happening es) error out0 out1) (p.taken ∙ sym p.now.due_are) did

-- the rest of a slice
pub behind : (n : ℕ) (xs ys : List Entry) → xs ≡ ys → take (length xs - n) (drop n xs) ≡ drop n ys
behind n xs ys e = rw (← length-drop n xs) (take-length (drop n xs) ∙ ap (drop n) e)

-- ---- cases of an answer

pub ok_by : {P Q : Type 0} (r : Result (Unit {0}) ToolErr) → (P → Q) → OnOk r P → OnOk r Q
ok_by (Ok u) f h = f h
ok_by (Err e) f h = tt

pub err_by : {P Q : ToolErr → Type 0} (r : Result (Unit {0}) ToolErr) → ((e : ToolErr) → P e → Q e) → IfErr r P → IfErr r Q
err_by (Ok u) f h = tt
err_by (Err e) f h = f e h

-- ---- the start

none_before : (es : List Entry) → AllByRecursion (λ e. 0 ≤ e.after) es
none_before [] = tt
none_before (e ∷ es) = (omega arith, none_before es)

pub fresh_done : (reader : Reader) (entries : List Entry) (s mid : ScriptedReader) → IsNew reader entries s → mid.script ≡ s.script → mid.done ≡ s.done → mid.moment ≡ s.moment → HasDone 0 entries mid
fresh_done reader entries s mid f script done moment = record {
  done = [];
  left = entries;
  whole = refl;
  lawful = f.lawful;
  script_is = script ∙ f.script_is;
  done_is = done ∙ f.none_done;
  done_are = tt;
  left_are = none_before entries;
  moment_is = moment ∙ f.begins;
}

pub connected : (reader : Reader) (entries : List Entry) (s mid new : ScriptedReader) (x y z : List ℕ) → IsNew reader entries s → Did s.core (record { now = 0; event = Connect } ∷ []) mid.core x y
    → mid.taken ≡ s.taken → DoesEntries 0 entries mid new y z → new.taken ≡ mid.taken → Connects reader entries new x z
connected reader entries s mid new x y z f did taken does keeps =
    let all : Did reader (events entries []) new.core x z = rw events-none (did_more reader mid.core new.core (record { now = 0; event = Connect } ∷ []) (map happening (entries_at 0 entries)) x y z (rw (← f.reader_is) did) does.did) in
    record { taken = record { reader_is = all.reader; done = does.done; taken_is = keeps ∙ taken ∙ f.none_taken }; adds = all.adds }

pub not_connected : (reader : Reader) (entries : List Entry) (s : ScriptedReader) (error : ToolErr) (x y : List ℕ) → IsNew reader entries s → DidSome s.core (record { now = 0; event = Connect } ∷ []) error x y
    → DidSome reader (events entries []) error x y
not_connected reader entries s error x y f d = rw events-none (some_first reader (record { now = 0; event = Connect } ∷ []) (map happening (entries_at 0 entries)) error x y (rw (← f.reader_is) d))

pub connected_in_part : (reader : Reader) (entries : List Entry) (s : ScriptedReader) (mid : Reader) (error : ToolErr) (x y z : List ℕ) → IsNew reader entries s → Did s.core (record { now = 0; event = Connect } ∷ []) mid x y
    → DidSome mid (map happening (entries_at 0 entries)) error y z → DidSome reader (events entries []) error x z
connected_in_part reader entries s mid error x y z f did d = rw events-none (some_more reader mid (record { now = 0; event = Connect } ∷ []) (map happening (entries_at 0 entries)) error x y z (rw (← f.reader_is) did) d)

-- ---- an item

-- what happens when an item is taken
abbrev pub taken_at : List Entry → List Item → Item → Happening
taken_at entries items item = record { now = moment_after (length items) entries; event = taking item }

same_event : (reader : Reader) (entries : List Entry) (items : List Item) (item : Item) (s : ScriptedReader) (event : ReaderEvent) → HasTaken reader entries items s → event ≡ taking item
    → ◌≡◌ {A = Happening} (record { now = s.moment; event = event }) (taken_at entries items item)
same_event reader entries items item s event h by = rw (by, moment_of_done (length items) entries s h.done) refl

pub closing : (entries : List Entry) (items : List Item) (item : Item) → closing_events entries items item ≡ events entries items ++ taken_at entries items item ∷ []
unfolding closing_events
closing entries items item = refl

pub all_events : (entries : List Entry) (items : List Item) (item : Item) → events entries (items ++ item ∷ []) ≡ events entries items ++ (taken_at entries items item ∷ map happening (entries_at (length items + 1) entries))
all_events entries items item =
    events-snoc entries items item ∙ ap (λ (hs : List Happening). hs ++ map happening (entries_at (length items + 1) entries)) (closing entries items item)
    ∙ append_assoc (events entries items) (taken_at entries items item ∷ []) (map happening (entries_at (length items + 1) entries))

pub closes : (reader : Reader) (entries : List Entry) (items : List Item) (item : Item) (s new : ScriptedReader) (event : ReaderEvent) (after : Reader) (x y : List ℕ) → HasTaken reader entries items s → event ≡ taking item
    → Did s.core (record { now = s.moment; event = event } ∷ []) after x y → Closes item → TakesItem reader entries items item new x y (Ok true)
closes reader entries items item s new event after x y h by did c =
    let h0 = taken_at entries items item in
    let here : Did s.core (h0 ∷ []) after x y = subst (λ (a : Happening). Did s.core (a ∷ []) after x y) (same_event reader entries items item s event h by) did in (
      c,
      said (run s.core (h0 ∷ [])),
      here.adds,
      ap (λ (hs : List Happening). said (run reader hs)) (closing entries items item) ∙ said-append reader (events entries items) (h0 ∷ []) ∙ ap (λ (r : Reader). said (run reader (events entries items)) ++ said (run r (h0 ∷ []))) (sym h.reader_is),
    )

-- the number of items taken, which stops at the greatest
pub counted : (n t m : ℕ) → t ≡ min n greatest_count → m ≡ min (t + 1) greatest_count → m ≡ min (n + 1) greatest_count
counted n t m e f = omega arith

pub stays_open : (reader : Reader) (entries : List Entry) (items : List Item) (item : Item) (s mid new : ScriptedReader) (event : ReaderEvent) (x y z : List ℕ) → HasTaken reader entries items s → event ≡ taking item
    → Did s.core (record { now = s.moment; event = event } ∷ []) mid.core x y → (Closes item → ⊥) → mid.taken ≡ min (length items + 1) greatest_count → DoesEntries (length items + 1) entries mid new y z → new.taken ≡ mid.taken
    → TakesItem reader entries items item new x z (Ok false)
stays_open reader entries items item s mid new event x y z h by did c taken does keeps =
    let h0 = taken_at entries items item in
    let due : List Happening = map happening (entries_at (length items + 1) entries) in
    let here : Did s.core (h0 ∷ []) mid.core x y = subst (λ (a : Happening). Did s.core (a ∷ []) mid.core x y) (same_event reader entries items item s event h by) did in
    let both : Did s.core (h0 ∷ due) new.core x z = did_more s.core mid.core new.core (h0 ∷ []) due x y z here does.did in
    let more : length (items ++ item ∷ []) ≡ length items + 1 = length-append items (item ∷ []) in (
      c,
      record {
        reader_is = both.reader ∙ ap (λ (r : Reader). (run r (h0 ∷ due)).reader) h.reader_is ∙ sym (reader-append reader (events entries items) (h0 ∷ due)) ∙ ap (λ (hs : List Happening). (run reader hs).reader) (sym (all_events entries items item));
        done = subst (λ (n : ℕ). HasDone (n + 1) entries new) (sym more) does.done;
        taken_is = keeps ∙ taken ∙ ap (λ (n : ℕ). min n greatest_count) (sym more);
      },
      said (run s.core (h0 ∷ due)),
      both.adds,
      ap (λ (hs : List Happening). said (run reader hs)) (all_events entries items item) ∙ said-append reader (events entries items) (h0 ∷ due) ∙ ap (λ (r : Reader). said (run reader (events entries items)) ++ said (run r (h0 ∷ due))) (sym h.reader_is),
    )

takes_some : (reader : Reader) (entries : List Entry) (items : List Item) (item : Item) (s new : ScriptedReader) (error : ToolErr) (x y : List ℕ) → HasTaken reader entries items s
    → DidSome s.core (taken_at entries items item ∷ map happening (entries_at (length items + 1) entries)) error x y → TakesItem reader entries items item new x y (Err error)
takes_some reader entries items item s new error x y h d =
    let hs : List Happening = taken_at entries items item ∷ map happening (entries_at (length items + 1) entries) in
    let before : List MessageTree = said (run reader (events entries items)) in (
      d.memory,
      d.adds.first,
      d.adds.later,
      d.adds.adds,
      ap (λ (ks : List Happening). said (run reader ks)) (all_events entries items item) ∙ said-append reader (events entries items) hs ∙ ap (λ (r : Reader). before ++ said (run r hs)) (sym h.reader_is)
          ∙ ap (λ (ms : List MessageTree). before ++ ms) d.adds.parts ∙ sym (append_assoc before d.adds.first d.adds.later),
    )

pub not_taken : (reader : Reader) (entries : List Entry) (items : List Item) (item : Item) (s new : ScriptedReader) (event : ReaderEvent) (error : ToolErr) (x y : List ℕ) → HasTaken reader entries items s → event ≡ taking item
    → DidSome s.core (record { now = s.moment; event = event } ∷ []) error x y → TakesItem reader entries items item new x y (Err error)
not_taken reader entries items item s new event error x y h by d =
    let h0 = taken_at entries items item in
    takes_some reader entries items item s new error x y h
    (some_first s.core (h0 ∷ []) (map happening (entries_at (length items + 1) entries)) error x y (subst (λ (a : Happening). DidSome s.core (a ∷ []) error x y) (same_event reader entries items item s event h by) d))

pub taken_in_part : (reader : Reader) (entries : List Entry) (items : List Item) (item : Item) (s new : ScriptedReader) (event : ReaderEvent) (mid : Reader) (error : ToolErr) (x y z : List ℕ) → HasTaken reader entries items s → event ≡ taking item
    → Did s.core (record { now = s.moment; event = event } ∷ []) mid x y → DidSome mid (map happening (entries_at (length items + 1) entries)) error y z → TakesItem reader entries items item new x z (Err error)
taken_in_part reader entries items item s new event mid error x y z h by did d =
    let h0 = taken_at entries items item in
    takes_some reader entries items item s new error x z h
    (some_more s.core mid (h0 ∷ []) (map happening (entries_at (length items + 1) entries)) error x y z (subst (λ (a : Happening). Did s.core (a ∷ []) mid x y) (same_event reader entries items item s event h by) did) d)

-- the entries before the next item are done
pub next_done : (reader : Reader) (entries : List Entry) (items : List Item) (s mid : ScriptedReader) → HasTaken reader entries items s → mid.script ≡ s.script → mid.done ≡ s.done → mid.moment ≡ s.moment → HasDone (length items + 1) entries mid
next_done reader entries items s mid h script done moment =
    let d = h.done in
    record {
      done = d.done;
      left = d.left;
      whole = d.whole;
      lawful = d.lawful;
      script_is = script ∙ d.script_is;
      done_is = done ∙ d.done_is;
      done_are = d.done_are;
      left_are = d.left_are;
      moment_is = moment ∙ d.moment_is;
    }

pub still_open : (b : Bool) (item : Item) → (Closes item → IsTrue b) → b ≡ false → Closes item → ⊥
still_open b item f false_is c = let yes : b ≡ true = f c in absurd cc
