-- Entries that happen one after another.
use Rattle.std.proofs.Common.{◌≡◌, ℕ, suc, ◌+◌, ◌<◌, ◌≤◌, List, [], ◌∷◌, ◌++◌, length, map, take, drop, get_or, refl, sym, ap, subst, ◌∙◌, append_assoc, arith}
use Rattle.std.specs.List.{AllByRecursion}
use Rattle.std.proofs.lemmas.List.{append-nil, map-append, take_more, take-append-drop, length-take}
use Rattle.std.proofs.Math.Seq.{drop-cons}
use Rattle.llrp_tree.specs.Tree.{MessageTree}
use Rattle.llrp_stream.specs.declared.item.Item.{Item}
use Rattle.llrp_session.specs.ReaderMachine.{Reader, ReaderEvent}
use Rattle.llrp_endpoints.specs.declared.script.Entry.{Entry}
use Rattle.llrp_endpoints.specs.Serving.{event_in}
use Rattle.llrp_live.specs.declared.reader.LiveReader.{LiveReader}
use Rattle.llrp_live.specs.Calls.Doings.{Dated, Happens, course}
use Rattle.llrp_live.specs.Calls.Living.{Begun, Happened, Lives}
use Rattle.llrp_live.proofs.LiveLemmas.{reader-append, said-append}
use Rattle.llrp_general.specs.Calls.Serving.{Step, all_dated, by_script}
use Rattle.llrp_general.specs.Private.Acting.{Did, DidSome, DoesAll, IsDue, entry_dates}

pub dated-append : (a b : List Step) → all_dated (a ++ b) ≡ all_dated a ++ all_dated b
dated-append [] b = refl
dated-append (s ∷ a) b = ap (λ (ds : List Dated). s.dated ∷ ds) (dated-append a b)

pub dates-append : (a b : List Entry) → entry_dates (a ++ b) ≡ entry_dates a ++ entry_dates b
dates-append a b = ap all_dated (map-append by_script a b) ∙ dated-append (map by_script a) (map by_script b)

-- ---- done one after another

pub did_none : (r : LiveReader) (out : List MessageTree) → DoesAll [] r r out out
did_none r out b before bytes items h = record { said = sym (append-nil out); lives = rw (append-nil before) h }

-- the reader then
pub reader_then : (ds : List Dated) (b : Begun) (before : List Dated) (bytes : List ℕ) (items : List Item) (old new : LiveReader) → Lives b before bytes items old → Lives b (before ++ ds) bytes items new → new.core ≡ (course old.core ds).reader
reader_then ds b before bytes items old new h k = k.reader_is ∙ reader-append b.reader before ds ∙ ap (λ (r : Reader). (course r ds).reader) (sym h.reader_is)

pub did_more : (ds es : List Dated) (b : Begun) (before : List Dated) (bytes : List ℕ) (items : List Item) (x y z : LiveReader) (o0 o1 o2 : List MessageTree) → Lives b before bytes items x
    → Did ds b before bytes items x y o0 o1 → Did es b (before ++ ds) bytes items y z o1 o2 → Did (ds ++ es) b before bytes items x z o0 o2
did_more ds es b before bytes items x y z o0 o1 o2 h p q =
    let there : y.core ≡ (course x.core ds).reader = reader_then ds b before bytes items x y h p.lives in
    record {
      said = q.said ∙ ap (λ (o : List MessageTree). o ++ (course y.core es).said) p.said ∙ ap (λ (r : Reader). (o0 ++ (course x.core ds).said) ++ (course r es).said) there
          ∙ append_assoc o0 (course x.core ds).said (course (course x.core ds).reader es).said ∙ ap (λ (o : List MessageTree). o0 ++ o) (sym (said-append x.core ds es));
      lives = subst (λ (l : List Dated). Lives b l bytes items z) (append_assoc before ds es) q.lives;
    }

-- ---- loops

-- one more entry happened
pub did_entry : (entries : List Entry) (i : ℕ) (e : Entry) (event : ReaderEvent) (x y z : LiveReader) (o0 o1 o2 : List MessageTree) → i < length entries → e ≡ get_or entries i e → event ≡ event_in e.action
    → DoesAll (entry_dates (take i entries)) x y o0 o1
    → ((b : Begun) (before : List Dated) (bytes : List ℕ) (items : List Item) → Lives b before bytes items y → Happened (record { now = e.now; doing = Happens event }) b before bytes items y z o1 o2)
    → DoesAll (entry_dates (take (i + 1) entries)) x z o0 o2
did_entry entries i e event x y z o0 o1 o2 within is by so one b before bytes items h =
    let front : take (i + 1) entries ≡ take i entries ++ e ∷ [] = take_more entries i e within ∙ ap (λ (a : Entry). take i entries ++ a ∷ []) (sym is) in
    let first : List Dated = entry_dates (take i entries) in
    let p : Did first b before bytes items x y o0 o1 = so b before bytes items h in
    let k = one b (before ++ first) bytes items p.lives in
    let q : Did (entry_dates (e ∷ [])) b (before ++ first) bytes items y z o1 o2 =
    subst (λ (a : ReaderEvent). Did (record { now = e.now; doing = Happens a } ∷ []) b (before ++ first) bytes items y z o1 o2) by (record { said = k.said; lives = k.lives }) in
    let dates : entry_dates (take (i + 1) entries) ≡ first ++ entry_dates (e ∷ []) = ap entry_dates front ∙ dates-append (take i entries) (e ∷ []) in
    subst (λ (ds : List Dated). Did ds b before bytes items x z o0 o2) (sym dates) (did_more first (entry_dates (e ∷ [])) b before bytes items x y z o0 o1 o2 h p q)

pub some_entries : (entries : List Entry) (i : ℕ) (x y z : LiveReader) (o0 o1 : List MessageTree) → DoesAll (entry_dates (take i entries)) x y o0 o1 → z ≡ y → DidSome entries x z
some_entries entries i x y z o0 o1 so same = record {
  done = take i entries;
  undone = drop i entries;
  parts = sym (take-append-drop i entries);
  lives = λ b before bytes items h. rw same (so b before bytes items h).lives;
}

pub due_at : (entries : List Entry) (taken i : ℕ) (e : Entry) → i < length entries → e ≡ get_or entries i e → taken < e.after → AllByRecursion (λ e. e.after ≤ taken) (take i entries) → IsDue entries taken i
due_at entries taken i e within is above so = record {
  due = take i entries;
  later = drop i entries;
  whole = sym (take-append-drop i entries);
  count_is = omega (arith, length-take i entries);
  due_are = so;
  later_begin = λ (a : Entry) (es : List Entry) (p : drop i entries ≡ a ∷ es).
      let here : drop i entries ≡ get_or entries i e ∷ drop (suc i) entries = drop-cons entries i e within in
      let same : a ≡ e = cc in
      rw same above;
}
