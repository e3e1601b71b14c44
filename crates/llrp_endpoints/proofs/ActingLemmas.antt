-- What a reader says in a list of events, and the frames of it.
use Rattle.std.proofs.Common.{◌≡◌, ℕ, suc, ◌+◌, ◌<◌, ◌≤◌, List, [], ◌∷◌, ◌++◌, length, map, take, drop, get_or, refl, sym, ap, subst, ◌∙◌, append_assoc, arith}
use Rattle.std.specs.List.{AllByRecursion}
use Rattle.std.proofs.lemmas.List.{take_more, take-append-drop, length-take}
use Rattle.std.proofs.Math.Seq.{drop-cons}
use Rattle.std.proofs.lemmas.List.{map-append}
use Rattle.llrp_tree.specs.Tree.{MessageTree}
use Rattle.llrp_session.specs.ReaderMachine.{Reader, ReaderEvent, next}
use Rattle.llrp_session.specs.ReaderMessages.{reader_message}
use Rattle.llrp_endpoints.specs.Serving.{Happening, event_in, happening, last_moment, turn_or_none, run, said}
use Rattle.llrp_endpoints.specs.declared.script.Entry.{Entry}
use Rattle.llrp_endpoints.specs.Private.Acting.{Did, DidSome, IsDue}
use Rattle.llrp_listing.specs.declared.outcome.ToolErr.{ToolErr}
use Rattle.llrp_endpoints.proofs.SendingLemmas.{adds_more}

-- ---- events one after another

pub reader-append : (r : Reader) (hs ks : List Happening) → (run r (hs ++ ks)).reader ≡ (run (run r hs).reader ks).reader
reader-append r [] ks = refl
reader-append r (h ∷ hs) ks = reader-append (turn_or_none r (next h.now h.event r)).reader hs ks

sent-append : (r : Reader) (hs ks : List Happening) → (run r (hs ++ ks)).sent ≡ (run r hs).sent ++ (run (run r hs).reader ks).sent
sent-append r [] ks = refl
sent-append r (h ∷ hs) ks =
    let t = turn_or_none r (next h.now h.event r) in
    ap (λ x. t.sent ++ x) (sent-append t.reader hs ks) ∙ sym (append_assoc t.sent (run t.reader hs).sent (run (run t.reader hs).reader ks).sent)

pub said-append : (r : Reader) (hs ks : List Happening) → said (run r (hs ++ ks)) ≡ said (run r hs) ++ said (run (run r hs).reader ks)
said-append r hs ks = ap (map reader_message) (sent-append r hs ks) ∙ map-append reader_message (run r hs).sent (run (run r hs).reader ks).sent

-- ---- what was done, and what is done next

pub did_more : (a b c : Reader) (hs ks : List Happening) (x y z : List ℕ) → Did a hs b x y → Did b ks c y z → Did a (hs ++ ks) c x z
did_more a b c hs ks x y z p q = record {
  reader = q.reader ∙ ap (λ (r : Reader). (run r ks).reader) p.reader ∙ sym (reader-append a hs ks);
  adds = rw (said-append a hs ks) (adds_more (said (run a hs)) (said (run (run a hs).reader ks)) x y z p.adds (rw (← p.reader) q.adds));
}

pub some_more : (a b : Reader) (hs ks : List Happening) (error : ToolErr) (x y z : List ℕ) → Did a hs b x y → DidSome b ks error y z → DidSome a (hs ++ ks) error x z
some_more a b hs ks error x y z p q =
    let s = q.adds in
    record {
      memory = q.memory;
      adds = record {
        first = said (run a hs) ++ s.first;
        later = s.later;
        parts = said-append a hs ks ∙ ap (λ (r : Reader). said (run a hs) ++ said (run r ks)) (sym p.reader) ∙ ap (λ (ms : List MessageTree). said (run a hs) ++ ms) s.parts ∙ sym (append_assoc (said (run a hs)) s.first s.later);
        adds = adds_more (said (run a hs)) s.first x y z p.adds s.adds;
      };
    }

-- some of what is said first is some of all
pub some_first : (a : Reader) (hs ks : List Happening) (error : ToolErr) (x y : List ℕ) → DidSome a hs error x y → DidSome a (hs ++ ks) error x y
some_first a hs ks error x y q =
    let s = q.adds in
    record {
      memory = q.memory;
      adds = record {
        first = s.first;
        later = s.later ++ said (run (run a hs).reader ks);
        parts = said-append a hs ks ∙ ap (λ (ms : List MessageTree). ms ++ said (run (run a hs).reader ks)) s.parts ∙ append_assoc s.first s.later (said (run (run a hs).reader ks));
        adds = s.adds;
      };
    }

-- ---- loops

pub last_moment-append : (now : ℕ) (a : List Entry) (b : List Entry) → last_moment now (a ++ b) ≡ last_moment (last_moment now a) b
last_moment-append now [] b = refl
last_moment-append now (e ∷ a) b = last_moment-append e.now a b

-- one more entry happened
pub did_step : (r r1 r2 : Reader) (entries : List Entry) (i : ℕ) (e : Entry) (event : ReaderEvent) (x y z : List ℕ) → i < length entries → e ≡ get_or entries i e → event ≡ event_in e.action
    → Did r (map happening (take i entries)) r1 x y → Did r1 (record { now = e.now; event = event } ∷ []) r2 y z → Did r (map happening (take (i + 1) entries)) r2 x z
did_step r r1 r2 entries i e event x y z within is by so one =
    let front : take (i + 1) entries ≡ take i entries ++ e ∷ [] = take_more entries i e within ∙ ap (λ (a : Entry). take i entries ++ a ∷ []) (sym is) in
    let here : Did r1 (happening e ∷ []) r2 y z = subst (λ (a : ReaderEvent). Did r1 (record { now = e.now; event = a } ∷ []) r2 y z) by one in
    rw (front, map-append happening (take i entries) (e ∷ [])) (did_more r r1 r2 (map happening (take i entries)) (happening e ∷ []) x y z so here)

pub moment_step : (now mid : ℕ) (entries : List Entry) (i : ℕ) (e : Entry) → i < length entries → e ≡ get_or entries i e → mid ≡ last_moment now (take i entries) → e.now ≡ last_moment now (take (i + 1) entries)
moment_step now mid entries i e within is so =
    let front : take (i + 1) entries ≡ take i entries ++ e ∷ [] = take_more entries i e within ∙ ap (λ (a : Entry). take i entries ++ a ∷ []) (sym is) in
    rw (front, last_moment-append now (take i entries) (e ∷ [])) refl

-- an entry happened in part, and those after it not at all
pub some_step : (r r1 : Reader) (entries : List Entry) (i : ℕ) (e : Entry) (event : ReaderEvent) (error : ToolErr) (x y z : List ℕ) → i < length entries → e ≡ get_or entries i e → event ≡ event_in e.action
    → Did r (map happening (take i entries)) r1 x y → DidSome r1 (record { now = e.now; event = event } ∷ []) error y z → DidSome r (map happening entries) error x z
some_step r r1 entries i e event error x y z within is by so one =
    let front : take (i + 1) entries ≡ take i entries ++ e ∷ [] = take_more entries i e within ∙ ap (λ (a : Entry). take i entries ++ a ∷ []) (sym is) in
    let here : DidSome r1 (happening e ∷ []) error y z = subst (λ (a : ReaderEvent). DidSome r1 (record { now = e.now; event = a } ∷ []) error y z) by one in
    let parts : (map happening (take i entries) ++ happening e ∷ []) ++ map happening (drop (i + 1) entries) ≡ map happening entries =
    ap (λ (hs : List Happening). hs ++ map happening (drop (i + 1) entries)) (sym (map-append happening (take i entries) (e ∷ [])) ∙ ap (map happening) (sym front))
    ∙ sym (map-append happening (take (i + 1) entries) (drop (i + 1) entries)) ∙ ap (map happening) (take-append-drop (i + 1) entries) in
    subst (λ (hs : List Happening). DidSome r hs error x z) parts
    (some_first r (map happening (take i entries) ++ happening e ∷ []) (map happening (drop (i + 1) entries)) error x z (some_more r r1 (map happening (take i entries)) (happening e ∷ []) error x y z so here))

pub due_at : (entries : List Entry) (taken i : ℕ) (e : Entry) → i < length entries → e ≡ get_or entries i e → taken < e.after → AllByRecursion (λ e. e.after ≤ taken) (take i entries) → IsDue entries taken i
due_at entries taken i e within is above so = record {
  due = take i entries;
  later = drop i entries;
  whole = sym (take-append-drop i entries);
  count_is = omega (arith, length-take i entries);
  due_are = so;
  later_begin = λ (a : Entry) (es : List Entry) (p : drop i entries ≡ a ∷ es).
      let here : drop i entries ≡ get_or entries i e ∷ drop (suc i) entries = drop-cons entries i e within in
      let same : a ≡ e = cc in
      rw same above;
}
