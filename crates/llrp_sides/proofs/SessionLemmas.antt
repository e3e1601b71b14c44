-- The steps of a session.
use Rattle.std.proofs.Common.{◌≡◌, ◌⊎◌, ℕ, zero, suc, ◌<◌, ◌≤◌, Bool, true, false, ◌&&◌, List, [], ◌∷◌, ◌++◌, length, arith, Some, refl, sym, ap, subst, ◌∙◌, inl, inr}
use Rattle.std.specs.Prelude.{Result, Ok, Err, if◌then◌else◌, is_err, is_ok, remove, slice_get, slice_index_or, take, drop}
use Rattle.std.proofs.lemmas.Option.{slice_get_within}
use Rattle.llrp_capture.specs.declared.connections.Connections.{Connections}
use Rattle.llrp_capture.specs.declared.segment.Segment.{Segment}
use Rattle.llrp_capture.specs.declared.segment.Sender.{Sender}
use Rattle.llrp_capture.specs.declared.segment.Sender.TheVariants.{Reader, Client}
use Rattle.llrp_capture.specs.Calls.Connections.{IsNotThere, Opens as OpensAt}
use Rattle.llrp_sides.specs.declared.session.Pair.{Pair}
use Rattle.llrp_sides.specs.declared.session.Session.{Session}
use Rattle.llrp_sides.specs.Calls.Firsts.{may_begin}
use Rattle.llrp_sides.specs.Calls.Pairs.{EndsBoth, GoesTo, IsNew, TakesOwn, are_lawful, is_over}
use Rattle.llrp_sides.specs.Calls.Captures.{Begins, Capture, EndAll, Finds, Goes as GoesOn, IsOfNone, streams_of}
use Rattle.llrp_sides.specs.Private.Sessions.{Adds, Closes, EndsAt, Goes, Heeds, InStep, IsAdded, Opens, TakesAt, capture_of}
use Rattle.llrp_sides.proofs.PairLemmas.{drop_last, drop_next, drop_set, get_last, get_set, pair_at, remove_set, sets_at, size_set, splits_at, streams_last, streams_length, streams_remove, streams_set, take_last}

some_same : {A : Type 0} (a b : A) → Some a ≡ Some b → a ≡ b
some_same a b h = cc

pub at_index : {A : Type 0} (xs : List A) (k : ℕ) (x : A) → k < length xs → x ≡ slice_index_or xs k x → slice_get xs k ≡ Some x
at_index [] k x h e = absurd (omega arith)
at_index (y ∷ xs) zero x h e = ap Some (sym e)
at_index (y ∷ xs) (suc k) x h e = at_index xs k x (omega arith) e

pub was_pushed : {A X E : Type 0} (r : Result X E) (new more same : List A) → false ≡ is_err r → new ≡ (if is_ok r then more else same) → new ≡ more
was_pushed (Ok x) new more same pushed is = is
was_pushed (Err e) new more same pushed is = let bad : false ≡ true = pushed in absurd (cc)

-- ---- a place is found

pub opens_old : (stream place : ℕ) (old new : Session) → InStep old → OpensAt stream place old.connections.streams.items new.connections.streams.items → place < length old.pairs.items → new.pairs ≡ old.pairs → new ≡ record old { connections = new.connections; pairs = new.pairs } → Opens stream place old new
opens_old stream place old new step opens within pairs same =
    let streams : new.connections.streams.items ≡ old.connections.streams.items = still opens.1 in
    let items : new.pairs.items ≡ old.pairs.items = ap (λ v. v.items) pairs in
    let in_step : InStep new = streams ∙ step ∙ ap streams_of (sym items) in
    let p = pair_at new.pairs.items place stream (ap (λ (xs : List ℕ). slice_get xs place) (sym in_step) ∙ opens.0) in
    record { pair = p.0; at = p.1; stream_is = p.2; from = inl items; in_step = in_step; same = same }
  where
    still : ((new.connections.streams.items ≡ old.connections.streams.items) ⊎ (IsNotThere old.connections.streams.items stream × (length old.connections.streams.items < 1000) × (place ≡ length old.connections.streams.items) × (new.connections.streams.items ≡ old.connections.streams.items ++ stream ∷ []))) → new.connections.streams.items ≡ old.connections.streams.items
    still (inl is) = is
    still (inr (none, few, last, is)) = absurd (omega (arith, last, within, ap length step, streams_length old.pairs.items))

pub opens_new : (stream place : ℕ) (old new : Session) (pair : Pair) → InStep old → OpensAt stream place old.connections.streams.items new.connections.streams.items → length old.pairs.items ≤ place → IsNew old.form pair → pair.stream ≡ stream → new.pairs.items ≡ old.pairs.items ++ pair ∷ []
    → new ≡ record old { connections = new.connections; pairs = new.pairs } → Opens stream place old new
opens_new stream place old new pair step opens beyond is_new stream_is items same = on opens.1
  where
    on : ((new.connections.streams.items ≡ old.connections.streams.items) ⊎ (IsNotThere old.connections.streams.items stream × (length old.connections.streams.items < 1000) × (place ≡ length old.connections.streams.items) × (new.connections.streams.items ≡ old.connections.streams.items ++ stream ∷ []))) → Opens stream place old new
    on (inl is) =
        let there : slice_get (streams_of old.pairs.items) place ≡ Some stream = ap (λ (xs : List ℕ). slice_get xs place) (sym step ∙ sym is) ∙ opens.0 in
        let p = pair_at old.pairs.items place stream there in
        let within : place < length old.pairs.items = slice_get_within old.pairs.items place p.0 p.1 in
        absurd (omega arith)
    on (inr (none, few, last, is)) =
        let at : place ≡ length old.pairs.items = last ∙ ap length step ∙ streams_length old.pairs.items in
        record {
          pair = pair;
          at = ap (λ (xs : List Pair). slice_get xs place) items ∙ ap (slice_get (old.pairs.items ++ pair ∷ [])) at ∙ get_last old.pairs.items pair;
          stream_is = stream_is;
          from = inr (record { none = subst (λ (xs : List ℕ). IsNotThere xs stream) step none; is_new = is_new; items = items; place_is = at });
          in_step = is ∙ ap (λ (xs : List ℕ). xs ++ stream ∷ []) step ∙ ap (λ (n : ℕ). streams_of old.pairs.items ++ n ∷ []) (sym stream_is) ∙ sym (streams_last old.pairs.items pair) ∙ ap streams_of (sym items);
          same = same;
        }

pub opens_added : (stream place : ℕ) (old new : Session) (connections : Connections) → InStep old → OpensAt stream place old.connections.streams.items connections.streams.items → length old.pairs.items ≤ place → IsAdded stream (record old { connections = connections }) new → Opens stream place old new
opens_added stream place old new connections step opens beyond a =
    let is : new.connections ≡ connections = ap (λ (s : Session). s.connections) a.same in
    opens_new stream place old new a.pair step (subst (λ (x : Connections). OpensAt stream place old.connections.streams.items x.streams.items) (sym is) opens) beyond a.is_new a.stream_is a.items
    (a.same ∙ ap (λ (x : Connections). record old { connections = x; pairs = new.pairs }) (sym is))

-- ---- a segment goes to the pair there

finds : (segment : Segment) (place : ℕ) (old mid : Session) → (o : Opens segment.stream place old mid) → Heeds segment old.pairs.items true → Finds old.form segment old.pairs.items (take place mid.pairs.items) o.pair (drop (suc place) mid.pairs.items)
finds segment place old mid o heeded = (o.stream_is, on o.from heeded)
  where
    splits : mid.pairs.items ≡ take place mid.pairs.items ++ o.pair ∷ drop (suc place) mid.pairs.items
    splits = splits_at mid.pairs.items place o.pair o.at

    on : ((mid.pairs.items ≡ old.pairs.items) ⊎ Adds old.form segment.stream place old.pairs.items mid.pairs.items o.pair) → ((may_begin segment ≡ true) ⊎ (IsOfNone segment old.pairs.items → ⊥))
        → ((old.pairs.items ≡ take place mid.pairs.items ++ o.pair ∷ drop (suc place) mid.pairs.items) ⊎ Begins old.form segment old.pairs.items (take place mid.pairs.items) o.pair (drop (suc place) mid.pairs.items))
    on (inl is) heeded = inl (sym is ∙ splits)
    on (inr a) (inr there) = absurd (there a.none)
    on (inr a) (inl may) = inr (record {
      none = a.none;
      may = may;
      new = a.is_new;
      before_are = ap (take place) a.items ∙ ap (λ (n : ℕ). take n (old.pairs.items ++ o.pair ∷ [])) a.place_is ∙ take_last old.pairs.items o.pair;
      after_are = ap (drop (suc place)) a.items ∙ ap (λ (n : ℕ). drop (suc n) (old.pairs.items ++ o.pair ∷ [])) a.place_is ∙ drop_last old.pairs.items o.pair;
    })

-- a pair keeps its number
pub own_stream : (segment : Segment) (old new : Pair) (text0 text1 : List ℕ) → TakesOwn segment old new text0 text1 → new.stream ≡ old.stream
own_stream segment old new text0 text1 t = on segment.from t.goes
  where
    on : (from : Sender) → GoesTo from t.stamp segment old new text0 text1 → new.stream ≡ old.stream
    on Reader g = ap (λ (p : Pair). p.stream) g.1
    on Client g = ap (λ (p : Pair). p.stream) g.1

own_pair : (segment : Segment) (place : ℕ) (old mid given : Session) (now : Pair) (text0 text1 : List ℕ) → (o : Opens segment.stream place old mid) → TakesAt segment place mid given now text0 text1 → TakesOwn segment o.pair now text0 text1
own_pair segment place old mid given now text0 text1 o t = subst (λ (p : Pair). TakesOwn segment p now text0 text1) (some_same t.pair o.pair (sym t.at ∙ o.at)) t.takes

given_items : (segment : Segment) (place : ℕ) (old mid given : Session) (now : Pair) (text0 text1 : List ℕ) → (o : Opens segment.stream place old mid) → TakesAt segment place mid given now text0 text1
    → given.pairs.items ≡ take place mid.pairs.items ++ now ∷ drop (suc place) mid.pairs.items
given_items segment place old mid given now text0 text1 o t = t.items ∙ sets_at mid.pairs.items place o.pair now o.at

abbrev the_capture : List Pair → Bool → List ℕ → Capture
the_capture pairs lawful text = record { pairs = pairs; is_lawful = lawful; text = text }

same_capture : (a b : List Pair) (l m : Bool) (text : List ℕ) → a ≡ b → l ≡ m → the_capture a l text ≡ the_capture b m text
same_capture a b l m text h k = ap (λ (x : List Pair). the_capture x l text) h ∙ ap (λ (x : Bool). the_capture b x text) k

pub given_step : (segment : Segment) (place : ℕ) (old mid given : Session) (now : Pair) (text0 text1 : List ℕ) → (o : Opens segment.stream place old mid) → TakesAt segment place mid given now text0 text1 → InStep given
given_step segment place old mid given now text0 text1 o t =
    let own = own_pair segment place old mid given now text0 text1 o t in
    ap (λ (s : Session). s.connections.streams.items) t.same ∙ o.in_step ∙ sym (streams_set mid.pairs.items place o.pair now o.at (own_stream segment o.pair now text0 text1 own)) ∙ ap streams_of (sym t.items)

-- the pair stays
pub goes_on : (segment : Segment) (place : ℕ) (old mid given : Session) (now : Pair) (text0 text1 : List ℕ) → Heeds segment old.pairs.items true → Opens segment.stream place old mid → TakesAt segment place mid given now text0 text1 → is_over segment now ≡ false → Goes segment old given text0 text1
goes_on segment place old mid given now text0 text1 heeded o t over =
    let lawful : given.is_lawful ≡ old.is_lawful = ap (λ (s : Session). s.is_lawful) t.same ∙ ap (λ (s : Session). s.is_lawful) o.same in
    record {
      takes = record {
        before = take place mid.pairs.items;
        pair = o.pair;
        after = drop (suc place) mid.pairs.items;
        finds = finds segment place old mid o heeded;
        now = now;
        text = text1;
        takes = own_pair segment place old mid given now text0 text1 o t;
        goes = subst (λ (b : Bool). GoesOn b segment.time.now (take place mid.pairs.items) now (drop (suc place) mid.pairs.items) old.is_lawful text1 (capture_of given text1)) (sym over)
            (same_capture given.pairs.items (take place mid.pairs.items ++ now ∷ drop (suc place) mid.pairs.items) given.is_lawful old.is_lawful text1 (given_items segment place old mid given now text0 text1 o t) lawful);
      };
      in_step = given_step segment place old mid given now text0 text1 o t;
      form = ap (λ (s : Session). s.form) t.same ∙ ap (λ (s : Session). s.form) o.same;
      port = ap (λ (s : Session). s.port) t.same ∙ ap (λ (s : Session). s.port) o.same;
      time_is = ap (λ (s : Session). s.time) t.same ∙ ap (λ (s : Session). s.time) o.same;
    }

-- the pair is over
pub goes_over : (segment : Segment) (place : ℕ) (old mid given new : Session) (now : Pair) (text0 text1 text2 : List ℕ) → Heeds segment old.pairs.items true → Opens segment.stream place old mid → TakesAt segment place mid given now text0 text1 → is_over segment now ≡ true
    → Closes segment.time.now place given new text1 text2 → Goes segment old new text0 text2
goes_over segment place old mid given new now text0 text1 text2 heeded o t over c =
    let lawful : given.is_lawful ≡ old.is_lawful = ap (λ (s : Session). s.is_lawful) t.same ∙ ap (λ (s : Session). s.is_lawful) o.same in
    let is_now : c.pair ≡ now = some_same c.pair now (sym c.at ∙ ap (λ (xs : List Pair). slice_get xs place) t.items ∙ get_set mid.pairs.items place o.pair now o.at) in
    record {
      takes = record {
        before = take place mid.pairs.items;
        pair = o.pair;
        after = drop (suc place) mid.pairs.items;
        finds = finds segment place old mid o heeded;
        now = now;
        text = text1;
        takes = own_pair segment place old mid given now text0 text1 o t;
        goes = subst (λ (b : Bool). GoesOn b segment.time.now (take place mid.pairs.items) now (drop (suc place) mid.pairs.items) old.is_lawful text1 (capture_of new text2)) (sym over) (
          c.gone,
          subst (λ (p : Pair). EndsBoth segment.time.now p c.gone text1 text2) is_now c.ends,
          c.items ∙ ap (λ (xs : List Pair). remove xs place) t.items ∙ remove_set mid.pairs.items place now,
          c.is_lawful ∙ ap (λ (b : Bool). b && are_lawful c.gone) lawful,
        );
      };
      in_step = c.in_step;
      form = c.form ∙ ap (λ (s : Session). s.form) t.same ∙ ap (λ (s : Session). s.form) o.same;
      port = c.port ∙ ap (λ (s : Session). s.port) t.same ∙ ap (λ (s : Session). s.port) o.same;
      time_is = c.time_is ∙ ap (λ (s : Session). s.time) t.same ∙ ap (λ (s : Session). s.time) o.same;
    }

-- the pair is closed
pub closed : (time : List ℕ) (place : ℕ) (old ended new : Session) (text0 text1 : List ℕ) → InStep old → EndsAt time place old ended text0 text1 → new.pairs.items ≡ remove ended.pairs.items place → new.connections.streams.items ≡ remove ended.connections.streams.items place
    → new ≡ record ended { connections = new.connections; pairs = new.pairs } → Closes time place old new text0 text1
closed time place old ended new text0 text1 step e items streams same =
    let pairs : new.pairs.items ≡ remove old.pairs.items place = items ∙ ap (λ (xs : List Pair). remove xs place) e.items ∙ remove_set old.pairs.items place e.gone in
    let before : ended.connections.streams.items ≡ streams_of old.pairs.items = ap (λ (s : Session). s.connections.streams.items) e.same ∙ step in
    record {
      pair = e.pair;
      at = e.at;
      gone = e.gone;
      ends = e.ends;
      items = pairs;
      in_step = streams ∙ ap (λ (xs : List ℕ). remove xs place) before ∙ streams_remove old.pairs.items place ∙ ap streams_of (sym pairs);
      is_lawful = ap (λ (s : Session). s.is_lawful) same ∙ e.is_lawful;
      form = ap (λ (s : Session). s.form) same ∙ ap (λ (s : Session). s.form) e.same;
      port = ap (λ (s : Session). s.port) same ∙ ap (λ (s : Session). s.port) e.same;
      time_is = ap (λ (s : Session). s.time) same ∙ ap (λ (s : Session). s.time) e.same;
    }

-- ---- the end

-- the ends of the pairs from a place on go on with those of the pairs after it
pub ends_next : (time shown : List ℕ) (place after : ℕ) (old new : Session) (text0 text1 text2 : List ℕ) (lawful : Bool) → shown ≡ time → after ≡ suc place → EndsAt shown place old new text0 text1 → EndAll time (drop after new.pairs.items) new.is_lawful lawful text1 text2
    → EndAll time (drop place old.pairs.items) old.is_lawful lawful text0 text2
ends_next time shown place after old new text0 text1 text2 lawful is_time is_after e rest =
    let pairs : drop after new.pairs.items ≡ drop (suc place) old.pairs.items = ap (λ (n : ℕ). drop n new.pairs.items) is_after ∙ ap (drop (suc place)) e.items ∙ drop_set old.pairs.items place e.gone in
    let all : EndAll time (drop (suc place) old.pairs.items) (old.is_lawful && are_lawful e.gone) lawful text1 text2 =
    subst (λ (b : Bool). EndAll time (drop (suc place) old.pairs.items) b lawful text1 text2) e.is_lawful (subst (λ (xs : List Pair). EndAll time xs new.is_lawful lawful text1 text2) pairs rest) in
    subst (λ (xs : List Pair). EndAll time xs old.is_lawful lawful text0 text2) (sym (drop_next old.pairs.items place e.pair e.at)) (e.gone, text1, subst (λ (x : List ℕ). EndsBoth x e.pair e.gone text0 text1) is_time e.ends, all)

pub ends_size : (time : List ℕ) (place : ℕ) (old new : Session) (text0 text1 : List ℕ) → EndsAt time place old new text0 text1 → length new.pairs.items ≡ length old.pairs.items
ends_size time place old new text0 text1 e = ap length e.items ∙ size_set old.pairs.items place e.gone

-- no pair is left
pub none_left : (time : List ℕ) (place : ℕ) (pairs : List Pair) (lawful : Bool) (text : List ℕ) → length pairs ≤ place → EndAll time (drop place pairs) lawful lawful text text
none_left time place pairs lawful text all = subst (λ (xs : List Pair). EndAll time xs lawful lawful text text) (sym (drop_all pairs place all)) (refl, refl)
  where
    drop_all : (xs : List Pair) (k : ℕ) → length xs ≤ k → drop k xs ≡ []
    drop_all [] zero h = refl
    drop_all [] (suc k) h = refl
    drop_all (x ∷ xs) zero h = absurd (omega arith)
    drop_all (x ∷ xs) (suc k) h = drop_all xs k (omega arith)
