-- What a decoder stands for by its fields, and what it keeps at most.
use Rattle.std.proofs.Common.{◌≡◌, ◌⊎◌, inl, inr, ℕ, ◌+◌, ◌<◌, ◌≤◌, List, [], ◌∷◌, ◌++◌, length, Option, Some, None, refl, sym, ap, subst, ◌∙◌, arith}
use Rattle.std.specs.Prelude.{IsSome, Err}
use Rattle.llrp_tree.specs.declared.fault.Fault.{Fault}
use Rattle.llrp_tree.specs.declared.TheConstants.{MAX_LIMIT}
use Rattle.llrp_tree.specs.Tree.{MessageTree}
use Rattle.llrp_tree.specs.OpenTree.{Begun}
use Rattle.llrp_tree.specs.Private.Weight.{open_weight}
use Rattle.llrp_schema.specs.declared.kinds.KindSet.{KindSet}
use Rattle.llrp_tree.proofs.Undecided.{fails_after_header}
use Rattle.llrp_stream.specs.declared.item.FeedErr.{FeedErr}
use Rattle.llrp_stream.specs.declared.item.FeedErr.TheVariants as failure
use Rattle.llrp_stream.specs.declared.item.Item.{Item}
use Rattle.llrp_stream.specs.declared.item.Item.TheVariants as item
use Rattle.llrp_stream.specs.declared.engine.body.Body.{Body}
use Rattle.llrp_stream.specs.declared.engine.body_reader.Stage.{Stage}
use Rattle.llrp_stream.specs.declared.engine.body_reader.Stage.TheVariants as stage
use Rattle.llrp_stream.specs.declared.engine.frames.Frames.{Frames}
use Rattle.llrp_stream.specs.declared.engine.frames.Outcome.{Outcome}
use Rattle.llrp_stream.specs.declared.engine.frames.Outcome.TheVariants.{Whole, Bad}
use Rattle.llrp_stream.specs.declared.state.State.{State}
use Rattle.llrp_stream.specs.declared.state.State.TheVariants as state
use Rattle.llrp_stream.specs.Building.{Building, nodes_weight}
use Rattle.llrp_stream.specs.Private.Building.{HasOpen}
use Rattle.llrp_stream.specs.Calls.Items.{HasHeaderFaultIn}
use Rattle.llrp_stream.specs.Calls.Reading.{Told}
use Rattle.llrp_stream.specs.Calls.Frames.{IsReading, ComesAt, IsIdle, TakesOn, Goes, is_skipped, Stops}
use Rattle.llrp_stream.specs.Decoding.{broken, dead, raw_octets, kept_weight, held_weight, is_skipping}
use Rattle.llrp_stream.specs.Private.Decoding.{Keeps}
use Rattle.llrp_stream.specs.Calls.Decoding.{StandsIn, IsDecidedIn}
use Rattle.llrp_stream.specs.Feeding.{TakesIn, FeedsIn}
use Rattle.llrp_stream.specs.Private.Keeping.{kept, decoder, IsKept}
use Rattle.llrp_stream.proofs.BuildingLemmas.{weigh_alike}
use Rattle.llrp_stream.proofs.HeldLemmas.{held_within}
use Rattle.llrp_stream.proofs.EngineHeld.{covers, undecided_reading}
use Rattle.llrp_stream.proofs.FramesLemmas.{state_comes}

-- ---- what it stands for

pub comes_at : (limit : ℕ) (s : State) (body : Body) (b : Building) (front other : List ℕ) → ComesAt (HasOpen b) (HasOpen b) limit s body other → Keeps body.reader.set limit (kept s body b) front → ComesAt (HasOpen b) (HasOpen b) limit s body front
comes_at limit state.Between body b front other k is = (is, k.1, k.2)
comes_at limit state.Header body b front other k is =
    let same : other ≡ front = sym k.0 ∙ sym is in
    subst (λ (x : List ℕ). ComesAt (HasOpen b) (HasOpen b) limit state.Header body x) same k
comes_at limit (state.Reading id) body b front other k is = is
comes_at limit (state.Skipping count header) body b front other k is = (is, k.1, k.2, k.3, k.4)
comes_at limit state.Broken body b front other k is = absurd k
comes_at limit state.Dead body b front other k is = absurd k

none_kept : (limit : ℕ) (s : State) (body : Body) (b : Building) (front : List ℕ) → (s ≡ state.Broken) ⊎ (s ≡ state.Dead) → Keeps body.reader.set limit (kept s body b) front → ⊥
none_kept limit s body b front o k = elim o [
  | inl e ↦ subst (λ (x : State). Keeps body.reader.set limit (kept x body b) front) e k
  | inr e ↦ subst (λ (x : State). Keeps body.reader.set limit (kept x body b) front) e k
]

keeps_of : {p : KindSet} (frames : Frames) (b : Building) (front : List ℕ) → StandsIn p (decoder frames b) front → Keeps frames.body.reader.set frames.limit (kept frames.state frames.body b) front
keeps_of frames b front st = subst (λ (q : KindSet). Keeps q frames.limit (kept frames.state frames.body b) front) (sym st.set) st.keeps

pub kept_comes : {p : KindSet} (frames : Frames) (b : Building) (front : List ℕ) → IsKept frames b → StandsIn p (decoder frames b) front → ComesAt (HasOpen b) (HasOpen b) frames.limit frames.state frames.body front
kept_comes frames b front k st = elim k.comes [
  | inl w ↦ comes_at frames.limit frames.state frames.body b front w.1 w.2 (keeps_of frames b front st)
  | inr o ↦ absurd (none_kept frames.limit frames.state frames.body b front o (keeps_of frames b front st))
]

pub stands_for : (limit : ℕ) (s : State) (body : Body) (b : Building) (front : List ℕ) → ComesAt (HasOpen b) (HasOpen b) limit s body front → StandsIn body.reader.set (record { set = body.reader.set; limit = limit; kept = kept s body b }) front
stands_for limit state.Between body b front k = record { set = refl; unfinished = inl (let none = ap (λ (x : List ℕ). length x) k.0 in omega arith); keeps = k.0 }
stands_for limit state.Header body b front k = record { set = refl; unfinished = k.3; keeps = sym k.0 }
stands_for limit (state.Reading id) body b front k =
    let more : length front < body.reader.octets = k.awaits.short.more in
    record { set = refl; unfinished = inr (omega (arith, k.passed.octets_are, k.passed.long), omega (arith, k.passed.octets_are)); keeps = k }
stands_for limit (state.Skipping count header) body b front k = record { set = refl; unfinished = inr (omega (arith, k.0.octets_are, k.1, k.2), omega (arith, k.0.octets_are, k.0.count_is, k.2)); keeps = k.0 }
stands_for limit state.Broken body b front k = absurd k
stands_for limit state.Dead body b front k = absurd k

none_open : (b : Building) → b.nodes ≡ [] → HasOpen b []
none_open b e = record { nodes = e; header = tt }

idle_comes : (limit : ℕ) (new : Frames) (b : Building) → IsIdle new → b.nodes ≡ [] → ComesAt (HasOpen b) (HasOpen b) limit new.state new.body []
idle_comes limit new b i e = state_comes (HasOpen b) (HasOpen b) limit state.Between new.state new.body [] (sym i.0) (refl, i.1, none_open b e)

not_ended : (limit : ℕ) (s : State) (body : Body) (b : Building) (front : List ℕ) → ComesAt (HasOpen b) (HasOpen b) limit s body front → (s ≡ state.Broken) ⊎ (s ≡ state.Dead) → ⊥
not_ended limit s body b front k o = elim o [
  | inl e ↦ state_comes (HasOpen b) (HasOpen b) limit s state.Broken body front e k
  | inr e ↦ state_comes (HasOpen b) (HasOpen b) limit s state.Dead body front e k
]

-- ---- after a feed

abbrev pub Takings : (limit : ℕ) → Building → (front piece : List ℕ) → Frames → (used : ℕ) → Option Outcome → Type 0
Takings limit b front piece new used outcome = TakesOn (HasOpen b) (HasOpen b) (λ m now. (b.done ≡ Some m) × (b.nodes ≡ [])) (λ now. HasOpen b []) limit front piece new used outcome

module _ (limit : ℕ) (told after : Building) (front piece : List ℕ) (new : Frames) (used : ℕ) where
  taken_comes : (outcome : Option Outcome) → (outcome ≡ None → after ≡ told) → after.nodes ≡ told.nodes → Takings limit told front piece new used outcome → (next : List ℕ) × ComesAt (HasOpen after) (HasOpen after) limit new.state new.body next
  taken_comes None same nodes t = (front ++ piece, subst (λ (x : Building). ComesAt (HasOpen x) (HasOpen x) limit new.state new.body (front ++ piece)) (sym (same refl)) t.1)
  taken_comes (Some Whole) same nodes t = ([], idle_comes limit new after t.3 (nodes ∙ t.2.4.nodes))
  taken_comes (Some (Bad id fault)) same nodes t = ([], idle_comes limit new after t.3 (nodes ∙ t.2.2.nodes))

  stands_on : (next : List ℕ) → new.limit ≡ limit → ComesAt (HasOpen after) (HasOpen after) limit new.state new.body next → StandsIn new.body.reader.set (decoder new after) next
  stands_on next e k = stands_for new.limit new.state new.body after next (subst (λ (n : ℕ). ComesAt (HasOpen after) (HasOpen after) n new.state new.body next) (sym e) k)

  pub takes_item : (outcome : Option Outcome) (it : Option Item) → new.limit ≡ limit → (outcome ≡ None → after ≡ told) → after.nodes ≡ told.nodes → (outcome ≡ None → it ≡ None) → ((id : ℕ) (fault : Fault) → outcome ≡ Some (Bad id fault) → it ≡ Some (item.Bad id fault))
      → ((m : MessageTree) → outcome ≡ Some Whole → told.done ≡ Some m → it ≡ Some (item.Msg m)) → Takings limit told front piece new used outcome → TakesIn new.body.reader.set limit front piece (decoder new after) used it
  takes_item None it e same nodes none bad whole t =
      let k = subst (λ (x : Building). ComesAt (HasOpen x) (HasOpen x) limit new.state new.body (front ++ piece)) (sym (same refl)) t.1 in
      let is : TakesIn new.body.reader.set limit front piece (decoder new after) used None = (t.0, stands_on (front ++ piece) e k) in
      subst (λ (x : Option Item). TakesIn new.body.reader.set limit front piece (decoder new after) used x) (sym (none refl)) is
  takes_item (Some Whole) it e same nodes none bad whole t =
      let is : TakesIn new.body.reader.set limit front piece (decoder new after) used (Some (item.Msg t.2.0)) = (t.0, t.1, t.2.1, stands_on [] e (idle_comes limit new after t.3 (nodes ∙ t.2.4.nodes))) in
      subst (λ (x : Option Item). TakesIn new.body.reader.set limit front piece (decoder new after) used x) (sym (whole t.2.0 refl t.2.3.0)) is
  takes_item (Some (Bad id fault)) it e same nodes none bad whole t =
      let is : TakesIn new.body.reader.set limit front piece (decoder new after) used (Some (item.Bad id fault)) = (t.0, t.1, (t.2.0, t.2.1), stands_on [] e (idle_comes limit new after t.3 (nodes ∙ t.2.2.nodes))) in
      subst (λ (x : Option Item). TakesIn new.body.reader.set limit front piece (decoder new after) used x) (sym (bad id fault refl)) is

-- the fields after a feed that took something
pub kept_fed : (old new : Frames) (before told after : Building) (piece : List ℕ) (used : ℕ) (outcome : Option Outcome) → IsKept old before → new.limit ≡ old.limit → (outcome ≡ None → after ≡ told) → after.nodes ≡ told.nodes
    → ((was front : List ℕ) → ComesAt (HasOpen before) (HasOpen before) old.limit old.state old.body front → Takings old.limit told front piece new used outcome) → (old.state ≡ state.Broken → ⊥) → (old.state ≡ state.Dead → ⊥) → IsKept new after
kept_fed old new before told after piece used outcome k e same nodes f nb nd = elim k.comes [
  | inl w ↦
      let t = f w.0 w.1 w.2 in
      let next = taken_comes old.limit told after w.1 piece new used outcome same nodes t in
      let comes = subst (λ (n : ℕ). ComesAt (HasOpen after) (HasOpen after) n new.state new.body next.0) (sym e) next.1 in
      record { least = omega (arith, e, k.least); most = omega (arith, e, k.most); comes = inl ([], next.0, comes); ended = λ o. absurd (not_ended new.limit new.state new.body after next.0 comes o) }
  | inr (inl x) ↦ absurd (nb x)
  | inr (inr x) ↦ absurd (nd x)
]

stops_in : (new : Frames) (error : FeedErr) → Stops new error → ((new.state ≡ state.Broken) ⊎ (new.state ≡ state.Dead)) × (new.body.raw.items ≡ [])
stops_in new failure.Broken s = (inl s.0, s.1)
stops_in new failure.Memory s = (inr s.0, s.1)
stops_in new failure.Dead s = (inr s.0, s.1)

-- and after one that failed
pub kept_failed : (old new : Frames) (before after : Building) (error : FeedErr) → IsKept old before → new.limit ≡ old.limit → Stops new error → after.nodes ≡ [] → IsKept new after
kept_failed old new before after error k e s nodes =
    let st = stops_in new error s in
    record { least = omega (arith, e, k.least); most = omega (arith, e, k.most); comes = inr st.0; ended = λ o. (st.1, nodes) }

skips_alike : (s : State) (body : Body) (b : Building) → is_skipping (kept s body b) ≡ is_skipped s
skips_alike state.Between body b = refl
skips_alike state.Header body b = refl
skips_alike (state.Reading id) body b = refl
skips_alike (state.Skipping count header) body b = refl
skips_alike state.Broken body b = refl
skips_alike state.Dead body b = refl

pub feeds_failed : (p : KindSet) (old new : Frames) (before told after : Building) (front piece : List ℕ) (error : FeedErr) → Goes (HasOpen told) (HasOpen told) (λ m now. (told.done ≡ Some m) × (told.nodes ≡ [])) (λ now. HasOpen told []) old new front piece (Err error) → Stops new error
    → FeedsIn p (decoder old before) front piece (decoder new after) (Err error)
feeds_failed p old new before told after front piece failure.Broken g s = (g.0, ap (λ (x : State). kept x new.body after) s.0)
feeds_failed p old new before told after front piece failure.Memory g s = (skips_alike old.state old.body before ∙ g, ap (λ (x : State). kept x new.body after) s.0)
feeds_failed p old new before told after front piece failure.Dead g s = absurd g

pub state_broken : (s : State) (body : Body) (b : Building) → kept s body b ≡ broken → s ≡ state.Broken
state_broken state.Between body b e = absurd cc
state_broken state.Header body b e = absurd cc
state_broken (state.Reading id) body b e = absurd cc
state_broken (state.Skipping count header) body b e = absurd cc
state_broken state.Broken body b e = refl
state_broken state.Dead body b e = absurd cc

pub state_dead : (s : State) (body : Body) (b : Building) → kept s body b ≡ dead → s ≡ state.Dead
state_dead state.Between body b e = absurd cc
state_dead state.Header body b e = absurd cc
state_dead (state.Reading id) body b e = absurd cc
state_dead (state.Skipping count header) body b e = absurd cc
state_dead state.Broken body b e = absurd cc
state_dead state.Dead body b e = refl

-- ---- what it keeps at most

told_open : (b : Building) (s : Stage) (t : List Begun) → Told (HasOpen b) (HasOpen b) s t → HasOpen b t
told_open b (stage.Leading next) t h = h
told_open b (stage.Tail left) t h = h
told_open b stage.Children t h = h

-- What is kept in a body.
pub record Weighs (limit : ℕ) (body : Body) (b : Building) (front : List ℕ) : Type 0 where
  pub nodes : nodes_weight b.nodes ≤ body.reader.at
  pub all : body.reader.at + length body.raw.items ≡ length front
  pub more : length front < body.reader.octets
  pub within : body.reader.octets ≤ limit
  pub few : length body.raw.items < 16

pub weighs : (limit id : ℕ) (body : Body) (b : Building) (front : List ℕ) → IsReading (HasOpen b) (HasOpen b) limit id body front → Weighs limit body b front
weighs limit id body b front r =
    let st = r.awaits.stands_for in
    let t : List Begun = st.are.node ∷ st.are.outer in
    let own : open_weight t ≤ body.reader.at = held_within body.reader front st.are.node st.are.outer st.are.reads in
    let same : nodes_weight b.nodes ≡ open_weight t = weigh_alike b t (told_open b body.reader.stage t st.are.told) in
    let c = covers (HasOpen b) (HasOpen b) limit id body front r in
    record { nodes = omega arith; all = c.all; more = c.more; within = c.within; few = c.few }

pub held_front : (limit : ℕ) (s : State) (body : Body) (b : Building) (front : List ℕ) → ComesAt (HasOpen b) (HasOpen b) limit s body front → raw_octets (kept s body b) + kept_weight (kept s body b) ≤ length front
held_front limit state.Between body b front k = omega arith
held_front limit state.Header body b front k = let same = ap (λ (x : List ℕ). length x) k.0 in omega arith
held_front limit (state.Reading id) body b front k = let w = weighs limit id body b front k in omega (arith, w.nodes, w.all)
held_front limit (state.Skipping count header) body b front k = omega arith
held_front limit state.Broken body b front k = absurd k
held_front limit state.Dead body b front k = absurd k

limit_at : (limit : ℕ) (s : State) (body : Body) (b : Building) (front : List ℕ) → 10 ≤ limit → ComesAt (HasOpen b) (HasOpen b) limit s body front → (raw_octets (kept s body b) + kept_weight (kept s body b) ≤ limit) × (raw_octets (kept s body b) ≤ 16)
limit_at limit state.Between body b front ten k = (omega arith, omega arith)
limit_at limit state.Header body b front ten k = let same = ap (λ (x : List ℕ). length x) k.0 in (omega (arith, k.2), omega (arith, k.2))
limit_at limit (state.Reading id) body b front ten k = let w = weighs limit id body b front k in (omega (arith, w.nodes, w.all, w.more, w.within), omega (arith, w.few))
limit_at limit (state.Skipping count header) body b front ten k = (omega arith, omega arith)
limit_at limit state.Broken body b front ten k = absurd k
limit_at limit state.Dead body b front ten k = absurd k

ended_at : (limit : ℕ) (s : State) (body : Body) (b : Building) → (s ≡ state.Broken) ⊎ (s ≡ state.Dead) → (raw_octets (kept s body b) + kept_weight (kept s body b) ≤ limit) × (raw_octets (kept s body b) ≤ 16)
ended_at limit s body b o = elim o [
  | inl e ↦ subst (λ (x : State). (raw_octets (kept x body b) + kept_weight (kept x body b) ≤ limit) × (raw_octets (kept x body b) ≤ 16)) (sym e) (omega arith, omega arith)
  | inr e ↦ subst (λ (x : State). (raw_octets (kept x body b) + kept_weight (kept x body b) ≤ limit) × (raw_octets (kept x body b) ≤ 16)) (sym e) (omega arith, omega arith)
]

pub held_limit : (frames : Frames) (b : Building) → IsKept frames b → (held_weight (decoder frames b) ≤ frames.limit) × (raw_octets (decoder frames b).kept ≤ 16)
held_limit frames b k = elim k.comes [
  | inl w ↦ limit_at frames.limit frames.state frames.body b w.1 k.least w.2
  | inr o ↦ ended_at frames.limit frames.state frames.body b o
]

-- ---- nothing is kept from the octet on that decides a fault

pub held_decided : (limit : ℕ) (s : State) (body : Body) (b : Building) (front : List ℕ) → ComesAt (HasOpen b) (HasOpen b) limit s body front → IsDecidedIn body.reader.set limit front → raw_octets (kept s body b) + kept_weight (kept s body b) ≡ 0
held_decided limit state.Between body b front k d = refl
held_decided limit state.Header body b front k d = absurd (let ten = fails_after_header body.reader.set limit (front ++ d.0) (length front) d.2 in omega (arith, k.2))
held_decided limit (state.Reading id) body b front k d = absurd (undecided_reading (HasOpen b) (HasOpen b) limit id body front d.0 k d.1 d.2)
held_decided limit (state.Skipping count header) body b front k d = refl
held_decided limit state.Broken body b front k d = refl
held_decided limit state.Dead body b front k d = refl

pub held_skipped : (limit : ℕ) (s : State) (body : Body) (b : Building) (front : List ℕ) → ComesAt (HasOpen b) (HasOpen b) limit s body front → HasHeaderFaultIn body.reader.set limit front → raw_octets (kept s body b) + kept_weight (kept s body b) ≡ 0
held_skipped limit state.Between body b front k d = refl
held_skipped limit state.Header body b front k d = absurd (omega (arith, k.2, d.0))
held_skipped limit (state.Reading id) body b front k d = absurd (d.1 k.passed.passes)
held_skipped limit (state.Skipping count header) body b front k d = refl
held_skipped limit state.Broken body b front k d = refl
held_skipped limit state.Dead body b front k d = refl

-- ---- a decoder's calls

-- What a decoder with the fields keeps.
pub record Holds (frames : Frames) (b : Building) (n : ℕ) : Type 0 where
  pub weight_is : n ≡ held_weight (decoder frames b)
  pub within : n ≤ frames.limit
  pub front : (p : KindSet) (front : List ℕ) → StandsIn p (decoder frames b) front → n ≤ length front
  pub raw : raw_octets (decoder frames b).kept ≤ 16
  pub skipped : (p : KindSet) (front : List ℕ) → StandsIn p (decoder frames b) front → HasHeaderFaultIn p frames.limit front → n ≡ 0
  pub decided : (p : KindSet) (front : List ℕ) → StandsIn p (decoder frames b) front → IsDecidedIn p frames.limit front → n ≡ 0

pub holds : (frames : Frames) (b : Building) (n : ℕ) → IsKept frames b → n ≡ held_weight (decoder frames b) → Holds frames b n
holds frames b n k e =
    let most = held_limit frames b k in
    record {
      weight_is = e;
      within = omega (arith, e, most.0);
      front = λ p front st. omega (arith, e, held_front frames.limit frames.state frames.body b front (kept_comes frames b front k st));
      raw = most.1;
      skipped = λ p front st f. e ∙ held_skipped frames.limit frames.state frames.body b front (kept_comes frames b front k st) (subst (λ (q : KindSet). HasHeaderFaultIn q frames.limit front) (sym st.set) f);
      decided = λ p front st f. e ∙ held_decided frames.limit frames.state frames.body b front (kept_comes frames b front k st) (subst (λ (q : KindSet). IsDecidedIn q frames.limit front) (sym st.set) f);
    }

pub weight_is : (frames : Frames) (b : Building) (s : State) → frames.state ≡ s → held_weight (decoder frames b) ≡ raw_octets (kept s frames.body b) + kept_weight (kept s frames.body b)
weight_is frames b s e = ap (λ (x : State). raw_octets (kept x frames.body b) + kept_weight (kept x frames.body b)) e

pub kept_reading : (frames : Frames) (b : Building) (id : ℕ) → IsKept frames b → frames.state ≡ state.Reading id → (front : List ℕ) × Weighs frames.limit frames.body b front
kept_reading frames b id k e = elim k.comes [
  | inl w ↦ (w.1, weighs frames.limit id frames.body b w.1 (state_comes (HasOpen b) (HasOpen b) frames.limit frames.state (state.Reading id) frames.body w.1 e w.2))
  | inr (inl x) ↦ absurd (let z = sym e ∙ x in cc)
  | inr (inr x) ↦ absurd (let z = sym e ∙ x in cc)
]

pub front_at : {p : KindSet} (frames : Frames) (b : Building) (s : State) (front : List ℕ) → IsKept frames b → frames.state ≡ s → StandsIn p (decoder frames b) front → ComesAt (HasOpen b) (HasOpen b) frames.limit s frames.body front
front_at frames b s front k e st = state_comes (HasOpen b) (HasOpen b) frames.limit frames.state s frames.body front e (kept_comes frames b front k st)

pub kept_new : (frames : Frames) (b : Building) → 10 ≤ frames.limit → frames.limit ≤ MAX_LIMIT → frames.state ≡ state.Between → frames.body.raw.items ≡ [] → b.nodes ≡ [] → IsKept frames b
kept_new frames b least most s r e =
    let k = idle_comes frames.limit frames b (s, r) e in
    record { least = least; most = most; comes = inl ([], [], k); ended = λ o. absurd (not_ended frames.limit frames.state frames.body b [] k o) }

pub stands_new : (frames : Frames) (b : Building) → frames.state ≡ state.Between → frames.body.raw.items ≡ [] → b.nodes ≡ [] → StandsIn frames.body.reader.set (decoder frames b) []
stands_new frames b s r e = stands_for frames.limit frames.state frames.body b [] (idle_comes frames.limit frames b (s, r) e)

pub some_outcome : (outcome : Option Outcome) (it : Option Item) → (outcome ≡ None → it ≡ None) → IsSome it → IsSome outcome
some_outcome None it none some = absurd (let z : IsSome {T = Item} None = subst (λ (x : Option Item). IsSome x) (none refl) some in cc)
some_outcome (Some outcome) it none some = refl
