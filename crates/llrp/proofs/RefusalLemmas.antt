-- What a finder of refusals hears of pieces.
use Rattle.std.proofs.Common.{arith, ◌≡◌, ◌==◌, ℕ, ◌⊎◌, inl, inr, true, false, List, [], ◌∷◌, ◌++◌, length, take, refl, sym, ap, subst, ◌∙◌, append_assoc, Result, Ok, Err}
use Rattle.std.specs.Prelude.{Option, Some, None, is_none}
use Rattle.std.proofs.lemmas.Bool.{ne_eqb}
use Rattle.std.proofs.lemmas.List.{append-nil}
use Rattle.llrp_schema.specs.declared.kinds.KindSet.{KindSet}
use Rattle.llrp_schema.specs.declared.kinds.KindSet.TheVariants.{Standard}
use Rattle.llrp_stream.specs.declared.item.Item.{Item}
use Rattle.llrp_stream.specs.declared.item.Fed.{Fed}
use Rattle.llrp_stream.specs.declared.item.FeedErr.{FeedErr}
use Rattle.llrp_stream.specs.declared.item.FeedErr.TheVariants.{Broken, Memory, Dead}
use Rattle.llrp_stream.specs.Cuts.{Breaks}
use Rattle.llrp_stream.specs.Decoding.{DecoderState, IsBroken, IsDead}
use Rattle.llrp_stream.specs.Calls.Decoding.{StandsIn}
use Rattle.llrp_stream.specs.Feeding.{FeedsIn, TakesIn}
use Rattle.llrp_stream.specs.Items.{ItemsSoFarIn}
use Rattle.llrp_stream.proofs.FrontLemmas.{no_frame_breaks}
use Rattle.llrp_stream.proofs.RunLemmas.{items_grow}
use Rattle.llrp.specs.declared.faults.FaultFinder.{FaultFinder}
use Rattle.llrp.specs.Calls.Refusals.{HasHeard, Hears, HearsNoMore, HearsNone, HearsRefusal, NoneRefuses, refused_by}

-- one to which nothing came
pub heard_nothing : (limit : ℕ) (f : FaultFinder) → StandsIn Standard f.decoder [] → f.decoder.limit ≡ limit → f.refused ≡ None → f.heeds_access ≡ true → HasHeard limit [] f
heard_nothing limit f stands is none heeds = record {
  heeds = heeds;
  limit_is = is;
  heard = inl (record { items = []; front = []; so_far = (items_grow limit).none; none = tt; left = inl stands; refused = none });
}

-- no octet, and octets after others
pub hears_nothing : (f : FaultFinder) → Hears [] f f
hears_nothing f limit octets h = subst (λ (x : List ℕ). HasHeard limit x f) (sym (append-nil octets)) h

pub hears_then : (a b c : FaultFinder) (first last : List ℕ) → Hears first a b → Hears last b c → Hears (first ++ last) a c
hears_then a b c first last f g limit octets h = subst (λ (x : List ℕ). HasHeard limit x c) (append_assoc octets first last) (g limit (octets ++ first) (f limit octets h))

none_more : (items : List Item) (item : Item) → NoneRefuses items → refused_by item ≡ None → NoneRefuses (items ++ item ∷ [])
none_more [] item n e = (e, tt)
none_more (x ∷ items) item n e = (n.0, none_more items item n.1 e)

no_status : (o : Option ℕ) (s : ℕ) → is_none o ≡ true → o ≡ Some s → ⊥
no_status None s e f = absurd cc
no_status (Some t) s e f = absurd cc

some_status : (o : Option ℕ) → is_none o ≡ false → o ≡ None → ⊥
some_status None e f = absurd cc
some_status (Some t) e f = absurd cc

none_of : (o : Option ℕ) → is_none o ≡ true → o ≡ None
none_of None t = refl
none_of (Some s) t = absurd cc

-- a refusal stays the first, whatever follows
refusal_grows : (limit : ℕ) (octets more : List ℕ) (f g : FaultFinder) → g.refused ≡ f.refused → HearsRefusal limit octets f → HearsRefusal limit (octets ++ more) g
refusal_grows limit octets more f g same r = record {
  items = r.items;
  last = r.last;
  front = r.front;
  later = r.later ++ more;
  status = r.status;
  parts = ap (λ (x : List ℕ). x ++ more) r.parts ∙ append_assoc r.front r.later more;
  so_far = r.so_far;
  none = r.none;
  refuses = r.refuses;
  refused = same ∙ r.refused;
}

-- after a refusal it takes nothing more
stays_so : (limit : ℕ) (octets more : List ℕ) (f : FaultFinder) → is_none f.refused ≡ false → HearsNone limit octets f ⊎ (HearsRefusal limit octets f ⊎ HearsNoMore f) → HearsNone limit (octets ++ more) f ⊎ (HearsRefusal limit (octets ++ more) f ⊎ HearsNoMore f)
stays_so limit octets more f some (inl n) = absurd (some_status f.refused some n.refused)
stays_so limit octets more f some (inr (inl r)) = inr (inl (refusal_grows limit octets more f f refl r))
stays_so limit octets more f some (inr (inr d)) = absurd (some_status f.refused some d.refused)

pub hears_no_more : (more : List ℕ) (f : FaultFinder) → (f.heeds_access ≡ true → is_none f.refused ≡ false) → Hears more f f
hears_no_more more f some limit octets h = record { heeds = h.heeds; limit_is = h.limit_is; heard = stays_so limit octets more f (some h.heeds) h.heard }

pub nothing_left : (rest : List ℕ) → true ≡ (length rest == 0) → rest ≡ []
nothing_left [] e = refl
nothing_left (b ∷ rest) e = absurd (let f = ne_eqb (length (b ∷ rest)) 0 (λ (h : length (b ∷ rest) ≡ 0). omega (arith, h)) in let g : true ≡ false = e ∙ f in cc)

-- what a feed answers
abbrev fed_as : ℕ → Option Item → Result Fed FeedErr
fed_as used item = Ok (record { used = used; item = item })

abbrev failed : FeedErr → Result Fed FeedErr
failed error = Err error

module _ (f : FaultFinder) (new : DecoderState) (piece : List ℕ) (same : new.limit ≡ f.decoder.limit) where
  abbrev fed : FaultFinder
  fed = record f { decoder = new }

  abbrev IsHeard : (limit : ℕ) (octets : List ℕ) → FaultFinder → Type 0
  IsHeard limit octets g = HearsNone limit octets g ⊎ (HearsRefusal limit octets g ⊎ HearsNoMore g)

  grown : (limit : ℕ) (octets : List ℕ) (h : HearsNone limit octets f) → StandsIn Standard new (h.front ++ piece) ⊎ (IsBroken new × Breaks (h.front ++ piece)) → HearsNone limit (octets ++ piece) fed
  grown limit octets h left = record {
    items = h.items;
    front = h.front ++ piece;
    so_far = (items_grow limit).by_bytes octets h.items h.front piece h.so_far;
    none = h.none;
    left = left;
    refused = h.refused;
  }

  -- ---- the feed fails

  fails_standing : (limit : ℕ) (octets : List ℕ) (error : FeedErr) (h : HearsNone limit octets f) → FeedsIn Standard f.decoder h.front piece new (failed error) → IsHeard limit (octets ++ piece) fed
  fails_standing limit octets Broken h fails = inl (grown limit octets h (inr (fails.1, fails.0)))
  fails_standing limit octets Memory h fails = inr (inr (record { dead = fails.1; refused = h.refused }))
  fails_standing limit octets Dead h fails = absurd fails

  fails_by : (limit : ℕ) (octets : List ℕ) (error : FeedErr) (h : HearsNone limit octets f) → ((p : KindSet) (front : List ℕ) → StandsIn p f.decoder front → FeedsIn p f.decoder front piece new (failed error)) → (IsBroken f.decoder → IsBroken new)
      → StandsIn Standard f.decoder h.front ⊎ (IsBroken f.decoder × Breaks h.front) → IsHeard limit (octets ++ piece) fed
  fails_by limit octets error h stands broken (inl s) = fails_standing limit octets error h (stands Standard h.front s)
  fails_by limit octets error h stands broken (inr b) = inl (grown limit octets h (inr (broken b.0, no_frame_breaks h.front piece b.1)))

  fails_so : (limit : ℕ) (octets : List ℕ) (error : FeedErr) → ((p : KindSet) (front : List ℕ) → StandsIn p f.decoder front → FeedsIn p f.decoder front piece new (failed error)) → (IsBroken f.decoder → IsBroken new) → (IsDead f.decoder → IsDead new)
      → IsHeard limit octets f → IsHeard limit (octets ++ piece) fed
  fails_so limit octets error stands broken dead (inl n) = fails_by limit octets error n stands broken n.left
  fails_so limit octets error stands broken dead (inr (inl r)) = inr (inl (refusal_grows limit octets piece f fed refl r))
  fails_so limit octets error stands broken dead (inr (inr d)) = inr (inr (record { dead = dead d.dead; refused = d.refused }))

  pub hears_failure : (error : FeedErr) → ((p : KindSet) (front : List ℕ) → StandsIn p f.decoder front → FeedsIn p f.decoder front piece new (failed error)) → (IsBroken f.decoder → IsBroken new) → (IsDead f.decoder → IsDead new) → Hears piece f fed
  hears_failure error stands broken dead limit octets h = record { heeds = h.heeds; limit_is = same ∙ h.limit_is; heard = fails_so limit octets error stands broken dead h.heard }

  -- ---- it ends no frame

  rest_by : (limit : ℕ) (octets : List ℕ) (used : ℕ) (item : Option Item) (h : HearsNone limit octets f) → item ≡ None → ((p : KindSet) (front : List ℕ) → StandsIn p f.decoder front → TakesIn p f.decoder.limit front piece new used item)
      → (IsBroken f.decoder → (fed_as used item ≡ failed Broken) × IsBroken new) → StandsIn Standard f.decoder h.front ⊎ (IsBroken f.decoder × Breaks h.front) → IsHeard limit (octets ++ piece) fed
  rest_by limit octets used item h e takes broken (inl s) = inl (grown limit octets h (inl (subst (λ (o : Option Item). TakesIn Standard f.decoder.limit h.front piece new used o) e (takes Standard h.front s)).1))
  rest_by limit octets used item h e takes broken (inr b) = absurd (let z = (broken b.0).0 in cc)

  rest_so : (limit : ℕ) (octets : List ℕ) (used : ℕ) (item : Option Item) → item ≡ None → ((p : KindSet) (front : List ℕ) → StandsIn p f.decoder front → TakesIn p f.decoder.limit front piece new used item)
      → (IsBroken f.decoder → (fed_as used item ≡ failed Broken) × IsBroken new) → (IsDead f.decoder → (fed_as used item ≡ failed Dead) × IsDead new) → IsHeard limit octets f → IsHeard limit (octets ++ piece) fed
  rest_so limit octets used item e takes broken dead (inl n) = rest_by limit octets used item n e takes broken n.left
  rest_so limit octets used item e takes broken dead (inr (inl r)) = inr (inl (refusal_grows limit octets piece f fed refl r))
  rest_so limit octets used item e takes broken dead (inr (inr d)) = absurd (let z = (dead d.dead).0 in cc)

  pub hears_rest : (used : ℕ) (item : Option Item) → item ≡ None → ((p : KindSet) (front : List ℕ) → StandsIn p f.decoder front → TakesIn p f.decoder.limit front piece new used item)
      → (IsBroken f.decoder → (fed_as used item ≡ failed Broken) × IsBroken new) → (IsDead f.decoder → (fed_as used item ≡ failed Dead) × IsDead new) → Hears piece f fed
  hears_rest used item e takes broken dead limit octets h = record { heeds = h.heeds; limit_is = same ∙ h.limit_is; heard = rest_so limit octets used item e takes broken dead h.heard }

  -- ---- it ends a frame, whose item is heard

  item_so_far : (limit : ℕ) (octets : List ℕ) (used : ℕ) (one : Item) (h : HearsNone limit octets f) → f.decoder.limit ≡ limit → TakesIn Standard f.decoder.limit h.front piece new used (Some one) → ItemsSoFarIn Standard limit (octets ++ take used piece) (h.items ++ one ∷ []) []
  item_so_far limit octets used one h is takes =
      let grow = items_grow limit in
      let at = subst (λ (n : ℕ). TakesIn Standard n h.front piece new used (Some one)) is takes in
      grow.by_a_frame (octets ++ take used piece) h.items (h.front ++ take used piece) one (grow.by_bytes octets h.items h.front (take used piece) h.so_far) at.1 at.2

  one_heard : (limit : ℕ) (octets : List ℕ) (used : ℕ) (one : Item) (status : Option ℕ) (g : FaultFinder) (h : HearsNone limit octets f) → f.decoder.limit ≡ limit → TakesIn Standard f.decoder.limit h.front piece new used (Some one) → g.decoder ≡ new → refused_by one ≡ status → g.refused ≡ refused_by one
      → IsHeard limit (octets ++ take used piece) g
  one_heard limit octets used one None g h is takes decoder by refused = inl (record {
    items = h.items ++ one ∷ [];
    front = [];
    so_far = item_so_far limit octets used one h is takes;
    none = none_more h.items one h.none by;
    left = inl (subst (λ (d : DecoderState). StandsIn Standard d []) (sym decoder) takes.3);
    refused = refused ∙ by;
  })
  one_heard limit octets used one (Some status) g h is takes decoder by refused = inr (inl (record {
    items = h.items;
    last = one;
    front = octets ++ take used piece;
    later = [];
    status = status;
    parts = sym (append-nil (octets ++ take used piece));
    so_far = item_so_far limit octets used one h is takes;
    none = h.none;
    refuses = by;
    refused = refused ∙ by;
  }))

  item_by : (limit : ℕ) (octets : List ℕ) (used : ℕ) (item : Option Item) (one : Item) (g : FaultFinder) (h : HearsNone limit octets f) → f.decoder.limit ≡ limit → item ≡ Some one → ((p : KindSet) (front : List ℕ) → StandsIn p f.decoder front → TakesIn p f.decoder.limit front piece new used item)
      → (IsBroken f.decoder → (fed_as used item ≡ failed Broken) × IsBroken new) → g.decoder ≡ new → g.refused ≡ refused_by one → StandsIn Standard f.decoder h.front ⊎ (IsBroken f.decoder × Breaks h.front) → IsHeard limit (octets ++ take used piece) g
  item_by limit octets used item one g h is e takes broken decoder refused (inl s) =
      one_heard limit octets used one (refused_by one) g h is (subst (λ (o : Option Item). TakesIn Standard f.decoder.limit h.front piece new used o) e (takes Standard h.front s)) decoder refl refused
  item_by limit octets used item one g h is e takes broken decoder refused (inr b) = absurd (let z = (broken b.0).0 in cc)

  item_so : (limit : ℕ) (octets : List ℕ) (used : ℕ) (item : Option Item) (one : Item) (g : FaultFinder) → f.decoder.limit ≡ limit → is_none f.refused ≡ true → item ≡ Some one → ((p : KindSet) (front : List ℕ) → StandsIn p f.decoder front → TakesIn p f.decoder.limit front piece new used item)
      → (IsBroken f.decoder → (fed_as used item ≡ failed Broken) × IsBroken new) → (IsDead f.decoder → (fed_as used item ≡ failed Dead) × IsDead new) → g.decoder ≡ new → g.refused ≡ refused_by one → IsHeard limit octets f → IsHeard limit (octets ++ take used piece) g
  item_so limit octets used item one g is quiet e takes broken dead decoder refused (inl n) = item_by limit octets used item one g n is e takes broken decoder refused n.left
  item_so limit octets used item one g is quiet e takes broken dead decoder refused (inr (inl r)) = absurd (no_status f.refused r.status quiet r.refused)
  item_so limit octets used item one g is quiet e takes broken dead decoder refused (inr (inr d)) = absurd (let z = (dead d.dead).0 in cc)

  pub hears_item : (used : ℕ) (item : Option Item) (one : Item) (g : FaultFinder) → (f.heeds_access ≡ true → is_none f.refused ≡ true) → item ≡ Some one → ((p : KindSet) (front : List ℕ) → StandsIn p f.decoder front → TakesIn p f.decoder.limit front piece new used item)
      → (IsBroken f.decoder → (fed_as used item ≡ failed Broken) × IsBroken new) → (IsDead f.decoder → (fed_as used item ≡ failed Dead) × IsDead new) → g.decoder ≡ new → g.heeds_access ≡ f.heeds_access
      → (f.heeds_access ≡ true → f.refused ≡ None → g.refused ≡ refused_by one) → Hears (take used piece) f g
  hears_item used item one g quiet e takes broken dead decoder heeds refused limit octets h = record {
    heeds = heeds ∙ h.heeds;
    limit_is = ap (λ (d : DecoderState). d.limit) decoder ∙ same ∙ h.limit_is;
    heard = item_so limit octets used item one g h.limit_is (quiet h.heeds) e takes broken dead decoder (refused h.heeds (none_of f.refused (quiet h.heeds))) h.heard;
  }
