-- A front of a row of frames: the first of them are whole in it, and it ends between two of them or within one.
use Rattle.std.proofs.Common.{◌≡◌, ℕ, suc, ◌<◌, ◌≤◌, inl, inr, List, [], ◌∷◌, ◌++◌, length, take, drop, refl, sym, ap, subst, ◌∙◌, arith, append_assoc}
use Rattle.llrp_schema.specs.declared.kinds.KindSet.{KindSet}
use Rattle.std.specs.List.{AllByRecursion, AllZip}
use Rattle.std.proofs.lemmas.List.{take_at, drop_at, length-append, append-nil, take-append-drop, length-take-le}
use Rattle.llrp_stream.specs.declared.item.Item.{Item}
use Rattle.llrp_stream.specs.declared.item.End.{End}
use Rattle.llrp_stream.specs.declared.item.End.TheVariants.{Clean, Rest}
use Rattle.llrp_stream.specs.Cuts.{IsFrame, IsPartial, EndsStream, joined}
use Rattle.llrp_stream.specs.Items.{IsItemIn, ItemsIn}
use Rattle.llrp_stream.specs.Calls.StreamLaws.{EndsWithin, IsFront}
use Rattle.llrp_stream.proofs.FrontLemmas.{length_field-append}
use Rattle.llrp_stream.proofs.ItemLemmas.{below_or_not}

pub record Cut (a b x y : List ℕ) : Type 0 where
  pub middle : List ℕ
  pub first : a ≡ x ++ middle
  pub second : y ≡ middle ++ b

-- of two lists that are one, the longer begins with the shorter
pub cut : (a b x y : List ℕ) → a ++ b ≡ x ++ y → length x ≤ length a → Cut a b x y
cut a b x y e le =
    let t : List ℕ = take (length x) a in
    let d : List ℕ = drop (length x) a in
    let long : length t ≡ length x = length-take-le (length x) a le in
    let parts : a ≡ t ++ d = sym (take-append-drop (length x) a) in
    let whole : t ++ (d ++ b) ≡ x ++ y = sym (append_assoc t d b) ∙ ap (λ (z : List ℕ). z ++ b) (sym parts) ∙ e in
    let same : t ≡ x = sym (take_at t (d ++ b) (length x) long) ∙ ap (take (length x)) whole ∙ take_at x y (length x) refl in
    let back : y ≡ d ++ b = sym (drop_at x y (length x) refl) ∙ ap (drop (length x)) (sym whole) ∙ drop_at t (d ++ b) (length x) long in
    record { middle = d; first = parts ∙ ap (λ (z : List ℕ). z ++ d) same; second = back }

-- a front of a frame that is shorter
pub partial : (front more : List ℕ) → IsFrame (front ++ more) → length front < length (front ++ more) → IsPartial front
partial front more is lt = elim (below_or_not (length front) 6) [
  | inl short ↦ inl short
  | inr six ↦ let same = length_field-append front more six in inr (omega (arith, same, is.header, is.whole), omega (arith, same, is.whole, lt))
]

-- how bytes that are less than a frame end the stream
abbrev pub end_of : List ℕ → End
end_of [] = Clean
end_of (b ∷ bytes) = Rest (suc (length bytes))

pub ends : (front : List ℕ) → IsPartial front → EndsStream front (end_of front)
ends [] p = refl
ends (b ∷ bytes) p = (refl, omega arith, p)

-- nothing is whole where the front is shorter than the first frame
none_whole : (p : KindSet) (limit : ℕ) (item : Item) (items : List Item) (front more : List ℕ) → IsFrame (front ++ more) → IsItemIn p limit (front ++ more) item → length front < length (front ++ more) → IsFront p limit (item ∷ items) front
none_whole p limit item items front more is of lt = record {
  first = [];
  next = item ∷ items;
  parts = refl;
  end = end_of front;
  are = record { frames = []; cut = record { tail = front; whole = refl; each = tt; ends = ends front (partial front more is lt) }; each = tt };
  within = within front is of lt;
}
  where
    within : (front : List ℕ) → IsFrame (front ++ more) → IsItemIn p limit (front ++ more) item → length front < length (front ++ more) → EndsWithin p limit (item ∷ items) front (end_of front)
    within [] is of lt = refl
    within (b ∷ bytes) is of lt = (more, omega (arith, lt, length-append (b ∷ bytes) more), is, of)

-- one more frame is whole
one_more : (p : KindSet) (limit : ℕ) (item : Item) (items : List Item) (frame front middle : List ℕ) → IsFrame frame → IsItemIn p limit frame item → front ≡ frame ++ middle → IsFront p limit items middle → IsFront p limit (item ∷ items) front
one_more p limit item items frame front middle is of e more = record {
  first = item ∷ more.first;
  next = more.next;
  parts = ap (λ (xs : List Item). item ∷ xs) more.parts;
  end = more.end;
  are = record {
    frames = frame ∷ more.are.frames;
    cut = record {
      tail = more.are.cut.tail;
      whole = e ∙ ap (λ (z : List ℕ). frame ++ z) more.are.cut.whole ∙ sym (append_assoc frame (joined more.are.frames) more.are.cut.tail);
      each = (is, more.are.cut.each);
      ends = more.are.cut.ends;
    };
    each = (of, more.are.each);
  };
  within = more.within;
}

front_of : (p : KindSet) (limit : ℕ) (items : List Item) (frames : List (List ℕ)) (front back : List ℕ) → AllByRecursion IsFrame frames → AllZip (IsItemIn p limit) frames items → front ++ back ≡ joined frames → IsFront p limit items front
front_of p limit [] [] [] back is are e = record { first = []; next = []; parts = refl; end = Clean; are = record { frames = []; cut = record { tail = []; whole = refl; each = tt; ends = refl }; each = tt }; within = refl }
front_of p limit [] [] (b ∷ front) back is are e = absurd (omega (arith, ap length e))
front_of p limit (item ∷ items) [] front back is are e = absurd are
front_of p limit [] (f ∷ frames) front back is are e = absurd are
front_of p limit (item ∷ items) (f ∷ frames) front back is are e = elim (below_or_not (length front) (length f)) [
  | inl shorter ↦
      let c = cut f (joined frames) front back (sym e) (omega (arith, shorter)) in
      none_whole p limit item items front c.middle (subst IsFrame c.first is.0) (subst (λ (x : List ℕ). IsItemIn p limit x item) c.first are.0) (omega (arith, shorter, ap length c.first))
  | inr le ↦
      let c = cut front back f (joined frames) e le in
      one_more p limit item items f front c.middle is.0 are.0 c.first (front_of p limit items frames c.middle back is.1 are.1 (sym c.second))
]

pub prefix_of_frames : (p : KindSet) (limit : ℕ) (items : List Item) (front back : List ℕ) → ItemsIn p limit (front ++ back) items Clean → IsFront p limit items front
prefix_of_frames p limit items front back all =
    let whole : front ++ back ≡ joined all.frames = all.cut.whole ∙ ap (λ (x : List ℕ). joined all.frames ++ x) all.cut.ends ∙ append-nil (joined all.frames) in
    front_of p limit items all.frames front back all.cut.each all.each whole
