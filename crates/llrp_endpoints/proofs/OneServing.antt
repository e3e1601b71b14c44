-- Bytes are served in one way.
use Rattle.std.proofs.Common.{◌≡◌, ℕ, ◌≤◌, true, false, List, [], ◌∷◌, ◌++◌, length, refl, sym, ap, subst, ◌∙◌, append_assoc, arith, inl, inr, ◌⊎◌}
use Rattle.std.specs.List.{AllByRecursion, AllZip}
use Rattle.std.proofs.lemmas.List.Concat.{flat_map-append}
use denote.Enum.Bare.{sameb, same_true, true_same}
use Rattle.llrp_schema.specs.declared.kinds.MsgKind.{MsgKind}
use Rattle.llrp_schema.specs.declared.kinds.MsgKind.TheVariants.{CloseConnection}
use Rattle.llrp_schema.specs.contracts.kinds.MsgKind.{the_type}
use Rattle.llrp_tree.specs.declared.TheConstants.{MAX_LIMIT}
use Rattle.llrp_tree.specs.Tree.{MessageTree}
use Rattle.llrp_tree.specs.Lawful.{AreOctets}
use Rattle.llrp_stream.specs.declared.item.Item.{Item}
use Rattle.llrp_stream.specs.declared.item.Item.TheVariants.{Msg, Bad}
use Rattle.llrp_stream.specs.declared.item.End.{End}
use Rattle.llrp_stream.specs.declared.item.End.TheVariants.{Clean, Rest, Broken, Dead}
use Rattle.llrp_stream.specs.Cuts.{IsFrame, IsPartial, EndsStream, joined}
use Rattle.llrp_stream.specs.Private.Profile.{HasOneListing, IsItemOf, Items}
use Rattle.llrp_stream.proofs.ItemLemmas.{has_one_listing}
use Rattle.llrp_stream.proofs.Unique.{after_front, After}
use Rattle.llrp_session.specs.ReaderMachine.{Reader}
use Rattle.llrp_endpoints.specs.declared.script.Entry.{Entry}
use Rattle.llrp_endpoints.specs.Serving.{Closes, Standing, waiting, closed, ended, early, broken, StandsAt, StaysOpen, HasClosed, Serves, run, said, events, closing_events}
use Rattle.llrp_endpoints.specs.Calls.ServingLaws.{IsServedInOneWay}

abbrev NoneCloses : List Item → Type 0
NoneCloses items = AllByRecursion (λ item. Closes item → ⊥) items

-- ---- the first CLOSE_CONNECTION

is_kind_or_not : (a b : MsgKind) → (a ≡ b) ⊎ (a ≡ b → ⊥)
is_kind_or_not a b =
    elim (sameb the_type a b) as (λ t. sameb the_type a b ≡ t → (a ≡ b) ⊎ (a ≡ b → ⊥)) [
      | true ↦ λ e. inl (same_true the_type tt a b e)
      | false ↦ λ e. inr (λ k. absurd (let both : true ≡ false = sym (true_same the_type a b k) ∙ e in cc))
    ] refl

pub closes_or_not : (item : Item) → Closes item ⊎ (Closes item → ⊥)
closes_or_not (Bad id fault) = inr (λ c. c)
closes_or_not (Msg m) = is_kind_or_not m.kind CloseConnection

-- A first one that closes, and what comes before and after it.
record FirstClosing (items : List Item) : Type 0 where
  before : List Item
  last : Item
  later : List Item
  whole : items ≡ before ++ last ∷ later
  none : NoneCloses before
  closes : Closes last

first_closing : (items : List Item) → NoneCloses items ⊎ FirstClosing items
first_closing [] = inl tt
first_closing (i ∷ items) =
    elim (closes_or_not i) [
      | inl c ↦ inr (record { before = []; last = i; later = items; whole = refl; none = tt; closes = c })
      | inr n ↦ elim (first_closing items) [
        | inl none ↦ inl (n, none)
        | inr f ↦ inr (record { before = i ∷ f.before; last = f.last; later = f.later; whole = ap (λ (xs : List Item). i ∷ xs) f.whole; none = (n, f.none); closes = f.closes })
      ]
    ]

none_and_one : (before : List Item) (last : Item) (later : List Item) → NoneCloses (before ++ last ∷ later) → Closes last → ⊥
none_and_one [] last later none c = none.0 c
none_and_one (i ∷ before) last later none c = none_and_one before last later none.1 c

one_first : (a b : List Item) (x y : Item) (s t : List Item) → a ++ x ∷ s ≡ b ++ y ∷ t → NoneCloses a → NoneCloses b → Closes x → Closes y → (a ≡ b) × (x ≡ y)
one_first [] [] x y s t e p q c d = (refl, cc)
one_first [] (j ∷ b) x y s t e p q c d = absurd (let same : x ≡ j = cc in q.0 (subst Closes same c))
one_first (i ∷ a) [] x y s t e p q c d = absurd (let same : y ≡ i = cc in p.0 (subst Closes same d))
one_first (i ∷ a) (j ∷ b) x y s t e p q c d =
    let heads : i ≡ j = cc in
    let tails : a ++ x ∷ s ≡ b ++ y ∷ t = cc in
    let ih = one_first a b x y s t tails p.1 q.1 c d in
    (ap (λ (k : Item). k ∷ a) heads ∙ ap (λ (xs : List Item). j ∷ xs) ih.0, ih.1)

-- ---- the first frames of a stream

record Front (limit : ℕ) (frames : List (List ℕ)) (xs ys : List Item) : Type 0 where
  first : List (List ℕ)
  second : List (List ℕ)
  whole : frames ≡ first ++ second
  each : AllByRecursion IsFrame first
  are : AllZip (IsItemOf limit) first xs

front_of : (limit : ℕ) (frames : List (List ℕ)) (xs ys : List Item) → AllByRecursion IsFrame frames → AllZip (IsItemOf limit) frames (xs ++ ys) → Front limit frames xs ys
front_of limit frames [] ys each are = record { first = []; second = frames; whole = refl; each = tt; are = tt }
front_of limit [] (x ∷ xs) ys each are = absurd are
front_of limit (f ∷ frames) (x ∷ xs) ys each are =
    let ih = front_of limit frames xs ys each.1 are.1 in
    record { first = f ∷ ih.first; second = ih.second; whole = ap (λ (fs : List (List ℕ)). f ∷ fs) ih.whole; each = (each.0, ih.each); are = (are.0, ih.are) }

-- ---- how the bytes end

-- a stream that ends so, with no CLOSE_CONNECTION in it, leaves serving in this state
abbrev EndsSo : Standing → End → Type 0
EndsSo waiting Clean = Unit {0}
EndsSo waiting (Rest n) = Unit {0}
EndsSo waiting Broken = ⊥
EndsSo waiting Dead = ⊥
EndsSo closed end = ⊥
EndsSo ended end = end ≡ Clean
EndsSo early end = (n : ℕ) × (end ≡ Rest n)
EndsSo broken end = end ≡ Broken

ends_so : (standing : Standing) (rest : List ℕ) → StandsAt standing rest → (end : End) × EndsStream rest end × EndsSo standing end
ends_so waiting [] h = (Clean, refl, tt)
ends_so waiting (b ∷ bytes) h = (Rest (length (b ∷ bytes)), (refl, omega arith, h), tt)
ends_so closed rest h = absurd h
ends_so ended rest h = (Clean, h, refl)
ends_so early [] h = absurd (h.1 refl)
ends_so early (b ∷ bytes) h = (Rest (length (b ∷ bytes)), (refl, omega arith, h.0), (length (b ∷ bytes), refl))
ends_so broken rest h = (Broken, h, refl)

-- the state of serving where no more comes
abbrev pub standing_at : End → Standing
standing_at Clean = ended
standing_at (Rest n) = early
standing_at Broken = broken
standing_at Dead = broken

pub not_waiting : (end : End) → standing_at end ≡ waiting → ⊥
not_waiting Clean e = cc
not_waiting (Rest n) e = cc
not_waiting Broken e = cc
not_waiting Dead e = cc

only_so : (standing : Standing) (end : End) → EndsSo standing end → (standing ≡ waiting → ⊥) → standing ≡ standing_at end
only_so waiting end h w = absurd (w refl)
only_so closed end h w = absurd h
only_so ended end h w = ap standing_at (sym h)
only_so early end h w = ap standing_at (sym h.1)
only_so broken end h w = ap standing_at (sym h)

waits_at : (end : End) → EndsSo waiting end → (standing_at end ≡ ended) ⊎ (standing_at end ≡ early)
waits_at Clean h = inl refl
waits_at (Rest n) h = inr refl
waits_at Broken h = absurd h
waits_at Dead h = absurd h

partial_at : (end : End) (rest : List ℕ) → EndsStream rest end → (standing_at end ≡ ended) ⊎ (standing_at end ≡ early) → IsPartial rest
partial_at Clean rest e h = inl (omega (arith, ap length e))
partial_at (Rest n) rest e h = e.2
partial_at Broken rest e (inl h) = absurd cc
partial_at Broken rest e (inr h) = absurd cc
partial_at Dead rest e h = absurd e

pub stands_at : (end : End) (rest : List ℕ) → EndsStream rest end → StandsAt (standing_at end) rest
stands_at Clean rest e = e
stands_at (Rest n) rest e = (e.2, λ none. absurd (omega (arith, ap length none, e.0, e.1)))
stands_at Broken rest e = e
stands_at Dead rest e = absurd e

module _ (reader : Reader) (entries : List Entry) (bytes : List ℕ) (l : HasOneListing reader.limit bytes) where
  -- what all items of the bytes make the reader say
  abbrev all_said : List MessageTree
  all_said = said (run reader (events entries l.items))

  -- ---- where no item closes

  open_is : (messages : List MessageTree) (standing : Standing) → StaysOpen reader entries bytes messages standing → NoneCloses l.items × (messages ≡ all_said) × EndsSo standing l.end
  open_is messages standing h =
      let e = ends_so standing h.rest h.stands in
      let all : Items reader.limit bytes h.items e.0 = record { frames = h.are.frames; cut = record { tail = h.rest; whole = h.are.whole; each = h.are.each; ends = e.1 }; each = h.are.are } in
      let same : h.items ≡ l.items = l.only_items h.items e.0 all in
      let ends : e.0 ≡ l.end = l.only_end h.items e.0 all in
      (subst NoneCloses same h.none_closes, h.messages_are ∙ ap (λ (items : List Item). said (run reader (events entries items))) same, subst (λ (x : End). EndsSo standing x) ends e.2)

  stays : NoneCloses l.items → (standing : Standing) → StandsAt standing l.are.cut.tail → StaysOpen reader entries bytes all_said standing
  stays none standing stands = record {
    items = l.items;
    rest = l.are.cut.tail;
    are = record { frames = l.are.frames; whole = l.are.cut.whole; each = l.are.cut.each; are = l.are.each };
    none_closes = none;
    messages_are = refl;
    stands = stands;
  }

  -- what stays open is served so
  open_serves : (messages : List MessageTree) (end : End) → StaysOpen reader entries bytes messages (standing_at end) → Serves reader entries bytes messages (standing_at end)
  open_serves messages Clean h = h
  open_serves messages (Rest n) h = h
  open_serves messages Broken h = h
  open_serves messages Dead h = h

  -- ---- where an item closes

  closed_is : (messages : List MessageTree) (h : HasClosed reader entries bytes messages) → (later : List Item) × (l.items ≡ h.items ++ h.last ∷ later)
  closed_is messages h =
      let a : After reader.limit h.rest (h.items ++ h.last ∷ []) l.items l.end =
      after_front reader.limit h.are.frames (h.items ++ h.last ∷ []) h.rest l.are.frames l.items l.are.cut.tail l.end h.are.each h.are.are (sym h.are.whole ∙ l.are.cut.whole) l.are.cut.ends l.are.cut.each l.are.each in
      (a.more, a.are ∙ append_assoc h.items (h.last ∷ []) a.more)

  closes_so : (f : FirstClosing l.items) → HasClosed reader entries bytes (said (run reader (closing_events entries f.before f.last)))
  closes_so f =
      let parts : l.items ≡ (f.before ++ f.last ∷ []) ++ f.later = f.whole ∙ sym (append_assoc f.before (f.last ∷ []) f.later) in
      let p = front_of reader.limit l.are.frames (f.before ++ f.last ∷ []) f.later l.are.cut.each (subst (λ (items : List Item). AllZip (IsItemOf reader.limit) l.are.frames items) parts l.are.each) in
      record {
        items = f.before;
        last = f.last;
        rest = joined p.second ++ l.are.cut.tail;
        are = record {
          frames = p.first;
          whole = l.are.cut.whole ∙ ap (λ (frames : List (List ℕ)). joined frames ++ l.are.cut.tail) p.whole ∙ ap (λ (x : List ℕ). x ++ l.are.cut.tail) (flat_map-append (λ (w : List ℕ). w) p.first p.second) ∙ append_assoc (joined p.first) (joined p.second) l.are.cut.tail;
          each = p.each;
          are = p.are;
        };
        none_closes = f.none;
        closes = f.closes;
        messages_are = refl;
      }

  one_closing : (f : FirstClosing l.items) (messages : List MessageTree) → HasClosed reader entries bytes messages → messages ≡ said (run reader (closing_events entries f.before f.last))
  one_closing f messages h =
      let other = closed_is messages h in
      let same = one_first h.items f.before h.last f.last other.0 f.later (sym other.1 ∙ f.whole) h.none_closes f.none h.closes f.closes in
      h.messages_are ∙ ap (λ (items : List Item). said (run reader (closing_events entries items h.last))) same.0 ∙ ap (λ (item : Item). said (run reader (closing_events entries f.before item))) same.1

  -- both can't be
  never_both : (messages : List MessageTree) → NoneCloses l.items → HasClosed reader entries bytes messages → ⊥
  never_both messages none h =
      let other = closed_is messages h in
      none_and_one h.items h.last other.0 (subst NoneCloses other.1 none) h.closes

  never_open : (f : FirstClosing l.items) (messages : List MessageTree) (standing : Standing) → StaysOpen reader entries bytes messages standing → ⊥
  never_open f messages standing h = none_and_one f.before f.last f.later (subst NoneCloses f.whole (open_is messages standing h).0) f.closes

  -- ---- both cases

  served_open : NoneCloses l.items → IsServedInOneWay (Serves reader entries bytes)
  served_open none = record {
    messages = all_said;
    standing = standing_at l.end;
    over = not_waiting l.end;
    serves = open_serves all_said l.end (stays none (standing_at l.end) (stands_at l.end l.are.cut.tail l.are.cut.ends));
    only_messages = only_messages;
    only_standing = only_standing;
    waits = (λ h. waits_at l.end (open_is all_said waiting h).2, λ h. stays none waiting (partial_at l.end l.are.cut.tail l.are.cut.ends h));
  }
    where
      only_messages : (others : List MessageTree) (other : Standing) → Serves reader entries bytes others other → others ≡ all_said
      only_messages others waiting h = (open_is others waiting h).1
      only_messages others closed h = absurd (never_both others none h)
      only_messages others ended h = (open_is others ended h).1
      only_messages others early h = (open_is others early h).1
      only_messages others broken h = (open_is others broken h).1

      only_standing : (others : List MessageTree) (other : Standing) → Serves reader entries bytes others other → (other ≡ waiting → ⊥) → other ≡ standing_at l.end
      only_standing others waiting h w = absurd (w refl)
      only_standing others closed h w = absurd (never_both others none h)
      only_standing others ended h w = only_so ended l.end (open_is others ended h).2 w
      only_standing others early h w = only_so early l.end (open_is others early h).2 w
      only_standing others broken h w = only_so broken l.end (open_is others broken h).2 w

  served_closed : FirstClosing l.items → IsServedInOneWay (Serves reader entries bytes)
  served_closed f = record {
    messages = said (run reader (closing_events entries f.before f.last));
    standing = closed;
    over = λ (e : closed ≡ waiting). cc;
    serves = closes_so f;
    only_messages = only_messages;
    only_standing = only_standing;
    waits = (λ h. absurd (never_open f _ waiting h), not_open);
  }
    where
      only_messages : (others : List MessageTree) (other : Standing) → Serves reader entries bytes others other → others ≡ said (run reader (closing_events entries f.before f.last))
      only_messages others waiting h = absurd (never_open f others waiting h)
      only_messages others closed h = one_closing f others h
      only_messages others ended h = absurd (never_open f others ended h)
      only_messages others early h = absurd (never_open f others early h)
      only_messages others broken h = absurd (never_open f others broken h)

      only_standing : (others : List MessageTree) (other : Standing) → Serves reader entries bytes others other → (other ≡ waiting → ⊥) → other ≡ closed
      only_standing others waiting h w = absurd (w refl)
      only_standing others closed h w = refl
      only_standing others ended h w = absurd (never_open f others ended h)
      only_standing others early h w = absurd (never_open f others early h)
      only_standing others broken h w = absurd (never_open f others broken h)

      not_open : (closed ≡ ended) ⊎ (closed ≡ early) → StaysOpen reader entries bytes (said (run reader (closing_events entries f.before f.last))) waiting
      not_open (inl e) = absurd cc
      not_open (inr e) = absurd cc

pub served_in_one_way : (reader : Reader) (entries : List Entry) (bytes : List ℕ) → reader.limit ≤ MAX_LIMIT → AreOctets bytes → IsServedInOneWay (Serves reader entries bytes)
served_in_one_way reader entries bytes most octets =
    let l = has_one_listing reader.limit bytes most octets in
    elim (first_closing l.items) [ inl none ↦ served_open reader entries bytes l none | inr f ↦ served_closed reader entries bytes l f ]
