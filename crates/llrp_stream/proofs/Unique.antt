-- A stream has one list of items, and one end.
use Rattle.std.proofs.Common.{◌≡◌, ℕ, List, [], ◌∷◌, ◌++◌, length, take, drop, refl, sym, ap, subst, ◌∙◌, arith, inl, inr, append_assoc}
use Rattle.llrp_schema.specs.declared.kinds.KindSet.{KindSet}
use Rattle.std.specs.List.{AllByRecursion, AllZip}
use Rattle.std.proofs.lemmas.List.{take_at, drop_at, length-append, append-nil}
use Rattle.llrp_tree.specs.declared.fault.Fault.{Fault}
use Rattle.llrp_tree.specs.declared.fault.Reason.{Reason}
use Rattle.llrp_tree.specs.Frame.{Frame}
use Rattle.llrp_schema.specs.declared.kinds.KindSet.TheVariants.{Profile}
use Rattle.llrp_tree.proofs.Frames.{no_prefix, one_fault, not_both}
use Rattle.llrp_stream.specs.declared.item.Item.{Item}
use Rattle.llrp_stream.specs.declared.item.Item.TheVariants.{Msg, Bad}
use Rattle.llrp_stream.specs.declared.item.End.{End}
use Rattle.llrp_stream.specs.declared.item.End.TheVariants.{Clean, Rest, Broken, Dead}
use Rattle.llrp_stream.specs.Cuts.{length_field, IsFrame, EndsStream, joined}
use Rattle.llrp_stream.specs.Items.{IsItemIn, ItemsIn}
use Rattle.llrp_stream.specs.Calls.StreamLaws.{IsCutInOneWay}
use Rattle.llrp_stream.proofs.FrontLemmas.{length_field-append}

-- a frame has one item
pub same_item : (p : KindSet) (limit : ℕ) (frame : List ℕ) (item other : Item) → IsItemIn p limit frame item → IsItemIn p limit frame other → item ≡ other
same_item set limit frame (Msg m) (Msg k) p q = ap Msg (no_prefix limit frame [] m k (p.own ∙ sym q.own) p.frame (subst (λ (x : List ℕ). Frame k x limit) (sym (append-nil frame)) q.frame)).0
same_item set limit frame (Msg m) (Bad id fault) p q = absurd (not_both set limit frame m fault.bit fault.reason p.own p.frame q.1)
same_item set limit frame (Bad id fault) (Msg k) p q = absurd (not_both set limit frame k fault.bit fault.reason q.own q.frame p.1)
same_item set limit frame (Bad id fault) (Bad number other) p q =
    let same = one_fault set limit frame fault.bit other.bit fault.reason other.reason p.1 q.1 in
    let faults : fault ≡ other = ap (λ (b : ℕ). let f : Fault = record { bit = b; reason = fault.reason } in f) same.0 ∙ ap (λ (r : Reason). let f : Fault = record { bit = other.bit; reason = r } in f) same.1 in
    ap (λ (n : ℕ). Bad n fault) (p.0 ∙ sym q.0) ∙ ap (λ (f : Fault). Bad number f) faults

-- where a frame begins, no stream ends
no_end : (frame more : List ℕ) (end : End) → IsFrame frame → EndsStream (frame ++ more) end → ⊥
no_end frame more Clean is e = absurd (omega (arith, is.header, ap length e, length-append frame more))
no_end frame more (Rest n) is e =
    let same : length_field (frame ++ more) ≡ length frame = length_field-append frame more (omega (arith, is.header)) ∙ is.whole in
    elim e.2 [ inl short ↦ absurd (omega (arith, is.header, length-append frame more)) | inr part ↦ absurd (omega (arith, part.1, same, length-append frame more)) ]
no_end frame more Broken is e =
    let same : length_field (frame ++ more) ≡ length frame = length_field-append frame more (omega (arith, is.header)) ∙ is.whole in
    absurd (omega (arith, is.header, e.1, same))
no_end frame more Dead is e = e

same_end : (rest : List ℕ) (a b : End) → EndsStream rest a → EndsStream rest b → a ≡ b
same_end rest Clean Clean p q = refl
same_end rest Clean (Rest n) p q = absurd (omega (arith, ap length p, q.0, q.1))
same_end rest Clean Broken p q = absurd (omega (arith, ap length p, q.0))
same_end rest Clean Dead p q = absurd q
same_end rest (Rest m) Clean p q = absurd (omega (arith, ap length q, p.0, p.1))
same_end rest (Rest m) (Rest n) p q = ap Rest (p.0 ∙ sym q.0)
same_end rest (Rest m) Broken p q = elim p.2 [ inl short ↦ absurd (omega (arith, short, q.0)) | inr part ↦ absurd (omega (arith, part.0, q.1)) ]
same_end rest (Rest m) Dead p q = absurd q
same_end rest Broken Clean p q = absurd (omega (arith, ap length q, p.0))
same_end rest Broken (Rest n) p q = elim q.2 [ inl short ↦ absurd (omega (arith, short, p.0)) | inr part ↦ absurd (omega (arith, part.0, p.1)) ]
same_end rest Broken Broken p q = refl
same_end rest Broken Dead p q = absurd q
same_end rest Dead b p q = absurd p

-- two streams that are one have one first frame
same_front : (f g s t : List ℕ) → IsFrame f → IsFrame g → f ++ s ≡ g ++ t → (f ≡ g) × (s ≡ t)
same_front f g s t p q e =
    let a : length_field (f ++ s) ≡ length f = length_field-append f s (omega (arith, p.header)) ∙ p.whole in
    let b : length_field (g ++ t) ≡ length g = length_field-append g t (omega (arith, q.header)) ∙ q.whole in
    let len : length g ≡ length f = sym b ∙ ap length_field (sym e) ∙ a in
    let fronts : f ≡ g = sym (take_at f s (length f) refl) ∙ ap (take (length f)) e ∙ take_at g t (length f) len in
    let backs : s ≡ t = sym (drop_at f s (length f) refl) ∙ ap (drop (length f)) e ∙ drop_at g t (length f) len in
    (fronts, backs)

cut_once : (frames others : List (List ℕ)) (rest tail : List ℕ) (end last : End) → AllByRecursion IsFrame frames → AllByRecursion IsFrame others → joined frames ++ rest ≡ joined others ++ tail → EndsStream rest end → EndsStream tail last → (frames ≡ others) × (end ≡ last)
cut_once [] [] rest tail end last p q e a b = (refl, same_end tail end last (subst (λ (t : List ℕ). EndsStream t end) e a) b)
cut_once [] (g ∷ others) rest tail end last p q e a b =
    let whole : rest ≡ g ++ (joined others ++ tail) = e ∙ append_assoc g (joined others) tail in
    absurd (no_end g (joined others ++ tail) end q.0 (subst (λ (t : List ℕ). EndsStream t end) whole a))
cut_once (f ∷ frames) [] rest tail end last p q e a b =
    let whole : tail ≡ f ++ (joined frames ++ rest) = sym e ∙ append_assoc f (joined frames) rest in
    absurd (no_end f (joined frames ++ rest) last p.0 (subst (λ (t : List ℕ). EndsStream t last) whole b))
cut_once (f ∷ frames) (g ∷ others) rest tail end last p q e a b =
    let whole : f ++ (joined frames ++ rest) ≡ g ++ (joined others ++ tail) = sym (append_assoc f (joined frames) rest) ∙ e ∙ append_assoc g (joined others) tail in
    let same = same_front f g (joined frames ++ rest) (joined others ++ tail) p.0 q.0 whole in
    let ih = cut_once frames others rest tail end last p.1 q.1 same.1 a b in
    (ap (λ (x : List ℕ). x ∷ frames) same.0 ∙ ap (λ (xs : List (List ℕ)). g ∷ xs) ih.0, ih.1)

pub one_cut : (stream : List ℕ) → IsCutInOneWay stream
one_cut stream frames others end last p q = cut_once frames others p.tail q.tail end last p.each q.each (sym p.whole ∙ q.whole) p.ends q.ends

-- what another reading of the same stream has after the frames that were read
pub record AfterIn (p : KindSet) (limit : ℕ) (rest : List ℕ) (items others : List Item) (end : End) : Type 0 where
  pub more : List Item
  pub are : others ≡ items ++ more
  pub next : ItemsIn p limit rest more end

-- the same of the profile
abbrev pub After : (limit : ℕ) → (rest : List ℕ) → (items others : List Item) → End → Type 0
After limit rest items others end = AfterIn Profile limit rest items others end

pub after_front_in : (p : KindSet) (limit : ℕ) (frames : List (List ℕ)) (items : List Item) (rest : List ℕ) (gs : List (List ℕ)) (others : List Item) (tail : List ℕ) (end : End)
    → AllByRecursion IsFrame frames → AllZip (IsItemIn p limit) frames items → joined frames ++ rest ≡ joined gs ++ tail → EndsStream tail end → AllByRecursion IsFrame gs → AllZip (IsItemIn p limit) gs others
    → AfterIn p limit rest items others end
after_front_in p limit [] [] rest gs others tail end each are e ends isg areg = record { more = others; are = refl; next = record { frames = gs; cut = record { tail = tail; whole = e; each = isg; ends = ends }; each = areg } }
after_front_in p limit [] (i ∷ items) rest gs others tail end each are e ends isg areg = absurd are
after_front_in p limit (f ∷ frames) [] rest gs others tail end each are e ends isg areg = absurd are
after_front_in p limit (f ∷ frames) (i ∷ items) rest [] others tail end each are e ends isg areg =
    let whole : f ++ (joined frames ++ rest) ≡ tail = sym (append_assoc f (joined frames) rest) ∙ e in
    absurd (no_end f (joined frames ++ rest) end each.0 (subst (λ (t : List ℕ). EndsStream t end) (sym whole) ends))
after_front_in p limit (f ∷ frames) (i ∷ items) rest (g ∷ gs) [] tail end each are e ends isg areg = absurd areg
after_front_in p limit (f ∷ frames) (i ∷ items) rest (g ∷ gs) (o ∷ others) tail end each are e ends isg areg =
    let whole : f ++ (joined frames ++ rest) ≡ g ++ (joined gs ++ tail) = sym (append_assoc f (joined frames) rest) ∙ e ∙ append_assoc g (joined gs) tail in
    let same = same_front f g (joined frames ++ rest) (joined gs ++ tail) each.0 isg.0 whole in
    let item : i ≡ o = same_item p limit f i o are.0 (subst (λ (x : List ℕ). IsItemIn p limit x o) (sym same.0) areg.0) in
    let ih = after_front_in p limit frames items rest gs others tail end each.1 are.1 same.1 ends isg.1 areg.1 in
    record { more = ih.more; are = ap (λ (x : Item). x ∷ others) (sym item) ∙ ap (λ (xs : List Item). i ∷ xs) ih.are; next = ih.next }

pub after_front : (limit : ℕ) (frames : List (List ℕ)) (items : List Item) (rest : List ℕ) (gs : List (List ℕ)) (others : List Item) (tail : List ℕ) (end : End)
    → AllByRecursion IsFrame frames → AllZip (IsItemIn Profile limit) frames items → joined frames ++ rest ≡ joined gs ++ tail → EndsStream tail end → AllByRecursion IsFrame gs → AllZip (IsItemIn Profile limit) gs others
    → After limit rest items others end
after_front = after_front_in Profile

none_of : (p : KindSet) (limit : ℕ) (rest : List ℕ) (more : List Item) (a b : End) (frames : List (List ℕ)) (tail : List ℕ) → rest ≡ joined frames ++ tail → AllByRecursion IsFrame frames → EndsStream tail a → AllZip (IsItemIn p limit) frames more → EndsStream rest b → (more ≡ []) × (a ≡ b)
none_of p limit rest [] a b [] tail e each ends are end = (refl, same_end tail a b ends (subst (λ (t : List ℕ). EndsStream t b) e end))
none_of p limit rest (i ∷ more) a b [] tail e each ends are end = absurd are
none_of p limit rest [] a b (f ∷ frames) tail e each ends are end = absurd are
none_of p limit rest (i ∷ more) a b (f ∷ frames) tail e each ends are end =
    let whole : rest ≡ f ++ (joined frames ++ tail) = e ∙ append_assoc f (joined frames) tail in
    absurd (no_end f (joined frames ++ tail) b each.0 (subst (λ (t : List ℕ). EndsStream t b) whole end))

-- nothing more is read where the stream ends
pub none_left : {p : KindSet} (limit : ℕ) (rest : List ℕ) (more : List Item) (a b : End) → ItemsIn p limit rest more a → EndsStream rest b → (more ≡ []) × (a ≡ b)
none_left limit rest more a b items ends = none_of _ limit rest more a b items.frames items.cut.tail items.cut.whole items.cut.each items.cut.ends items.each ends

-- two lists of items of one stream are one
pub same_items : {p : KindSet} (limit : ℕ) (stream : List ℕ) (items others : List Item) (end last : End) → ItemsIn p limit stream items end → ItemsIn p limit stream others last → (others ≡ items) × (last ≡ end)
same_items limit stream items others end last p q =
    let a = after_front_in _ limit p.frames items p.cut.tail q.frames others q.cut.tail last p.cut.each p.each (sym p.cut.whole ∙ q.cut.whole) q.cut.ends q.cut.each q.each in
    let none = none_left limit p.cut.tail a.more last end a.next p.cut.ends in
    (a.are ∙ ap (λ (x : List Item). items ++ x) none.0 ∙ append-nil items, none.1)
