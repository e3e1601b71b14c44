-- A text has one listing or one first refusal.
use Rattle.std.proofs.Common.{◌≡◌, ℕ, zero, suc, ◌-◌, ◌<◌, ◌≤◌, ◌⊎◌, inl, inr, List, [], ◌∷◌, ◌++◌, length, Option, Some, None, refl, sym, ap, subst, ◌∙◌, arith}
use Rattle.std.specs.List.{AllZip}
use Rattle.std.proofs.lemmas.List.{append-nil}
use Rattle.std.proofs.lemmas.Bool.{cases_order}
use Rattle.llrp_listing.specs.OpenText.{Outline, end, node, nodes, OpenLine, OpenText, lines_covered}
use Rattle.llrp_listing.specs.FirstRefusal.{Rules, AllClose, Sound, RefusesLine, RefusesClosing, Opens, Refused}
use Rattle.llrp_listing.specs.Private.FirstRefusal.{AreClear}
use Rattle.llrp_listing.specs.Calls.FirstRefusal.{Lists, HasOneAnswer}
use Rattle.llrp_listing.specs.Private.OpenTextSteps.{join, text_of, add_to, close_in, close, pop, depth, cut, put}
use Rattle.llrp_listing.proofs.Growing.{run, empty, run_append, Fits, fits_middle, cut_cut, made, last_open}

module _ {H R : Type 0} (closing : H → Outline H → Option R) where
  pub close_parts : (f g : Outline H) → AllClose closing (join f g) → AllClose closing f × AllClose closing g
  close_parts end g c = (tt, c)
  close_parts (node h below after) g c = let p = close_parts after g c.2 in ((c.0, c.1, p.0), p.1)

  add_back : (f whole : Outline H) (chain : List (OpenLine H)) → Sound closing (add_to f whole chain) → AllClose closing f × Sound closing (text_of whole chain)
  add_back f whole [] s = let p = close_parts whole f s.0 in (p.1, (p.0, tt))
  add_back f whole (b ∷ outer) s = let p = close_parts b.below f s.1.0 in (p.1, (s.0, (p.0, s.1.1)))

  pub close_back : (whole : Outline H) (b : OpenLine H) (outer : List (OpenLine H)) → Sound closing (close_in whole (b ∷ outer)) → (closing b.head b.below ≡ None) × Sound closing (text_of whole (b ∷ outer))
  close_back whole b outer s = let p = add_back (node b.head b.below end) whole outer s in (p.0.0, (p.1.0, (p.0.1, p.1.1)))

  pub any_close_back : (o : OpenText H) → Sound closing (close o) → Sound closing o
  any_close_back o s = on o.whole o.chain s
    where
      on : (whole : Outline H) (chain : List (OpenLine H)) → Sound closing (close_in whole chain) → Sound closing (text_of whole chain)
      on whole [] s = s
      on whole (b ∷ outer) s = (close_back whole b outer s).1

  pub pop_back : (n : ℕ) (o : OpenText H) → Sound closing (pop n o) → Sound closing o
  pop_back zero o s = s
  pop_back (suc n) o s = any_close_back o (pop_back n (close o) s)

  pub put_back : (o : OpenText H) (e : ℕ × H) → Sound closing (put o e) → Sound closing (cut e.0 o)
  put_back o e s = (s.0, s.1.1)

  pub run_back : (o : OpenText H) (es : List (ℕ × H)) → Sound closing (run o es) → Sound closing o
  run_back o [] s = s
  run_back o (e ∷ es) s = pop_back (depth o - e.0) o (put_back o e (run_back (put o e) es s))

  -- where closings were made, the first of them could be
  pub closed_first : (d : ℕ) (whole : Outline H) (b : OpenLine H) (outer : List (OpenLine H)) → d ≤ length outer → Sound closing (cut d (text_of whole (b ∷ outer))) → closing b.head b.below ≡ None
  closed_first d whole b outer le s =
      let n : suc (length outer) - d ≡ suc (length outer - d) = omega arith in
      let t : Sound closing (pop (suc (length outer - d)) (text_of whole (b ∷ outer))) = subst (λ (k : ℕ). Sound closing (pop k (text_of whole (b ∷ outer)))) n s in
      (close_back whole b outer (pop_back (length outer - d) (close_in whole (b ∷ outer)) t)).0

-- one of two fronts of a text begins the other
abbrev pub Longer : {X : Type 0} → (a r b s : List X) → Type 0
Longer {X} a r b s = (m : List X) × (b ≡ a ++ m) × (r ≡ m ++ s)

pub fronts : {X : Type 0} (a r b s : List X) → a ++ r ≡ b ++ s → Longer a r b s ⊎ Longer b s a r
fronts [] r b s e = inl (b, refl, e)
fronts (x ∷ a) r [] s e = inr (x ∷ a, refl, sym e)
fronts (x ∷ a) r (y ∷ b) s e =
    let h : x ≡ y = cc in
    let t : a ++ r ≡ b ++ s = cc in
    elim (fronts a r b s t) [
      | inl l ↦ inl (l.0, rw h (ap (λ (z : List _). y ∷ z) l.1), l.2)
      | inr l ↦ inr (l.0, rw h (ap (λ (z : List _). y ∷ z) l.1), l.2)
    ]

module _ {H X R : Type 0} (rules : Rules H X R) (clear : AreClear rules) where
  -- the entries of a front begin those of a longer one
  record Parts (front : List X) (m : List X) (es fs : List (ℕ × H)) : Type 0 where
    more : List (ℕ × H)
    are : fs ≡ es ++ more
    says : AllZip rules.Says m more

  parts : (front m : List X) (es fs : List (ℕ × H)) → AllZip rules.Says front es → AllZip rules.Says (front ++ m) fs → Parts front m es fs
  parts [] m [] fs p q = record { more = fs; are = refl; says = q }
  parts [] m (e ∷ es) fs p q = absurd p
  parts (x ∷ front) m [] fs p q = absurd p
  parts (x ∷ front) m (e ∷ es) [] p q = absurd q
  parts (x ∷ front) m (e ∷ es) (f ∷ fs) p q =
      let h : e ≡ f = clear.one_said x e f p.0 q.0 in
      let t = parts front m es fs p.1 q.1 in
      record { more = t.more; are = rw h (ap (λ (z : List (ℕ × H)). f ∷ z) t.are); says = t.says }

  -- how reading stops
  abbrev Stops : OpenText H → List X → Option (ℕ × R) → Type 0
  Stops o rest None = (o.chain ≡ []) × (rest ≡ [])
  Stops o rest (Some a) = RefusesLine rules o rest a.0 a.1 ⊎ RefusesClosing rules o.whole o.chain rest a.0 a.1

  -- nothing that could be closed comes next
  next_line : (o : OpenText H) (x : X) (e : ℕ × H) (more : List X) (n : ℕ) (a : R) → RefusesLine rules o (x ∷ more) n a → rules.Says x e → e.0 ≤ depth (run empty (lines_covered o)) → ⊥
  next_line o x e more n a r says le =
      let s : run empty (lines_covered o) ≡ o = last_open o r.0 in
      let le2 : e.0 ≤ depth o = subst (λ (u : OpenText H). e.0 ≤ depth u) s le in
      clear.not_both (depth o) x e a says le2 r.1

  next_closing : (whole : Outline H) (chain : List (OpenLine H)) (x : X) (e : ℕ × H) (more : List X) (n : ℕ) (a : R) → RefusesClosing rules whole chain (x ∷ more) n a → rules.Says x e → Sound rules.closing (put (run empty (lines_covered (text_of whole chain))) e) → ⊥
  next_closing whole [] x e more n a r says sound = r
  next_closing whole (b ∷ outer) x e more n a r says sound =
      let o = text_of whole (b ∷ outer) in
      let same : r.0.0 ≡ e = clear.one_said x r.0.0 e r.0.1 says in
      let le : e.0 ≤ length outer = subst (λ (f : ℕ × H). f.0 ≤ length outer) same r.0.2 in
      let m = made o in
      let s = run empty (lines_covered o) in
      let cuts : cut e.0 s ≡ cut e.0 o = sym (cut_cut e.0 (depth o) s (omega arith) m.deep) ∙ ap (cut e.0) m.is in
      let sc : Sound rules.closing (cut e.0 o) = subst (Sound rules.closing) cuts (put_back rules.closing s e sound) in
      let none : rules.closing b.head b.below ≡ None = closed_first rules.closing e.0 whole b outer le sc in
      let some : rules.closing b.head b.below ≡ Some a = r.1 in
      cc

  stops_next : (o : OpenText H) (x : X) (e : ℕ × H) (more : List X) (a : Option (ℕ × R)) → Stops o (x ∷ more) a → rules.Says x e → e.0 ≤ depth (run empty (lines_covered o)) → Sound rules.closing (put (run empty (lines_covered o)) e) → ⊥
  stops_next o x e more None s says le sound = let none : x ∷ more ≡ [] = s.1 in cc
  stops_next o x e more (Some a) s says le sound = elim s [
    | inl r ↦ next_line o x e more a.0 a.1 r says le
    | inr r ↦ next_closing o.whole o.chain x e more a.0 a.1 r says sound
  ]

  -- nor does a reading that stops earlier
  not_later : (text : List X) (o u : OpenText H) (r s : List X) (a : Option (ℕ × R)) → (p : Opens rules text o r) → (q : Opens rules text u s) → Stops o r a → (x : X) (m : List X) → q.front ≡ p.front ++ (x ∷ m) → r ≡ (x ∷ m) ++ s → ⊥
  not_later text o u r s a p q stops x m longer rest =
      let says : AllZip rules.Says (p.front ++ (x ∷ m)) (lines_covered u) = subst (λ (z : List X). AllZip rules.Says z (lines_covered u)) longer q.says in
      let t = parts p.front (x ∷ m) (lines_covered o) (lines_covered u) p.says says in
      on t.more t.are t.says
    where
      on : (more : List (ℕ × H)) → lines_covered u ≡ lines_covered o ++ more → AllZip rules.Says (x ∷ m) more → ⊥
      on [] are says = says
      on (e ∷ more) are says =
          let made_u = made u in
          let state = run empty (lines_covered o) in
          let fits : Fits state (e ∷ more) = fits_middle empty (lines_covered o) (e ∷ more) (subst (Fits empty) are made_u.fits) in
          let whole : run empty (lines_covered u) ≡ run (put state e) more = ap (run empty) are ∙ run_append empty (lines_covered o) (e ∷ more) in
          let sound : Sound rules.closing (run empty (lines_covered u)) = pop_back rules.closing (depth (run empty (lines_covered u)) - depth u) (run empty (lines_covered u)) (subst (Sound rules.closing) (sym made_u.is) q.sound) in
          let before : Sound rules.closing (put state e) = run_back rules.closing (put state e) more (subst (Sound rules.closing) whole sound) in
          let stops2 : Stops o (x ∷ (m ++ s)) a = subst (λ (z : List X). Stops o z a) rest stops in
          stops_next o x e (m ++ s) a stops2 says.0 fits.0 before

  -- over the same nodes, fewer open nodes can't be left where reading stopped
  not_cut : (o u : OpenText H) (r : List X) (a b : Option (ℕ × R)) → lines_covered o ≡ lines_covered u → Stops o r a → Stops u r b → Sound rules.closing u → depth u < depth o → ⊥
  not_cut o u r a b same so su sound lt = stop a so
    where
      state : OpenText H
      state = run empty (lines_covered o)

      below_line : (x : X) (more : List X) (n : ℕ) (c : R) → RefusesLine rules o (x ∷ more) n c → (b : Option (ℕ × R)) → Stops u (x ∷ more) b → ⊥
      below_line x more n c l None s = let none : x ∷ more ≡ [] = s.1 in cc
      below_line x more n c l (Some b) s = elim s [
        | inl k ↦ (let e : o ≡ u = sym (last_open o l.0) ∙ ap (run empty) same ∙ last_open u k.0 in absurd (omega (arith, ap depth e)))
        | inr k ↦ closing u.whole u.chain lt k
      ]
        where
          closing : (whole : Outline H) (chain : List (OpenLine H)) → length chain < depth o → RefusesClosing rules whole chain (x ∷ more) b.0 b.1 → ⊥
          closing whole [] le k = k
          closing whole (v ∷ outer) le k = clear.not_both (depth o) x k.0.0 c k.0.1 (omega (arith, k.0.2)) l.1

      below_closing : (whole : Outline H) (chain : List (OpenLine H)) (n : ℕ) (c : R) → depth u < length chain → Sound rules.closing (cut (depth u) (text_of whole chain)) → RefusesClosing rules whole chain r n c → ⊥
      below_closing whole [] n c le s k = k
      below_closing whole (v ∷ outer) n c le s k =
          let none : rules.closing v.head v.below ≡ None = closed_first rules.closing (depth u) whole v outer (omega arith) s in
          let some : rules.closing v.head v.below ≡ Some c = k.1 in
          cc

      cuts : cut (depth u) o ≡ u
      cuts =
          let mo = made o in
          let mu = made u in
          let s = run empty (lines_covered o) in
          ap (cut (depth u)) (sym mo.is) ∙ cut_cut (depth u) (depth o) s (omega arith) mo.deep ∙ ap (λ (z : List (ℕ × H)). cut (depth u) (run empty z)) same ∙ mu.is

      line : (r : List X) (n : ℕ) (c : R) → RefusesLine rules o r n c → Stops u r b → ⊥
      line [] n c l s = l
      line (x ∷ more) n c l s = below_line x more n c l b s

      stop : (a : Option (ℕ × R)) → Stops o r a → ⊥
      stop None s = absurd (omega (arith, ap length s.0))
      stop (Some a) s = elim s [
        | inl l ↦ line r a.0 a.1 l su
        | inr k ↦ below_closing o.whole o.chain a.0 a.1 lt (subst (Sound rules.closing) (sym cuts) sound) k
      ]

  same_depth : (o u : OpenText H) → lines_covered o ≡ lines_covered u → depth o ≡ depth u → o ≡ u
  same_depth o u same d =
      let mo = made o in
      let mu = made u in
      sym mo.is ∙ ap (λ (k : ℕ). cut k (run empty (lines_covered o))) d ∙ ap (λ (z : List (ℕ × H)). cut (depth u) (run empty z)) same ∙ mu.is

  -- reading stops at one place
  one_place : (text : List X) (o u : OpenText H) (r s : List X) (a b : Option (ℕ × R)) → (p : Opens rules text o r) → (q : Opens rules text u s) → Stops o r a → Stops u s b → (o ≡ u) × (r ≡ s)
  one_place text o u r s a b p q so su = elim (fronts p.front r q.front s (sym p.lines_are ∙ q.lines_are)) [
    | inl l ↦ further o u r s a b p q so su l.0 l.1 l.2
    | inr l ↦ (let e = further u o s r b a q p su so l.0 l.1 l.2 in (sym e.0, sym e.1))
  ]
    where
      further : (o u : OpenText H) (r s : List X) (a b : Option (ℕ × R)) → (p : Opens rules text o r) → (q : Opens rules text u s) → Stops o r a → Stops u s b → (m : List X) → q.front ≡ p.front ++ m → r ≡ m ++ s → (o ≡ u) × (r ≡ s)
      further o u r s a b p q so su (x ∷ m) longer rest = absurd (not_later text o u r s a p q so x m longer rest)
      further o u r s a b p q so su [] longer rest =
          let says : AllZip rules.Says (p.front ++ []) (lines_covered u) = subst (λ (z : List X). AllZip rules.Says z (lines_covered u)) longer q.says in
          let t = parts p.front [] (lines_covered o) (lines_covered u) p.says says in
          let none : t.more ≡ [] = nothing t.more t.says in
          let same : lines_covered o ≡ lines_covered u = sym (t.are ∙ ap (λ (z : List (ℕ × H)). lines_covered o ++ z) none ∙ append-nil (lines_covered o)) in
          let su2 : Stops u r b = subst (λ (z : List X). Stops u z b) (sym rest) su in
          elim (cases_order (depth o) (depth u)) [
            | inl d ↦ (same_depth o u same d, rest)
            | inr (inl lt) ↦ absurd (not_cut u o r b a (sym same) su2 so p.sound lt)
            | inr (inr gt) ↦ absurd (not_cut o u r a b same so su2 q.sound gt)
          ]
        where
          nothing : (more : List (ℕ × H)) → AllZip rules.Says [] more → more ≡ []
          nothing [] z = refl
          nothing (e ∷ more) z = absurd z

  -- one place has one refusal
  line_or_closing : (o : OpenText H) (x : X) (more : List X) (n m : ℕ) (a c : R) → RefusesLine rules o (x ∷ more) n a → RefusesClosing rules o.whole o.chain (x ∷ more) m c → ⊥
  line_or_closing o x more n m a c l k = on o.whole o.chain refl k
    where
      on : (whole : Outline H) (chain : List (OpenLine H)) → depth o ≡ length chain → RefusesClosing rules whole chain (x ∷ more) m c → ⊥
      on whole [] d k = k
      on whole (v ∷ outer) d k = clear.not_both (depth o) x k.0.0 a k.0.1 (omega (arith, k.0.2, d)) l.1

  two_lines : (o : OpenText H) (r : List X) (n m : ℕ) (a c : R) → RefusesLine rules o r n a → RefusesLine rules o r m c → (n ≡ m) × (a ≡ c)
  two_lines o [] n m a c l k = absurd l
  two_lines o (x ∷ more) n m a c l k = (l.2 ∙ sym k.2, clear.one_reason (depth o) x a c l.1 k.1)

  two_closings : (whole : Outline H) (chain : List (OpenLine H)) (r : List X) (n m : ℕ) (a c : R) → RefusesClosing rules whole chain r n a → RefusesClosing rules whole chain r m c → (n ≡ m) × (a ≡ c)
  two_closings whole [] r n m a c l k = absurd l
  two_closings whole (v ∷ outer) r n m a c l k = let e : ◌≡◌ {A = Option R} (Some a) (Some c) = sym l.1 ∙ k.1 in (l.2 ∙ sym k.2, cc)

  not_line_and_closing : (o : OpenText H) (r : List X) (n m : ℕ) (a c : R) → RefusesLine rules o r n a → RefusesClosing rules o.whole o.chain r m c → ⊥
  not_line_and_closing o [] n m a c l k = l
  not_line_and_closing o (x ∷ more) n m a c l k = line_or_closing o x more n m a c l k

  abbrev Refuses : OpenText H → List X → ℕ → R → Type 0
  Refuses o r n a = RefusesLine rules o r n a ⊎ RefusesClosing rules o.whole o.chain r n a

  one_answer : (o : OpenText H) (r : List X) (n m : ℕ) (a c : R) → Refuses o r n a → Refuses o r m c → (n ≡ m) × (a ≡ c)
  one_answer o r n m a c p q = elim p [
    | inl l ↦ elim q [ inl k ↦ two_lines o r n m a c l k | inr k ↦ absurd (not_line_and_closing o r n m a c l k) ]
    | inr l ↦ elim q [ inl k ↦ absurd (not_line_and_closing o r m n c a k l) | inr k ↦ two_closings o.whole o.chain r n m a c l k ]
  ]

  listed : (text : List X) (f : Outline H) → Lists rules text f → Opens rules text (text_of f []) []
  listed text f l = record { front = text; lines_are = sym (append-nil text); says = subst (AllZip rules.Says text) (sym (append-nil (nodes 0 f))) l.says; sound = (l.close, tt) }

  pub told : (text : List X) → HasOneAnswer rules text
  told text = record {
    one_listing = λ f g p q. ap (λ (o : OpenText H). o.whole) (one_place text (text_of f []) (text_of g []) [] [] None None (listed text f p) (listed text g q) (refl, refl) (refl, refl)).0;
    not_both = λ f g n a p q. neither f g n a p q;
    one_refusal = λ f g m n a b p q.
        let e = one_place text p.opened q.opened p.rest q.rest (Some (m, a)) (Some (n, b)) p.opens q.opens p.refuses q.refuses in
        let qa : Refuses p.opened p.rest n b = subst (λ (z : List X). Refuses p.opened z n b) (sym e.1) (subst (λ (o : OpenText H). Refuses o q.rest n b) (sym e.0) q.refuses) in
        let s = one_answer p.opened p.rest m n a b p.refuses qa in
        (s.0, s.1, sym p.whole ∙ ap (λ (o : OpenText H). o.whole) e.0 ∙ q.whole);
  }
    where
      ends : (o : OpenText H) (r : List X) (n : ℕ) (a : R) → o.chain ≡ [] → r ≡ [] → Refuses o r n a → ⊥
      ends o r n a c e s = elim s [
        | inl l ↦ subst (λ (z : List X). RefusesLine rules o z n a) e l
        | inr k ↦ subst (λ (z : List (OpenLine H)). RefusesClosing rules o.whole z r n a) c k
      ]

      neither : (f g : Outline H) (n : ℕ) (a : R) → Lists rules text f → Refused rules text n a g → ⊥
      neither f g n a p q =
          let e = one_place text (text_of f []) q.opened [] q.rest None (Some (n, a)) (listed text f p) q.opens (refl, refl) q.refuses in
          ends q.opened q.rest n a (ap (λ (o : OpenText H). o.chain) (sym e.0)) (sym e.1) q.refuses
