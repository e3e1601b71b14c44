-- How an open text grows line by line.
use Rattle.std.proofs.Common.{◌≡◌, ℕ, zero, suc, ◌+◌, ◌-◌, ◌≤◌, List, [], ◌∷◌, ◌++◌, length, refl, sym, ap, subst, ◌∙◌, arith, append_assoc}
use Rattle.std.proofs.lemmas.List.{append-nil}
use Rattle.llrp_listing.specs.OpenText.{Outline, end, node, nodes, OpenLine, OpenText, chain_nodes, lines_covered}
use Rattle.llrp_listing.specs.FirstRefusal.{LastOpen, IsLastOpen}
use Rattle.llrp_listing.specs.Private.OpenTextSteps.{join, text_of, add_to, add, close_in, close, pop, depth, cut, push, put}

pub join_end : {H : Type 0} (f : Outline H) → join f end ≡ f
join_end end = refl
join_end (node h below after) = ap (node h below) (join_end after)

pub join_join : {H : Type 0} (f g k : Outline H) → join (join f g) k ≡ join f (join g k)
join_join end g k = refl
join_join (node h below after) g k = ap (node h below) (join_join after g k)

pub nodes_join : {H : Type 0} (d : ℕ) (f g : Outline H) → nodes d (join f g) ≡ nodes d f ++ nodes d g
nodes_join d end g = refl
nodes_join d (node h below after) g = ap (λ (x : List (ℕ × _)). ((d, h) ∷ nodes (suc d) below) ++ x) (nodes_join d after g) ∙ sym (append_assoc ((d, h) ∷ nodes (suc d) below) (nodes d after) (nodes d g))

module _ {H : Type 0} where
  abbrev pub run : OpenText H → List (ℕ × H) → OpenText H
  run o [] = o
  run o (e ∷ es) = run (put o e) es

  abbrev pub empty : OpenText H
  empty = text_of end []

  pub run_append : (o : OpenText H) (xs ys : List (ℕ × H)) → run o (xs ++ ys) ≡ run (run o xs) ys
  run_append o [] ys = refl
  run_append o (e ∷ xs) ys = run_append (put o e) xs ys

  -- each line's level is at most the number of open lines before it
  abbrev pub Fits : OpenText H → List (ℕ × H) → Type 0
  Fits o [] = Unit {0}
  Fits o (e ∷ es) = (e.0 ≤ depth o) × Fits (put o e) es

  pub fits_append : (o : OpenText H) (xs ys : List (ℕ × H)) → Fits o xs → Fits (run o xs) ys → Fits o (xs ++ ys)
  fits_append o [] ys f g = g
  fits_append o (e ∷ xs) ys f g = (f.0, fits_append (put o e) xs ys f.1 g)

  pub fits_middle : (o : OpenText H) (xs ys : List (ℕ × H)) → Fits o (xs ++ ys) → Fits (run o xs) ys
  fits_middle o [] ys f = f
  fits_middle o (e ∷ xs) ys f = fits_middle (put o e) xs ys f.1

  pub depth_add : (f whole : Outline H) (chain : List (OpenLine H)) → depth (add_to f whole chain) ≡ length chain
  depth_add f whole [] = refl
  depth_add f whole (p ∷ outer) = refl

  pub depth_close : (whole : Outline H) (chain : List (OpenLine H)) → depth (close_in whole chain) ≡ length chain - 1
  depth_close whole [] = refl
  depth_close whole (b ∷ outer) = depth_add (node b.head b.below end) whole outer ∙ omega arith

  pub depth_pop : (n : ℕ) (o : OpenText H) → depth (pop n o) ≡ depth o - n
  depth_pop zero o = omega arith
  depth_pop (suc n) o = depth_pop n (close o) ∙ omega (arith, depth_close o.whole o.chain)

  pub depth_cut : (d : ℕ) (o : OpenText H) → d ≤ depth o → depth (cut d o) ≡ d
  depth_cut d o le = depth_pop (depth o - d) o ∙ omega arith

  pub pop_pop : (m n : ℕ) (o : OpenText H) → pop n (pop m o) ≡ pop (m + n) o
  pop_pop zero n o = let e : n ≡ 0 + n = omega arith in ap (λ (k : ℕ). pop k o) e
  pop_pop (suc m) n o = let e : suc (m + n) ≡ suc m + n = omega arith in pop_pop m n (close o) ∙ ap (λ (k : ℕ). pop k o) e

  pub cut_cut : (c d : ℕ) (o : OpenText H) → c ≤ d → d ≤ depth o → cut c (cut d o) ≡ cut c o
  cut_cut c d o cd le =
      let k : depth (cut d o) ≡ d = depth_cut d o le in
      let n : (depth o - d) + (depth (cut d o) - c) ≡ depth o - c = omega arith in
      pop_pop (depth o - d) (depth (cut d o) - c) o ∙ ap (λ (i : ℕ). pop i o) n

  pub cut_all : (o : OpenText H) → cut (depth o) o ≡ o
  cut_all o = let e : depth o - depth o ≡ 0 = omega arith in ap (λ (n : ℕ). pop n o) e

  pub cut_one : (d : ℕ) (o : OpenText H) → depth o ≡ suc d → cut d o ≡ close o
  cut_one d o e = let n : depth o - d ≡ 1 = omega arith in ap (λ (n : ℕ). pop n o) n

  pub add_add : (f g : Outline H) (o : OpenText H) → add g (add f o) ≡ add (join f g) o
  add_add f g o = on o.whole o.chain
    where
      on : (whole : Outline H) (chain : List (OpenLine H)) → add g (add_to f whole chain) ≡ add_to (join f g) whole chain
      on whole [] = ap (λ (x : Outline H). text_of x []) (join_join whole f g)
      on whole (p ∷ outer) = ap (λ (x : Outline H). text_of whole (record { head = p.head; below = x } ∷ outer)) (join_join p.below f g)

  -- what a row of trees does to an open text
  pub record Took (o : OpenText H) (d : ℕ) (f : Outline H) : Type 0 where
    pub deep : d ≤ depth (run o (nodes d f))
    pub fits : Fits o (nodes d f)
    pub is : cut d (run o (nodes d f)) ≡ add f (cut d o)

  add_end : (o : OpenText H) → add end o ≡ o
  add_end o = on o.whole o.chain
    where
      on : (whole : Outline H) (chain : List (OpenLine H)) → add_to end whole chain ≡ text_of whole chain
      on whole [] = ap (λ (x : Outline H). text_of x []) (join_end whole)
      on whole (p ∷ outer) = ap (λ (x : Outline H). text_of whole (record { head = p.head; below = x } ∷ outer)) (join_end p.below)

  pub took : (f : Outline H) (d : ℕ) (o : OpenText H) → d ≤ depth o → Took o d f
  took end d o le = record { deep = le; fits = tt; is = sym (add_end (cut d o)) }
  took (node h below after) d o le =
      let base = cut d o in
      let at : depth base ≡ d = depth_cut d o le in
      let a = push h base in
      let da : depth a ≡ suc d = ap suc at in
      let t = took below (suc d) a (omega arith) in
      let b = run a (nodes (suc d) below) in
      let ca : cut (suc d) a ≡ a = ap (λ (n : ℕ). cut n a) (sym da) ∙ cut_all a in
      let cb : cut (suc d) b ≡ add below a = t.is ∙ ap (add below) ca in
      let cd : cut d b ≡ add (node h below end) base = sym (cut_cut d (suc d) b (omega arith) t.deep) ∙ ap (cut d) cb ∙ cut_one d (add below a) da in
      let u = took after d b (omega (arith, t.deep)) in
      let split : run o (nodes d (node h below after)) ≡ run b (nodes d after) = run_append a (nodes (suc d) below) (nodes d after) in
      record {
        deep = rw split u.deep;
        fits = (le, fits_append a (nodes (suc d) below) (nodes d after) t.fits u.fits);
        is = ap (cut d) split ∙ u.is ∙ ap (add after) cd ∙ add_add (node h below end) after base;
      }

  -- an open text is what its lines make, cut to its depth
  pub record Made (o : OpenText H) : Type 0 where
    pub deep : depth o ≤ depth (run empty (lines_covered o))
    pub fits : Fits empty (lines_covered o)
    pub is : cut (depth o) (run empty (lines_covered o)) ≡ o

  made_in : (whole : Outline H) (chain : List (OpenLine H)) → Made (text_of whole chain)
  made_in whole [] =
      let t = took whole 0 empty (omega arith) in
      let e = append-nil (nodes 0 whole) in
      record { deep = omega arith; fits = rw e t.fits; is = rw e t.is }
  made_in whole (b ∷ outer) =
      let m = made_in whole outer in
      let front = lines_covered (text_of whole outer) in
      let s = run empty front in
      let n = length outer in
      let p = put s (n, b.head) in
      let pis : p ≡ push b.head (text_of whole outer) = ap (push b.head) m.is in
      let dp : depth p ≡ suc n = ap depth pis in
      let t = took b.below (suc n) p (omega arith) in
      let back = nodes (suc n) b.below in
      let all : run empty (lines_covered (text_of whole (b ∷ outer))) ≡ run p back = ap (run empty) (sym (append_assoc (nodes 0 whole) (chain_nodes outer) ((n, b.head) ∷ back))) ∙ run_append empty front ((n, b.head) ∷ back) in
      let cp : cut (suc n) p ≡ push b.head (text_of whole outer) = ap (λ (k : ℕ). cut k p) (sym dp) ∙ cut_all p ∙ pis in
      record {
        deep = rw all t.deep;
        fits = subst (Fits empty) (append_assoc (nodes 0 whole) (chain_nodes outer) ((n, b.head) ∷ back)) (fits_append empty front ((n, b.head) ∷ back) m.fits (m.deep, t.fits));
        is = ap (cut (suc n)) all ∙ t.is ∙ ap (add b.below) cp;
      }

  pub made : (o : OpenText H) → Made o
  made o = made_in o.whole o.chain

  -- where nothing is whole below the last line, none was closed since
  pub last_open : (o : OpenText H) → IsLastOpen o → run empty (lines_covered o) ≡ o
  last_open o e = on o.whole o.chain e
    where
      on : (whole : Outline H) (chain : List (OpenLine H)) → LastOpen whole chain → run empty (lines_covered (text_of whole chain)) ≡ text_of whole chain
      on whole [] e = rw e refl
      on whole (b ∷ outer) e =
          let m = made_in whole outer in
          let n = length outer in
          ap (λ (x : Outline H). run empty (nodes 0 whole ++ (chain_nodes outer ++ ((n, b.head) ∷ nodes (suc n) x)))) e
          ∙ ap (run empty) (sym (append_assoc (nodes 0 whole) (chain_nodes outer) ((n, b.head) ∷ [])))
          ∙ run_append empty (lines_covered (text_of whole outer)) ((n, b.head) ∷ [])
          ∙ ap (push b.head) m.is
          ∙ ap (λ (x : Outline H). text_of whole (record { head = b.head; below = x } ∷ outer)) (sym e)

  -- trees that are added bring their lines
  covers_add : (f whole : Outline H) (chain : List (OpenLine H)) → lines_covered (add_to f whole chain) ≡ lines_covered (text_of whole chain) ++ nodes (length chain) f
  covers_add f whole [] =
      append-nil (nodes 0 (join whole f)) ∙ nodes_join 0 whole f ∙ ap (λ (x : List (ℕ × H)). x ++ nodes 0 f) (sym (append-nil (nodes 0 whole)))
  covers_add f whole (p ∷ outer) =
      let n = length outer in
      let back = (n, p.head) ∷ nodes (suc n) p.below in
      let more : nodes (suc n) (join p.below f) ≡ nodes (suc n) p.below ++ nodes (suc n) f = nodes_join (suc n) p.below f in
      ap (λ (x : List (ℕ × H)). nodes 0 whole ++ (chain_nodes outer ++ ((n, p.head) ∷ x))) more
      ∙ ap (λ (x : List (ℕ × H)). nodes 0 whole ++ x) (sym (append_assoc (chain_nodes outer) back (nodes (suc n) f)))
      ∙ sym (append_assoc (nodes 0 whole) (chain_nodes outer ++ back) (nodes (suc n) f))

  covers_close_in : (whole : Outline H) (chain : List (OpenLine H)) → lines_covered (close_in whole chain) ≡ lines_covered (text_of whole chain)
  covers_close_in whole [] = refl
  covers_close_in whole (b ∷ outer) =
      let n = length outer in
      let back = (n, b.head) ∷ nodes (suc n) b.below in
      covers_add (node b.head b.below end) whole outer
      ∙ ap (λ (x : List (ℕ × H)). lines_covered (text_of whole outer) ++ x) (append-nil back)
      ∙ append_assoc (nodes 0 whole) (chain_nodes outer) back

  -- closings change no line
  pub covers_pop : (n : ℕ) (o : OpenText H) → lines_covered (pop n o) ≡ lines_covered o
  covers_pop zero o = refl
  covers_pop (suc n) o = covers_pop n (close o) ∙ covers_close_in o.whole o.chain

  -- a line that begins is the next
  pub covers_put : (o : OpenText H) (e : ℕ × H) → e.0 ≤ depth o → lines_covered (put o e) ≡ lines_covered o ++ (e ∷ [])
  covers_put o e le =
      let c = cut e.0 o in
      let d : depth c ≡ e.0 = depth_cut e.0 o le in
      let line : (depth c, e.1) ≡ e = ap (λ (n : ℕ). (n, e.1)) d in
      sym (append_assoc (nodes 0 c.whole) (chain_nodes c.chain) ((depth c, e.1) ∷ []))
      ∙ ap (λ (x : ℕ × H). lines_covered c ++ (x ∷ [])) line
      ∙ ap (λ (x : List (ℕ × H)). x ++ (e ∷ [])) (covers_pop (depth o - e.0) o)
