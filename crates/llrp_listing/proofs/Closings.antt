-- Lines that are closed, one after the other.
use Rattle.std.proofs.Common.{◌≡◌, ℕ, suc, ◌-◌, List, [], ◌∷◌, ◌++◌, length, None, refl, sym, ap, subst, ◌∙◌, arith}
use Rattle.std.proofs.lemmas.List.{append-nil, length-map}
use Rattle.llrp_tree.specs.Tree as tree
use Rattle.llrp_tree.specs.Tree.{MessageTree}
use Rattle.llrp_listing.specs.FirstRefusal.{AllClose, Sound}
use Rattle.llrp_listing.specs.ListingRules.{closing, lines_onto, row}
use Rattle.llrp_listing.specs.NodeLine.{NodeLine, message_line}
use Rattle.llrp_listing.specs.Private.OpenLines.{Entry, entry, lines_below, chain, open_over, open_of, AreNumbered, IsSound, Closed, CanClose, Begins, AllClosed}
use Rattle.llrp_listing.specs.OpenText.{Outline, end, node, OpenLine, OpenText, lines_covered}
use Rattle.llrp_listing.specs.Private.OpenTextSteps.{join, text_of, add_to, close_in, cut, depth}
use Rattle.llrp_listing.proofs.Growing.{cut_all, cut_cut, covers_pop}
use Rattle.llrp_listing.proofs.TreeLines.{row_more}

pub length_chain : (es : List Entry) → length (chain es) ≡ length es
length_chain es = length-map es (λ e. e.begun)

-- ---- soundness

join_close : (limit : ℕ) (f g : Outline NodeLine) → AllClose (closing limit) f → AllClose (closing limit) g → AllClose (closing limit) (join f g)
join_close limit end g p q = q
join_close limit (node h below after) g p q = (p.0, p.1, join_close limit after g p.2 q)

add_close : (limit : ℕ) (f whole : Outline NodeLine) (outer : List (OpenLine NodeLine)) → AllClose (closing limit) f → Sound (closing limit) (text_of whole outer) → Sound (closing limit) (add_to f whole outer)
add_close limit f whole [] p s = (join_close limit whole f s.0 p, tt)
add_close limit f whole (b ∷ outer) p s = (s.0, (join_close limit b.below f s.1.0 p, s.1.1))

pub close_sound : (limit : ℕ) (whole : Outline NodeLine) (b : OpenLine NodeLine) (outer : List (OpenLine NodeLine)) → closing limit b.head b.below ≡ None → Sound (closing limit) (text_of whole (b ∷ outer)) → Sound (closing limit) (close_in whole (b ∷ outer))
close_sound limit whole b outer none s = add_close limit (node b.head b.below end) whole outer (none, s.1.0, tt) (s.0, s.1.1)

-- ---- closings

pub closed_none : (es : List Entry) → Closed es es
closed_none es = record {
  fewer = omega arith;
  is = λ whole. ap (λ (n : ℕ). cut n (open_over whole es)) (sym (length_chain es)) ∙ cut_all (open_over whole es);
  sound = λ limit whole s. s;
  numbered = λ whole n. n;
}

pub closed_trans : (a b c : List Entry) → Closed a b → Closed b c → Closed a c
closed_trans a b c p q = record {
  fewer = omega (arith, p.fewer, q.fewer);
  is = λ whole. sym (cut_cut (length c) (length b) (open_over whole a) q.fewer (omega (arith, p.fewer, length_chain a))) ∙ ap (cut (length c)) (p.is whole) ∙ q.is whole;
  sound = λ limit whole s. q.sound limit whole (p.sound limit whole s);
  numbered = λ whole n. q.numbered whole (p.numbered whole n);
}

-- ---- a line that begins

pub begins_parameter : (limit level number : ℕ) (line : NodeLine) (old mid : List Entry) → Closed old mid → length mid ≡ level → Begins limit old (entry line (lines_below []) number ∷ mid) level line number []
begins_parameter limit level number line old mid c len = record {
  is = λ done.
      ap (λ (z : List MessageTree). open_of z (entry line end number ∷ mid)) (append-nil done)
      ∙ ap (λ (o : OpenText NodeLine). text_of o.whole (record { head = line; below = end } ∷ o.chain)) (sym (c.is (row done)) ∙ ap (λ (n : ℕ). cut n (open_of done old)) len);
  sound = λ done s. subst (λ (z : List MessageTree). IsSound limit (open_of z (entry line end number ∷ mid))) (sym (append-nil done)) (let t = c.sound limit (row done) s in (t.0, (tt, t.1)));
  numbered = λ done n is. subst (λ (z : List MessageTree). AreNumbered (row z) (entry line end number ∷ mid)) (sym (append-nil done))
      (is ∙ ap (λ (z : List (ℕ × NodeLine)). suc (length z)) (sym (covers_pop (depth (open_of done old) - length mid) (open_of done old)) ∙ ap lines_covered (c.is (row done))), c.numbered (row done) n);
}

-- ---- a message that is closed

pub all_closed_one : (limit number : ℕ) (m : MessageTree) (ts : List tree.Tree) → CanClose limit (entry (message_line m) (lines_below ts) number) → m.children ≡ tree.forest ts → AllClosed limit (entry (message_line m) (lines_below ts) number ∷ []) (m ∷ [])
all_closed_one limit number m ts can is = record { is = λ done. same done; sound = λ done s. subst (IsSound limit) (same done) (close_sound limit (row done) (record { head = message_line m; below = lines_below ts }) [] can s) }
  where
    same : (done : List MessageTree) → cut 0 (open_of done (entry (message_line m) (lines_below ts) number ∷ [])) ≡ open_of (done ++ (m ∷ [])) []
    same done = ap (λ (f : Outline NodeLine). text_of f []) (ap (λ (f : tree.Forest). join (row done) (node (message_line m) (lines_onto f end) end)) (sym is) ∙ sym (row_more done m))

pub all_closed_more : (limit : ℕ) (a b : List Entry) (messages : List MessageTree) → Closed a b → AllClosed limit b messages → AllClosed limit a messages
all_closed_more limit a b messages c all = record {
  is = λ done. sym (cut_cut 0 (length b) (open_of done a) (omega arith) (omega (arith, c.fewer, length_chain a))) ∙ ap (cut 0) (c.is (row done)) ∙ all.is done;
  sound = λ done s. all.sound done (c.sound limit (row done) s);
}

-- ---- lists

pub none_items : {X : Type 0} (xs : List X) → length xs ≡ 0 → xs ≡ []
none_items [] h = refl
none_items (x ∷ xs) h = absurd (omega arith)
