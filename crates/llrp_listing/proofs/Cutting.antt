-- Texts cut into lines.
use Rattle.std.proofs.Common.{◌≡◌, ℕ, List, [], ◌∷◌, ◌++◌, refl, ap}
use Rattle.llrp_listing.specs.Lines.{TextLine, Ended, Unended, onto_line, lines_of, NoLf}

pub ended : (x bs : List ℕ) → NoLf x → lines_of (x ++ (10 ∷ bs)) ≡ Ended x ∷ lines_of bs
unfolding lines_of
ended [] bs n = refl
ended (b ∷ x) bs n = rw n.0 (ap (onto_line b) (ended x bs n.1))

pub unended : (b : ℕ) (x : List ℕ) → NoLf (b ∷ x) → lines_of (b ∷ x) ≡ Unended (b ∷ x) ∷ []
unfolding lines_of
unended b [] n = rw n.0 refl
unended b (c ∷ x) n = rw n.0 (ap (onto_line b) (unended c x n.1))

-- a line that has begun stays the first, whatever follows
pub data Begins (x : List ℕ) (raws : List TextLine) : Type 0 where
  as_ended : (y : List ℕ) (more : List TextLine) → raws ≡ Ended (x ++ y) ∷ more → Begins x raws
  as_unended : (y : List ℕ) (more : List TextLine) → raws ≡ Unended (x ++ y) ∷ more → Begins x raws

onto_begins : (b : ℕ) (raws : List TextLine) → Begins (b ∷ []) (onto_line b raws)
onto_begins b [] = as_unended [] [] refl
onto_begins b (Ended x ∷ xs) = as_ended x xs refl
onto_begins b (Unended x ∷ xs) = as_unended x xs refl

more_begins : (b : ℕ) (x : List ℕ) (raws : List TextLine) → Begins x raws → Begins (b ∷ x) (onto_line b raws)
more_begins b x raws (as_ended y more e) = as_ended y more (ap (onto_line b) e)
more_begins b x raws (as_unended y more e) = as_unended y more (ap (onto_line b) e)

pub begins : (b : ℕ) (x more : List ℕ) → NoLf (b ∷ x) → Begins (b ∷ x) (lines_of ((b ∷ x) ++ more))
unfolding lines_of
begins b [] more n = rw n.0 (onto_begins b (lines_of more))
begins b (c ∷ x) more n = rw n.0 (more_begins b (c ∷ x) (lines_of ((c ∷ x) ++ more)) (begins c x more n.1))
