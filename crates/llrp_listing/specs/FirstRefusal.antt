-- Which texts list trees, and the first refusal of a text that lists none.
use Rattle.std.specs.Prelude.{◌≡◌, ℕ, suc, ◌≤◌, List, [], ◌∷◌, ◌++◌, length, Option, Some, None, ◌⊎◌}
use Rattle.std.specs.List.{AllZip}
use Rattle.llrp_listing.specs.OpenText.{Outline, end, node, OpenLine, OpenText, lines_covered}

-- What a line says, a level and a head; why a line is refused by itself where this many lines are open; why a node can't be closed.
pub record Rules (H X R : Type 0) : Type 1 where
  pub Says : X → ℕ × H → Type 0
  pub Refuses : ℕ → X → R → Type 0
  pub closing : H → Outline H → Option R

-- each of the trees, and each below it, can be closed
abbrev pub AllClose : {H R : Type 0} → (H → Outline H → Option R) → Outline H → Type 0
AllClose closing end = Unit {0}
AllClose closing (node head below after) = (closing head below ≡ None) × AllClose closing below × AllClose closing after

-- each of the trees below the lines of a chain can be closed
abbrev pub ChainCloses : {H R : Type 0} → (H → Outline H → Option R) → List (OpenLine H) → Type 0
ChainCloses closing [] = Unit {0}
ChainCloses closing (b ∷ outer) = AllClose closing b.below × ChainCloses closing outer

-- all that is whole in an open text can be closed
abbrev pub Sound : {H R : Type 0} → (H → Outline H → Option R) → OpenText H → Type 0
Sound closing o = AllClose closing o.whole × ChainCloses closing o.chain

-- An open text covers the lines before the rest, and all that is whole in it can be closed.
pub record Opens {H X R : Type 0} (rules : Rules H X R) (lines : List X) (o : OpenText H) (rest : List X) : Type 0 where
  pub front : List X
  pub lines_are : lines ≡ front ++ rest
  pub says : AllZip rules.Says front (lines_covered o)
  pub sound : Sound rules.closing o

-- no tree is whole below the last line, nor beside it
abbrev pub LastOpen : {H : Type 0} → Outline H → List (OpenLine H) → Type 0
LastOpen whole [] = whole ≡ end
LastOpen whole (b ∷ outer) = b.below ≡ end

-- the last line of an open text is open, if there is one
abbrev pub IsLastOpen : {H : Type 0} → OpenText H → Type 0
IsLastOpen o = LastOpen o.whole o.chain

-- the lines go on with one of this level or above, or end: a line of this level is closed then
abbrev pub ClosesAt : {H X R : Type 0} → Rules H X R → ℕ → List X → Type 0
ClosesAt rules level [] = Unit {0}
ClosesAt {H} rules level (x ∷ more) = (e : ℕ × H) × rules.Says x e × (e.0 ≤ level)

-- The next line is refused by itself. It is counted to the last line, which stays open.
abbrev pub RefusesLine : {H X R : Type 0} → Rules H X R → OpenText H → List X → ℕ → R → Type 0
RefusesLine rules o [] number reason = ⊥
RefusesLine rules o (x ∷ more) number reason = IsLastOpen o × rules.Refuses (length o.chain) x reason × (number ≡ suc (length (lines_covered o)))

-- the innermost open line comes to its close and can't be closed
abbrev pub RefusesClosing : {H X R : Type 0} → Rules H X R → Outline H → List (OpenLine H) → List X → ℕ → R → Type 0
RefusesClosing rules whole [] rest number reason = ⊥
RefusesClosing rules whole (b ∷ outer) rest number reason =
    ClosesAt rules (length outer) rest × (rules.closing b.head b.below ≡ Some reason) × (number ≡ suc (length (lines_covered (record { whole = whole; chain = outer }))))

-- The first refusal: an open text covers the lines before it, and the next line or the next closing fails. These trees were whole before it.
pub record Refused {H X R : Type 0} (rules : Rules H X R) (lines : List X) (number : ℕ) (reason : R) (trees : Outline H) : Type 0 where
  pub opened : OpenText H
  pub rest : List X
  pub opens : Opens rules lines opened rest
  pub whole : opened.whole ≡ trees
  pub refuses : RefusesLine rules opened rest number reason ⊎ RefusesClosing rules opened.whole opened.chain rest number reason
