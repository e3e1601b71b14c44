-- Steps of an open text: lines are closed, and a line begins.
use Rattle.std.specs.Prelude.{ℕ, zero, suc, ◌-◌, List, [], ◌∷◌, length}
use Rattle.llrp_listing.specs.OpenText.{Outline, end, node, OpenLine, OpenText}

-- trees, and then others
abbrev pub join : {H : Type 0} → Outline H → Outline H → Outline H
join end g = g
join (node h below after) g = node h below (join after g)

module _ {H : Type 0} where
  abbrev pub text_of : Outline H → List (OpenLine H) → OpenText H
  text_of whole chain = record { whole = whole; chain = chain }

  abbrev pub begin : H → OpenLine H
  begin h = record { head = h; below = end }

  abbrev pub more_below : OpenLine H → Outline H → OpenLine H
  more_below b f = record { head = b.head; below = join b.below f }

  -- trees go to the innermost open line, or to the whole ones
  abbrev pub add_to : Outline H → Outline H → List (OpenLine H) → OpenText H
  add_to f whole [] = text_of (join whole f) []
  add_to f whole (p ∷ outer) = text_of whole (more_below p f ∷ outer)

  abbrev pub add : Outline H → OpenText H → OpenText H
  add f o = add_to f o.whole o.chain

  -- the innermost open line is closed
  abbrev pub close_in : Outline H → List (OpenLine H) → OpenText H
  close_in whole [] = text_of whole []
  close_in whole (b ∷ outer) = add_to (node b.head b.below end) whole outer

  abbrev pub close : OpenText H → OpenText H
  close o = close_in o.whole o.chain

  -- this many closings
  abbrev pub pop : ℕ → OpenText H → OpenText H
  pop zero o = o
  pop (suc n) o = pop n (close o)

  abbrev pub depth : OpenText H → ℕ
  depth o = length o.chain

  -- no more than this many lines stay open
  abbrev pub cut : ℕ → OpenText H → OpenText H
  cut d o = pop (depth o - d) o

  abbrev pub push : H → OpenText H → OpenText H
  push h o = text_of o.whole (begin h ∷ o.chain)

  -- a line begins at a level, once those of that level or deeper are closed
  abbrev pub put : OpenText H → ℕ × H → OpenText H
  put o e = push e.1 (cut e.0 o)
