-- Texts that list trees: a line for each node with its level, parents before their children.
use Rattle.std.specs.Prelude.{ℕ, suc, List, [], ◌∷◌, ◌++◌, length}

-- trees in a row: each has a head, the trees below it, and then the trees after it
pub data Outline (H : Type 0) : Type 0 where
  end : Outline H
  node : H → Outline H → Outline H → Outline H

-- the levels and heads of trees that are at a level, in the order of their lines
abbrev pub nodes : {H : Type 0} → ℕ → Outline H → List (ℕ × H)
nodes level end = []
nodes level (node head below after) = ((level, head) ∷ nodes (suc level) below) ++ nodes level after

-- a line that is open: its head, and the whole trees below it
pub record OpenLine (H : Type 0) : Type 0 where
  pub head : H
  pub below : Outline H

-- An open text: whole trees, and a chain of open lines, the innermost first.
pub record OpenText (H : Type 0) : Type 0 where
  pub whole : Outline H
  pub chain : List (OpenLine H)

-- the levels and heads of a chain, and of what is below its lines
abbrev pub chain_nodes : {H : Type 0} → List (OpenLine H) → List (ℕ × H)
chain_nodes [] = []
chain_nodes (b ∷ outer) = chain_nodes outer ++ ((length outer, b.head) ∷ nodes (suc (length outer)) b.below)

-- the levels and heads that an open text covers, in the order of their lines
abbrev pub lines_covered : {H : Type 0} → OpenText H → List (ℕ × H)
lines_covered o = nodes 0 o.whole ++ chain_nodes o.chain
