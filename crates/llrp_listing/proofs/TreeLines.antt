-- Parameters as lines, and lines as parameters.
use Rattle.std.proofs.Common.{◌≡◌, ℕ, suc, List, [], ◌∷◌, ◌++◌, refl, sym, ap, ◌∙◌, append_assoc}
use Rattle.std.proofs.lemmas.List.{append-nil}
use Rattle.llrp_tree.specs.Tree as tree
use Rattle.llrp_tree.specs.Tree.{MessageTree}
use Rattle.llrp_schema.specs.declared.kinds.Kind.{Kind}
use Rattle.llrp_schema.specs.declared.kinds.Kind.TheVariants.{Message, Parameter}
use Rattle.llrp_listing.specs.ListingRules.{parameters_onto, parameters_of, message_of, lines_onto, row}
use Rattle.llrp_listing.specs.MessageListing.{parameter_lines, message_lines, messages_lines}
use Rattle.llrp_listing.specs.NodeLine.{NodeLine, parameter_line, message_line}
use Rattle.llrp_listing.specs.OpenText.{Outline, end, node, nodes}
use Rattle.llrp_listing.specs.Private.OpenTextSteps.{join}

-- parameters in a row, and then others
abbrev both : tree.Forest → tree.Forest → tree.Forest
both b tree.none = b
both b (tree.and before kind fields tail children) = tree.and (both b before) kind fields tail children

both_none : (f : tree.Forest) → both tree.none f ≡ f
both_none tree.none = refl
both_none (tree.and before kind fields tail children) = ap (λ (z : tree.Forest). tree.and z kind fields tail children) (both_none before)

parameters_back_onto : (b f : tree.Forest) (after : Outline NodeLine) → parameters_onto b (lines_onto f after) ≡ parameters_onto (both b f) after
parameters_back_onto b tree.none after = refl
parameters_back_onto b (tree.and before kind fields tail children) after =
    parameters_back_onto b before (node (parameter_line kind fields tail) (lines_onto children end) after)
    ∙ ap (λ (z : tree.Forest). parameters_onto (tree.and (both b before) kind fields tail z) after) (parameters_back_onto tree.none children end ∙ both_none children)

-- the parameters of the lines of parameters are these
pub parameters_back : (f : tree.Forest) → parameters_of (lines_onto f end) ≡ f
parameters_back f = parameters_back_onto tree.none f end ∙ both_none f

pub lines_join : (f : tree.Forest) (a b : Outline NodeLine) → lines_onto f (join a b) ≡ join (lines_onto f a) b
lines_join tree.none a b = refl
lines_join (tree.and before kind fields tail children) a b = lines_join before (node (parameter_line kind fields tail) (lines_onto children end) a) b

add_all_more : (f : tree.Forest) (ts : List tree.Tree) (t : tree.Tree) → tree.add_all f (ts ++ (t ∷ [])) ≡ tree.add (tree.add_all f ts) t
add_all_more f [] t = refl
add_all_more f (u ∷ ts) t = add_all_more (tree.add f u) ts t

pub row_more : (ms : List MessageTree) (m : MessageTree) → row (ms ++ (m ∷ [])) ≡ join (row ms) (row (m ∷ []))
row_more [] m = refl
row_more (n ∷ ms) m = ap (node (message_line n) (lines_onto n.children end)) (row_more ms m)

-- the lines of trees are those of the listing
nodes_lines : (d : ℕ) (f : tree.Forest) (after : Outline NodeLine) → nodes d (lines_onto f after) ≡ parameter_lines d f ++ nodes d after
nodes_lines d tree.none after = refl
nodes_lines d (tree.and before kind fields tail children) after =
    nodes_lines d before (node (parameter_line kind fields tail) (lines_onto children end) after)
    ∙ ap (λ (z : List (ℕ × NodeLine)). parameter_lines d before ++ (((d, parameter_line kind fields tail) ∷ z) ++ nodes d after)) (nodes_lines (suc d) children end ∙ append-nil (parameter_lines (suc d) children))
    ∙ sym (append_assoc (parameter_lines d before) ((d, parameter_line kind fields tail) ∷ parameter_lines (suc d) children) (nodes d after))

pub nodes_row : (ms : List MessageTree) → nodes 0 (row ms) ≡ messages_lines ms
nodes_row [] = refl
nodes_row (m ∷ ms) =
    ap (λ (z : List (ℕ × NodeLine)). ((0, message_line m) ∷ z) ++ nodes 0 (row ms)) (nodes_lines 1 m.children end ∙ append-nil (parameter_lines 1 m.children))
    ∙ ap (λ (z : List (ℕ × NodeLine)). message_lines m ++ z) (nodes_row ms)

-- the messages of lines in a row
abbrev messages_of : Outline NodeLine → List MessageTree
messages_of end = []
messages_of (node line below after) = one line.kind line.numbers line.tail below (messages_of after)
  where
    one : Kind → List ℕ → List ℕ → Outline NodeLine → List MessageTree → List MessageTree
    one (Message kind) numbers tail below ms = message_of kind numbers tail below ∷ ms
    one (Parameter kind) numbers tail below ms = ms

messages_back : (ms : List MessageTree) → messages_of (row ms) ≡ ms
messages_back [] = refl
messages_back (m ∷ ms) = rw (messages_back ms) (ap (λ (z : tree.Forest). record m { children = z } ∷ ms) (parameters_back m.children))

-- messages with the same lines are the same
pub row_same : (ms ns : List MessageTree) → row ms ≡ row ns → ms ≡ ns
row_same ms ns e = sym (messages_back ms) ∙ ap messages_of e ∙ messages_back ns
