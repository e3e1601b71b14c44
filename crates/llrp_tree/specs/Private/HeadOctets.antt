-- Beside Calls/Spelled: words of private functions.
use Rattle.std.specs.Prelude.{◌≡◌, ℕ, zero, suc, ◌+◌, ◌<◌, ◌≤◌, List, [], ◌∷◌, ◌++◌, length, take, drop, Bool}
use Rattle.std.specs.Borrow.{Bor}
use Rattle.tag_bits.specs.Digits.{value}
use Rattle.llrp_tree.specs.declared.TheConstants.{MAX_DEPTH}
use Rattle.llrp_tree.specs.declared.spelling.NodeRest.{NodeRest}
use Rattle.llrp_tree.specs.Tree.{Forest, MessageTree, Tree, forest}
use Rattle.llrp_tree.specs.Lawful.{octets, levels, message_octets, tree_octets}
use Rattle.llrp_tree.specs.Spelling.{forest_digits}
use Rattle.llrp_tree.specs.Calls.HeadOctets.{parameter_start, message_start}

-- the first octets of digits, eight digits each
abbrev pub octets_in : ℕ → List Bool → List ℕ
octets_in zero ds = []
octets_in (suc n) ds = value (take 8 ds) ∷ octets_in n (drop 8 ds)

-- the octets of parameters in a row
unfoldable pub spelled : Forest → List ℕ
spelled f = octets_in (octets f) (forest_digits f)

-- what comes before the tail of a parameter
abbrev pub start_digits : Tree → List Bool
start_digits t = parameter_start t.kind (tree_octets t) t.fields t.tail

-- what comes before the tail and the parameters of a message
abbrev pub message_start_digits : MessageTree → List Bool
message_start_digits m = message_start m.version m.kind (message_octets m) m.id m.fields

-- what is left of a node that was begun: of the octets before its tail, and of the tail
abbrev pub unfinished : List ℕ → ℕ → List ℕ → List ℕ
unfinished start from tail = drop from start ++ tail

-- what is left of this node
abbrev pub rest_of : NodeRest → List ℕ
rest_of begun = unfinished begun.octets begun.from begun.tail.now

-- Lent rows that follow one another, the last one first.
abbrev pub following : List (Bor (List Tree)) → List ℕ
following [] = []
following (row ∷ rows) = following rows ++ spelled (forest row.now)

-- what is left of this node, and then the rows
abbrev pub still_owed : NodeRest → List (Bor (List Tree)) → List ℕ
still_owed begun rows = rest_of begun ++ following rows

-- No row is empty, and each fits below those before it.
abbrev pub AreDeep : ℕ → List (Bor (List Tree)) → Type 0
AreDeep depth [] = Unit {0}
AreDeep depth (row ∷ rows) = (0 < length row.now) × (depth + levels (forest row.now) ≤ MAX_DEPTH) × AreDeep (depth + 1) rows

-- The first `count` of the octets went to a buffer, to the places from `place` on.
pub record Moves (before after old new : List ℕ) (place count : ℕ) : Type 0 where
  pub moved : List ℕ
  pub counted : length moved ≡ count
  pub left : before ≡ moved ++ after
  pub fits : place + count ≤ length old
  pub copied : new ≡ take place old ++ (moved ++ drop (place + count) old)
