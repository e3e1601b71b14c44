-- The listing of an open tree: of a message of which not all is read.
use Rattle.std.specs.Prelude.{◌≡◌, ℕ, ◌+◌, List, [], ◌∷◌, ◌++◌, length, decimal, Option, Some, None, IfSome}
use Rattle.llrp_schema.specs.declared.kinds.Tail.{Tail}
use Rattle.llrp_schema.specs.Schema.{name_of}
use Rattle.llrp_tree.specs.Tree.{none}
use Rattle.llrp_tree.specs.Spelling.{Head, message, tlv, tv}
use Rattle.llrp_tree.specs.OpenTree.{Begun, kind_of_head, plain_values, rules, form}
use Rattle.llrp_listing.specs.NodeLine.{NumberForm, number_forms, IsNumberText, tail_texts, spaced}
use Rattle.llrp_listing.specs.MessageListing.{AreLines, parameter_lines}
use Rattle.llrp_listing.specs.Private.Tails.{AreTold}

-- the texts of the first numbers of a line
abbrev pub AreFirstTexts : List NumberForm → List ℕ → List (List ℕ) → Type 0
AreFirstTexts forms [] [] = Unit {0}
AreFirstTexts (f ∷ fs) (n ∷ ns) (w ∷ ws) = IsNumberText f n w × AreFirstTexts fs ns ws
AreFirstTexts _ _ _ = ⊥

-- the numbers that are read of a begun node's line
abbrev pub first_numbers : Head → List ℕ → List ℕ
first_numbers (message version kind octets id) plain = version ∷ id ∷ plain
first_numbers (tlv kind octets) plain = plain
first_numbers (tv kind) plain = plain

-- the numbers that are read of a begun node
abbrev pub numbers_of : Begun → List ℕ
numbers_of b = first_numbers b.head (plain_values (rules b) b.fields)

-- the text of the octets of a tail that are read, where the tail is begun
abbrev pub read_texts : Tail → Option (List ℕ) → List (List ℕ)
read_texts form None = []
read_texts form (Some octets) = tail_texts form octets

-- The line of a begun node as far as it is read, without its LF.
pub record IsBegunLine (level : ℕ) (b : Begun) (text : List ℕ) : Type 0 where
  pub words : List (List ℕ)
  pub are : AreFirstTexts (number_forms (kind_of_head b.head)) (numbers_of b) words
  pub text_is : text ≡ (decimal level ++ spaced (name_of (kind_of_head b.head) ∷ [])) ++ (spaced words ++ spaced (read_texts (form b) b.tail))
  pub told : IfSome b.tail (λ octets. AreTold (form b) octets)

-- the lines of an open tree whose innermost node has its leading parts
abbrev pub Opened : List Begun → List ℕ → Type 0
Opened [] text = text ≡ []
Opened (b ∷ outer) text =
    (above line below : List ℕ) × Opened outer above × IsBegunLine (length outer) b line × AreLines (parameter_lines (length outer + 1) b.children) below × (text ≡ above ++ ((line ++ 10 ∷ []) ++ below))

-- the lines of an open tree, of which the innermost node's line is not ended
abbrev pub Begins : List Begun → List ℕ → Type 0
Begins [] text = ⊥
Begins (b ∷ outer) text = (above line : List ℕ) × Opened outer above × IsBegunLine (length outer) b line × (b.children ≡ none) × (text ≡ above ++ line)
