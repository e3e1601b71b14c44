-- How the word of a tail grows.
use Rattle.std.specs.Prelude.{◌≡◌, ℕ, ◌*◌, List, ◌++◌, length}
use Rattle.llrp_schema.specs.declared.kinds.Tail.{Tail}
use Rattle.llrp_schema.specs.declared.kinds.Tail.TheVariants.{Absent, Words, Text, Bits, Data}
use Rattle.llrp_tree.specs.Lawful.{AreOctets}
use Rattle.llrp_listing.specs.NodeLine.{spaced, tail_texts, word_list_text}

-- octets of a tail that were received: of a list of words they are whole words
abbrev pub AreTold : Tail → List ℕ → Type 0
AreTold Absent octets = Unit {0}
AreTold Words octets = AreOctets octets × ((n : ℕ) × (length octets ≡ 2 * n))
AreTold Text octets = Unit {0}
AreTold Bits octets = Unit {0}
AreTold Data octets = Unit {0}

-- a text that ends with a list of words ends with the list of some octets more
abbrev pub MoreWords : List ℕ → List ℕ → List ℕ → Type 0
MoreWords old new octets = (front before : List ℕ) (n : ℕ) → AreOctets before → length before ≡ 2 * n → old ≡ front ++ word_list_text before → new ≡ front ++ word_list_text (before ++ octets)

-- a text that ends with the word of a tail ends with the word of some octets more
abbrev pub MoreTail : Tail → List ℕ → List ℕ → List ℕ → Type 0
MoreTail form old new octets = (front before : List ℕ) → AreTold form before → old ≡ front ++ spaced (tail_texts form before) → new ≡ front ++ spaced (tail_texts form (before ++ octets))
