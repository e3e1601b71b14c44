-- The frame of a message.
use Rattle.std.specs.Prelude.{◌≡◌, ℕ, ◌≤◌, List, length}
use Rattle.tag_bits.specs.Digits.{digits_of_bytes}
use Rattle.llrp_tree.specs.Tree.{MessageTree}
use Rattle.llrp_tree.specs.Lawful.{IsLawfulMessage, AreOctets}
use Rattle.llrp_tree.specs.Spelling.{message_digits}

-- The bytes are those of the lawful message, and at most `limit`.
pub record Frame (m : MessageTree) (bytes : List ℕ) (limit : ℕ) : Type 0 where
  pub lawful : IsLawfulMessage m
  pub octets : AreOctets bytes
  pub spelled : digits_of_bytes bytes ≡ message_digits m
  pub short : length bytes ≤ limit
