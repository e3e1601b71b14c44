-- The laws of answers.
use Rattle.std.specs.Prelude.{◌≡◌, ℕ, List, [], ◌∷◌, ◌++◌}
use Rattle.std.specs.List.{join_with_byte}
use Rattle.llrp_tree.specs.Tree.{MessageTree}
use Rattle.llrp_listing.specs.NodeLine.{IsLine, message_line}
use Rattle.llrp_answers.specs.Calls.Forms.{message_words}

-- the words of a message are those of its line in a listing: with a space (32) between two and an LF at the end they are that line
abbrev pub AreWordsOfLine : MessageTree → Type 0
AreWordsOfLine m = (line : List ℕ) → IsLine (0, message_line m) line → line ≡ join_with_byte 32 (message_words m) ++ (10 ∷ [])
