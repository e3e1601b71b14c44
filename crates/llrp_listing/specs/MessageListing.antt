-- The listing of messages: a line for each message and each parameter, parents before their children.
use Rattle.std.specs.Prelude.{◌≡◌, ℕ, suc, List, [], ◌∷◌, ◌++◌}
use Rattle.std.specs.List.{flat_map, AllZip}
use Rattle.llrp_tree.specs.Tree.{Forest, none, and, MessageTree}
use Rattle.llrp_listing.specs.NodeLine.{NodeLine, message_line, parameter_line, IsLine}

-- the lines of parameters in a row that are at a level, each before those of its children
abbrev pub parameter_lines : ℕ → Forest → List (ℕ × NodeLine)
parameter_lines level none = []
parameter_lines level (and before kind fields tail children) =
    parameter_lines level before ++ ((level, parameter_line kind fields tail) ∷ parameter_lines (suc level) children)

-- the lines of a message, which is at level 0
abbrev pub message_lines : MessageTree → List (ℕ × NodeLine)
message_lines m = (0, message_line m) ∷ parameter_lines 1 m.children

-- the lines of messages in order
abbrev pub messages_lines : List MessageTree → List (ℕ × NodeLine)
messages_lines messages = flat_map message_lines messages

-- the texts of lines, one after another
pub record AreLines (lines : List (ℕ × NodeLine)) (text : List ℕ) : Type 0 where
  pub texts : List (List ℕ)
  pub each : AllZip IsLine lines texts
  pub text_is : text ≡ flat_map (λ line. line) texts

-- the text is the listing of these messages
abbrev pub IsListingOf : List MessageTree → List ℕ → Type 0
IsListingOf messages text = AreLines (messages_lines messages) text
