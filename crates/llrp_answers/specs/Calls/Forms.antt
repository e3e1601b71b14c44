-- Forms of requests: the line of a request as `show --all` prints it, where a word may be *, which stands for any.
use Rattle.std.specs.Prelude.{ℕ, ◌+◌, ◌==◌, nat_eq, ◌&&◌, ◌||◌, Bool, true, false, if◌then◌else◌, List, [], ◌∷◌, ◌++◌, length, map, codes, decimal, Option, Some, None}
use Rattle.std.specs.Cmp.Lexicographic.{pointwise}
use Rattle.hex.specs.Hex.{encode_lower}
use Rattle.llrp_schema.specs.declared.kinds.Kind.{Kind}
use Rattle.llrp_schema.specs.declared.kinds.Kind.TheVariants.{Message}
use Rattle.llrp_schema.specs.declared.kinds.KindSet.TheVariants.{Standard}
use Rattle.llrp_schema.specs.declared.kinds.MsgKind.{MsgKind}
use Rattle.llrp_schema.specs.declared.kinds.Tail.{Tail}
use Rattle.llrp_schema.specs.declared.kinds.Tail.TheVariants.{Absent}
use Rattle.llrp_schema.specs.Schema.{name_of, plain_fields_of, tail_of}
use Rattle.llrp_schema.specs.Calls.Schema.{message_named_in}
use Rattle.llrp_tree.specs.Tree.{MessageTree}
use Rattle.llrp_listing.specs.declared.outcome.Refusal.{Refusal}
use Rattle.llrp_listing.specs.declared.outcome.Refusal.TheVariants.{Level, Name, Fields}
use Rattle.llrp_listing.specs.Lines.{words}

-- ---- the words of a message's line: its level, its name, its version and id, its fields and its data in hexadecimal; 120 is x

abbrev pub words_of_tail : Tail → List ℕ → List (List ℕ)
words_of_tail Absent octets = []
words_of_tail _ octets = (120 ∷ encode_lower octets) ∷ []

abbrev pub tail_words : Kind → List ℕ → List (List ℕ)
tail_words kind octets = words_of_tail (tail_of kind) octets

abbrev pub message_words : MessageTree → List (List ℕ)
message_words m =
    decimal 0 ∷ (name_of (Message m.kind) ∷ (decimal m.version ∷ (decimal m.id ∷ (map decimal m.fields ++ tail_words (Message m.kind) m.tail))))

-- ---- which lines a form stands for

-- the word is *, or the same
abbrev pub word_fits : (form word : List ℕ) → Bool
word_fits form word = pointwise nat_eq form (codes "*") || pointwise nat_eq form word

-- word by word
unfoldable pub fits : (form line : List (List ℕ)) → Bool
fits [] [] = true
fits [] (w ∷ ws) = false
fits (f ∷ fs) [] = false
fits (f ∷ fs) (w ∷ ws) = word_fits f w && fits fs ws

-- ---- which lines are forms

-- how many words the line of a message has
abbrev pub word_count : MsgKind → ℕ
word_count kind = 4 + length (plain_fields_of (Message kind)) + length (tail_words (Message kind) [])

abbrev pub counted : List (List ℕ) → Option MsgKind → Option Refusal
counted words None = Some Name
counted words (Some kind) = if length words == word_count kind then None else Some Fields

-- why words are no form: the first is not 0, the second is no message's name, or they are not as many as its line has
abbrev pub words_refusal : List (List ℕ) → Option Refusal
words_refusal [] = Some Level
words_refusal (level ∷ []) = if pointwise nat_eq level (codes "0") then Some Name else Some Level
words_refusal (level ∷ (name ∷ more)) = if pointwise nat_eq level (codes "0") then counted (level ∷ (name ∷ more)) (message_named_in Standard name) else Some Level

abbrev pub form_refusal : List ℕ → Option Refusal
form_refusal line = words_refusal (words line)
