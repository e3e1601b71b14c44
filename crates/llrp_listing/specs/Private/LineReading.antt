-- What the functions that read a line promise.
use Rattle.std.specs.Prelude.{◌≡◌, ℕ, ◌+◌, ◌-◌, ◌*◌, ◌^◌, ◌<◌, ◌≤◌, ◌⊎◌, ◌&&◌, nat_le, Bool, List, [], ◌∷◌, ◌++◌, map, filter, not, decimal, Option, Some, None, Result, Ok, Err}
use Rattle.std.specs.Borrow.{Bor}
use Rattle.std.specs.List.{join_with_byte, list_any}
use Rattle.hex.specs.Hex.{encode_lower}
use Rattle.llrp_schema.specs.declared.kinds.MsgKind.{MsgKind}
use Rattle.llrp_schema.specs.declared.kinds.ParamKind.{ParamKind}
use Rattle.llrp_schema.specs.declared.kinds.Kind.{Kind}
use Rattle.llrp_schema.specs.declared.kinds.Kind.TheVariants.{Message, Parameter}
use Rattle.llrp_schema.specs.declared.kinds.KindSet.{KindSet}
use Rattle.llrp_schema.specs.declared.kinds.Tail.{Tail}
use Rattle.llrp_schema.specs.declared.kinds.Tail.TheVariants.{Words}
use Rattle.llrp_schema.specs.Schema.{FieldRule, name_of, set_of_kind, tail_of}
use Rattle.llrp_tree.specs.declared.TheConstants.{MAX_DEPTH}
use Rattle.llrp_tree.specs.Lawful.{AreOctets}
use Rattle.llrp_listing.specs.declared.outcome.Refusal.{Refusal}
use Rattle.llrp_listing.specs.declared.outcome.Refusal.TheVariants as refusal
use Rattle.llrp_listing.specs.declared.parse_line.Line.{Line}
use Rattle.llrp_listing.specs.declared.parse_line.Line.TheVariants as said
use Rattle.llrp_listing.specs.declared.parse_line.LineErr.{LineErr}
use Rattle.llrp_listing.specs.declared.parse_line.LineErr.TheVariants.{Refused, Memory}
use Rattle.llrp_listing.specs.declared.parse_line.MessageLine.{MessageLine}
use Rattle.llrp_listing.specs.declared.parse_line.ParameterLine.{ParameterLine}
use Rattle.llrp_listing.specs.declared.parse_line.LineStart.{LineStart}
use Rattle.llrp_listing.specs.OrderedChecks.{FirstFailing}
use Rattle.llrp_listing.specs.LineChecks.{SaysNode, IsOpenLevel, IsName, AreInForm, IsTailOf, HasLevel, HasName, tail_word_checks, body_checks, RefusesLineItself}
use Rattle.llrp_listing.specs.Lines.{Ended, words}
use Rattle.llrp_listing.specs.Private.Splits.{words_in}
use Rattle.llrp_tree.specs.Tree.{words_of}
use Rattle.llrp_listing.specs.NodeLine.{NodeLine, NumberForm, field_form, number_forms, AreNumberTexts, tail_texts, parameter_line}

-- what the plain ones of some fields are
abbrev pub forms_of : List FieldRule → List NumberForm
forms_of rules = map field_form (filter (λ rule. not rule.reserved) rules)

-- ---- the level and the name

abbrev pub IsLevel : ℕ → List ℕ → Option ℕ → Type 0
IsLevel depth w None = (level : ℕ) → w ≡ decimal level → level ≤ MAX_DEPTH → level ≤ depth → ⊥
IsLevel depth w (Some level) = (w ≡ decimal level) × (level ≤ MAX_DEPTH) × (level ≤ depth)

abbrev pub IsKindNamed : KindSet → ℕ → List ℕ → Option Kind → Type 0
IsKindNamed p level name None = (kind : Kind) → IsOpenLevel level kind → IsName p name kind → ⊥
IsKindNamed p level name (Some kind) = IsOpenLevel level kind × IsName p name kind

-- The words begin with a level and a name, and these words follow.
pub record Starts (p : KindSet) (depth : ℕ) (bytes : List ℕ) (start : LineStart) : Type 0 where
  pub deep : start.level ≤ MAX_DEPTH
  pub within : start.level ≤ depth
  pub placed : IsOpenLevel start.level start.kind
  pub own : set_of_kind start.kind ≡ p
  pub are : words bytes ≡ decimal start.level ∷ name_of start.kind ∷ words_in start.words

abbrev pub ReadsStart : KindSet → ℕ → List ℕ → Result LineStart Refusal → Type 0
ReadsStart p depth bytes (Ok start) = Starts p depth bytes start
ReadsStart p depth bytes (Err reason) = (¬ HasLevel depth (words bytes) × (reason ≡ refusal.Level)) ⊎ (HasLevel depth (words bytes) × ¬ HasName p (words bytes) × (reason ≡ refusal.Name))

-- ---- numbers

-- the digits of a number from 0 to 127, or of none
abbrev pub ReadsPositive : List ℕ → Result ℕ Refusal → Type 0
ReadsPositive ds (Ok n) = (n < 128) × (ds ≡ decimal n)
ReadsPositive ds (Err reason) = (reason ≡ refusal.Number) × ((n : ℕ) → n < 128 → ds ≡ decimal n → ⊥)

-- the digits of a number from 1 to 128, whose eight bits below zero are 256 less it, or of none
abbrev pub ReadsNegative : List ℕ → Result ℕ Refusal → Type 0
ReadsNegative ds (Ok n) = (128 ≤ n) × (n < 256) × (ds ≡ decimal (256 - n))
ReadsNegative ds (Err reason) = (reason ≡ refusal.Number) × ((n : ℕ) → 128 ≤ n → n < 256 → ds ≡ decimal (256 - n) → ⊥)

-- The first of the words are the texts of numbers of these forms.
pub record AreRead (forms : List NumberForm) (ws : List (List ℕ)) (numbers : List ℕ) (rest : List (List ℕ)) : Type 0 where
  pub texts : List (List ℕ)
  pub in_form : AreInForm forms numbers
  pub are : AreNumberTexts forms numbers texts
  pub words : ws ≡ texts ++ rest

-- the first of the words are read, and their numbers are appended
abbrev pub ReadsFields : List NumberForm → List (List ℕ) → List ℕ → List ℕ → Result (Option (Bor (List ℕ))) Refusal → Type 0
ReadsFields forms ws old new (Ok rest) = (numbers : List ℕ) × AreRead forms ws numbers (words_in rest) × (new ≡ old ++ numbers)
ReadsFields forms ws old new (Err reason) = (tail : Tail) → FirstFailing (body_checks forms tail ws) reason

-- ---- tails

-- the list is that of the words that the octets make, and this many octets make words
abbrev pub IsWordList : List ℕ → List ℕ → Type 0
IsWordList list tail = IsTailOf Words tail × (list ≡ join_with_byte 44 (map decimal (words_of tail)))

-- some byte is a capital letter
abbrev pub has_capital : List ℕ → Bool
has_capital bytes = list_any (λ b. nat_le 65 b && nat_le b 90) bytes

-- the digits are those of the octets
abbrev pub AreDigitsOf : List ℕ → List ℕ → Type 0
AreDigitsOf digits tail = AreOctets tail × (digits ≡ encode_lower tail)

-- the word is that of the tail
abbrev pub IsTailWord : Tail → List ℕ → List ℕ → Type 0
IsTailWord form w tail = IsTailOf form tail × (tail_texts form tail ≡ w ∷ [])

-- no octets are such ones, or memory ran out
abbrev pub IsNoTail : (List ℕ → Type 0) → LineErr → Type 0
IsNoTail IsSuch Memory = Unit {0}
IsNoTail IsSuch (Refused reason) = (reason ≡ refusal.Tail) × ((tail : List ℕ) → IsSuch tail → ⊥)

-- The octets of a word of 16 bits were appended.
pub record AppendsWord (w old new : List ℕ) : Type 0 where
  pub high : ℕ
  pub low : ℕ
  pub high_octet : high < 256
  pub low_octet : low < 256
  pub word : w ≡ decimal (256 * high + low)
  pub more : new ≡ old ++ (high ∷ low ∷ [])

-- the word is no word of 16 bits, or memory ran out
abbrev pub IsNoWord : List ℕ → LineErr → Type 0
IsNoWord w Memory = Unit {0}
IsNoWord w (Refused reason) = (reason ≡ refusal.Tail) × ((n : ℕ) → n < 2 ^ 16 → w ≡ decimal n → ⊥)

-- what is read of the words after the numbers
abbrev pub ReadsRest : Tail → List (List ℕ) → Result (List ℕ) LineErr → Type 0
ReadsRest form ws (Ok tail) = IsTailOf form tail × (ws ≡ tail_texts form tail)
ReadsRest form ws (Err Memory) = Unit {0}
ReadsRest form ws (Err (Refused reason)) = FirstFailing (tail_word_checks form ws) reason

-- ---- lines

-- what is on the line of a message or of a parameter
abbrev pub message_node : MessageLine → NodeLine
message_node line = record { kind = Message line.kind; numbers = line.version ∷ line.id ∷ line.fields.items; tail = line.tail }

abbrev pub parameter_node : ParameterLine → NodeLine
parameter_node line = parameter_line line.kind line.fields.items line.tail

-- The words are those of a message's line.
pub record IsMessageRead (kind : MsgKind) (ws : List (List ℕ)) (line : MessageLine) : Type 0 where
  pub kind_is : line.kind ≡ kind
  pub tail : IsTailOf (tail_of (Message kind)) line.tail
  pub numbers : AreRead (number_forms (Message kind)) ws (line.version ∷ line.id ∷ line.fields.items) (tail_texts (tail_of (Message kind)) line.tail)

abbrev pub ReadsMessage : MsgKind → List (List ℕ) → Result MessageLine LineErr → Type 0
ReadsMessage kind ws (Ok line) = IsMessageRead kind ws line
ReadsMessage kind ws (Err Memory) = Unit {0}
ReadsMessage kind ws (Err (Refused reason)) = FirstFailing (body_checks (number_forms (Message kind)) (tail_of (Message kind)) ws) reason

-- The words are those of a parameter's line.
pub record IsParameterRead (level : ℕ) (kind : ParamKind) (ws : List (List ℕ)) (line : ParameterLine) : Type 0 where
  pub level_is : line.level ≡ level
  pub kind_is : line.kind ≡ kind
  pub tail : IsTailOf (tail_of (Parameter kind)) line.tail
  pub numbers : AreRead (number_forms (Parameter kind)) ws line.fields.items (tail_texts (tail_of (Parameter kind)) line.tail)

abbrev pub ReadsParameter : ℕ → ParamKind → List (List ℕ) → Result ParameterLine LineErr → Type 0
ReadsParameter level kind ws (Ok line) = IsParameterRead level kind ws line
ReadsParameter level kind ws (Err Memory) = Unit {0}
ReadsParameter level kind ws (Err (Refused reason)) = FirstFailing (body_checks (number_forms (Parameter kind)) (tail_of (Parameter kind)) ws) reason

-- what a line says, and that this many open lines allow its level
abbrev pub SaidIs : KindSet → ℕ → List ℕ → Line → Type 0
SaidIs p depth bytes (said.Message line) = SaysNode p bytes 0 (message_node line)
SaidIs p depth bytes (said.Parameter line) = SaysNode p bytes line.level (parameter_node line) × (line.level ≤ depth)

abbrev pub ReadsLine : KindSet → ℕ → List ℕ → Result Line LineErr → Type 0
ReadsLine p depth bytes (Ok line) = SaidIs p depth bytes line
ReadsLine p depth bytes (Err Memory) = Unit {0}
ReadsLine p depth bytes (Err (Refused reason)) = RefusesLineItself p depth (Ended bytes) reason
