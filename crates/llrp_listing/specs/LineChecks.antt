-- What a line of a listing says, and why one is refused by itself.
use Rattle.std.specs.Prelude.{◌≡◌, ◌≢◌, ◌⊎◌, ◌<◌, ◌≤◌, ℕ, ◌+◌, ◌*◌, ◌^◌, nat_le, ◌&&◌, IsTrue, Bool, List, [], ◌∷◌, ◌++◌, length, drop, get_or, decimal}
use Rattle.std.specs.List.{list_all}
use Rattle.llrp_schema.specs.declared.kinds.Kind.{Kind}
use Rattle.llrp_schema.specs.declared.kinds.Kind.TheVariants.{Message, Parameter}
use Rattle.llrp_schema.specs.declared.kinds.KindSet.{KindSet}
use Rattle.llrp_schema.specs.declared.kinds.KindSet.TheVariants.{Profile, Standard}
use Rattle.llrp_schema.specs.declared.kinds.Tail.{Tail}
use Rattle.llrp_schema.specs.declared.kinds.Tail.TheVariants.{Absent, Words, Text, Bits, Data}
use Rattle.llrp_schema.specs.Schema.{name_of, set_of_kind, tail_of}
use Rattle.llrp_tree.specs.declared.TheConstants.{MAX_DEPTH}
use Rattle.llrp_tree.specs.Lawful.{AreOctets}
use Rattle.tag_uri.specs.declared.fault.UriFault.{UriFault}
use Rattle.tag_uri.specs.TagText.{HasTextFault}
use Rattle.llrp_listing.specs.declared.outcome.Refusal.{Refusal}
use Rattle.llrp_listing.specs.declared.outcome.Refusal.TheVariants as refusal
use Rattle.llrp_listing.specs.declared.parse_line.TheConstants.{LONGEST_LINE, LONGEST_WHOLE_LINE}
use Rattle.llrp_listing.specs.OrderedChecks.{LineCheck, line_check, FirstFailing, AllHold}
use Rattle.llrp_listing.specs.Lines.{TextLine, Ended, Unended, words}
use Rattle.llrp_listing.specs.NodeLine.{NodeLine, NumberForm, Version, Id, Unsigned, Signed, Epc, number_forms, IsNumberText, tail_texts, IsLine}

-- each byte is a space or a printed ASCII character
abbrev pub is_printed : List ℕ → Bool
is_printed bytes = list_all (λ b. nat_le 32 b && nat_le b 126) bytes

-- the word at a place, empty past the last
abbrev pub word : List (List ℕ) → ℕ → List ℕ
word ws place = get_or ws place []

-- ---- what a line says

-- a message is at level 0, a parameter below one
abbrev pub IsOpenLevel : ℕ → Kind → Type 0
IsOpenLevel level (Message kind) = level ≡ 0
IsOpenLevel level (Parameter kind) = 1 ≤ level

-- what a number of each form may be: version 1 or 2, an id of 32 bits, a field of at most 20 decimal digits, one of 8 bits, a word of 96
abbrev pub IsInForm : NumberForm → ℕ → Type 0
IsInForm Version n = (n ≡ 1) ⊎ (n ≡ 2)
IsInForm Id n = n < 2 ^ 32
IsInForm Unsigned n = n < 10 ^ 20
IsInForm Signed n = n < 2 ^ 8
IsInForm Epc n = n < 2 ^ 96

-- a number for each form, and of that form
abbrev pub AreInForm : List NumberForm → List ℕ → Type 0
AreInForm [] [] = Unit {0}
AreInForm (f ∷ fs) (n ∷ ns) = IsInForm f n × AreInForm fs ns
AreInForm _ _ = ⊥

-- octets that a word can mean, two for each word of 16 bits
abbrev pub IsTailOf : Tail → List ℕ → Type 0
IsTailOf Absent tail = tail ≡ []
IsTailOf Words tail = AreOctets tail × ((n : ℕ) × (length tail ≡ 2 * n))
IsTailOf Text tail = AreOctets tail
IsTailOf Bits tail = AreOctets tail
IsTailOf Data tail = AreOctets tail

-- the most bytes of a line before its LF: a message of all of LLRP 1.1 may have data
abbrev pub longest : KindSet → ℕ
longest Profile = LONGEST_LINE
longest Standard = LONGEST_WHOLE_LINE

-- The bytes, with the LF after them, are the text of a line of a set of kinds at this level.
pub record SaysNode (p : KindSet) (bytes : List ℕ) (level : ℕ) (line : NodeLine) : Type 0 where
  pub short : length bytes ≤ longest p
  pub deep : level ≤ MAX_DEPTH
  pub placed : IsOpenLevel level line.kind
  pub own : set_of_kind line.kind ≡ p
  pub numbers : AreInForm (number_forms line.kind) line.numbers
  pub tail : IsTailOf (tail_of line.kind) line.tail
  pub text : IsLine (level, line) (bytes ++ (10 ∷ []))

-- an ended line says a message or a parameter, and its level
abbrev pub SaysLine : KindSet → TextLine → ℕ × NodeLine → Type 0
SaysLine p (Ended bytes) e = SaysNode p bytes e.0 e.1
SaysLine p (Unended bytes) e = ⊥

-- ---- the checks of an ended line, in the order in which they are made

-- the first word is a level that the open lines allow
abbrev pub HasLevel : ℕ → List (List ℕ) → Type 0
HasLevel depth ws = (level : ℕ) × (word ws 0 ≡ decimal level) × (level ≤ MAX_DEPTH) × (level ≤ depth)

-- the word is the name of a kind of the set
abbrev pub IsName : KindSet → List ℕ → Kind → Type 0
IsName p w kind = (set_of_kind kind ≡ p) × (w ≡ name_of kind)

-- the second word is the kind's name: at level 0 a message's, and at any other a parameter's
abbrev pub IsNamed : KindSet → List (List ℕ) → Kind → Type 0
IsNamed p ws (Message kind) = (word ws 0 ≡ decimal 0) × IsName p (word ws 1) (Message kind)
IsNamed p ws (Parameter kind) = (word ws 0 ≢ decimal 0) × IsName p (word ws 1) (Parameter kind)

abbrev pub HasName : KindSet → List (List ℕ) → Type 0
HasName p ws = (kind : Kind) × IsNamed p ws kind

-- the checks up to the name, where this many lines are open
abbrev pub start_checks : KindSet → ℕ → List ℕ → List (LineCheck Refusal)
start_checks p depth bytes =
    line_check ((length bytes ≤ longest p) × IsTrue (is_printed bytes)) refusal.Line
    ∷ line_check (HasLevel depth (words bytes)) refusal.Level
    ∷ line_check (HasName p (words bytes)) refusal.Name
    ∷ []

-- the word of a tail, if the kind has one
abbrev pub tail_count : Tail → ℕ
tail_count Absent = 0
tail_count Words = 1
tail_count Text = 1
tail_count Bits = 1
tail_count Data = 1

-- how many words the line of a kind has: level, name, numbers and tail
abbrev pub word_count : Kind → ℕ
word_count kind = 2 + (length (number_forms kind) + tail_count (tail_of kind))

-- the word is the text of a number of the form
abbrev pub HasNumber : NumberForm → List ℕ → Type 0
HasNumber form w = (n : ℕ) × IsInForm form n × IsNumberText form n w

-- the word is no text of any 96-bit word, and this rule is the first to refuse it
abbrev pub TellsEpc : List ℕ → Refusal → Type 0
TellsEpc w reason = (fault : UriFault) × (reason ≡ refusal.Epc fault) × HasTextFault w fault

-- the reason that is given for a word that is no number of the form
abbrev pub TellsNumber : NumberForm → List ℕ → Refusal → Type 0
TellsNumber Version w reason = reason ≡ refusal.Number
TellsNumber Id w reason = reason ≡ refusal.Number
TellsNumber Unsigned w reason = reason ≡ refusal.Number
TellsNumber Signed w reason = reason ≡ refusal.Number
TellsNumber Epc w reason = TellsEpc w reason

-- the word is the text of a tail
abbrev pub HasTail : Tail → List ℕ → Type 0
HasTail form w = (tail : List ℕ) × IsTailOf form tail × (tail_texts form tail ≡ w ∷ [])

-- the word of the tail
abbrev pub tail_word_checks : Tail → List (List ℕ) → List (LineCheck Refusal)
tail_word_checks form [] = []
tail_word_checks form (w ∷ ws) = line_check (HasTail form w) refusal.Tail ∷ []

-- the words from left to right
abbrev pub body_checks : List NumberForm → Tail → List (List ℕ) → List (LineCheck Refusal)
body_checks [] form ws = tail_word_checks form ws
body_checks (f ∷ fs) form [] = []
body_checks (f ∷ fs) form (w ∷ ws) = record { Holds = HasNumber f w; Tells = TellsNumber f w } ∷ body_checks fs form ws

-- the checks after the name
abbrev pub name_checks : Kind → List (List ℕ) → List (LineCheck Refusal)
name_checks kind ws = line_check (length ws ≡ word_count kind) refusal.Fields ∷ body_checks (number_forms kind) (tail_of kind) (drop 2 ws)

-- The line passes the checks up to the name, and fails one after it.
pub record RefusesBody (p : KindSet) (depth : ℕ) (bytes : List ℕ) (reason : Refusal) : Type 0 where
  pub starts : AllHold (start_checks p depth bytes)
  pub kind : Kind
  pub named : IsNamed p (words bytes) kind
  pub fails : FirstFailing (name_checks kind (words bytes)) reason

-- the line is refused by itself, where this many lines are open
abbrev pub RefusesLineItself : KindSet → ℕ → TextLine → Refusal → Type 0
RefusesLineItself p depth (Ended bytes) reason = FirstFailing (start_checks p depth bytes) reason ⊎ RefusesBody p depth bytes reason
RefusesLineItself p depth (Unended bytes) reason = reason ≡ refusal.Line
