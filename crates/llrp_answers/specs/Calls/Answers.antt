-- A file of answers, and the messages that it has for a request.
use Rattle.std.specs.Prelude.{◌≡◌, ℕ, ◌+◌, ◌-◌, ◌^◌, min, ◌<◌, ◌==◌, ◌&&◌, Bool, true, if◌then◌else◌, List, [], ◌∷◌, length, map, count_by, Option, Some, None}
use Rattle.llrp_schema.specs.declared.kinds.KindSet.TheVariants.{Standard}
use Rattle.llrp_tree.specs.Tree.{MessageTree}
use Rattle.llrp_tree.specs.declared.TheConstants.{MAX_LIMIT}
use Rattle.llrp_listing.specs.declared.outcome.Refusal.{Refusal}
use Rattle.llrp_listing.specs.declared.outcome.Refusal.TheVariants as refusal
use Rattle.llrp_listing.specs.Lines.{words}
use Rattle.llrp_listing.specs.Calls.ListingLaws.{IsListing, IsRefused}
use Rattle.llrp_listing.specs.Calls.Splits.{Lacks, IsSplit}
use Rattle.llrp_texts.specs.declared.texts.TextErr.{TextErr}
use Rattle.llrp_texts.specs.declared.texts.TextErr.TheVariants.{Line, Memory}
use Rattle.llrp_answers.specs.declared.answers.Pair.{Pair}
use Rattle.llrp_answers.specs.Calls.Forms.{fits, form_refusal, message_words}

-- ---- what is answered

-- the same message under this id
abbrev pub under : ℕ → MessageTree → MessageTree
under id m = record m { id = id }

-- the messages of the first pair whose form stands for the request, under its id
abbrev pub answers_to : List Pair → MessageTree → Option (List MessageTree)
answers_to [] request = None
answers_to (p ∷ ps) request =
    if fits (words p.form.items) (message_words request) then Some (map (under request.id) p.messages.items) else answers_to ps request

-- ---- a file: lines that begin with ? (63), and listings; 10 is LF and 32 a space

-- the octets before the first such line, where a line begins here or does not
abbrev pub before_form : Bool → List ℕ → List ℕ
before_form starts [] = []
before_form starts (b ∷ bs) = if starts && (b == 63) then [] else (b ∷ before_form (b == 10) bs)

-- that line, and all after it
abbrev pub from_form : Bool → List ℕ → List ℕ
from_form starts [] = []
from_form starts (b ∷ bs) = if starts && (b == 63) then (b ∷ bs) else from_form (b == 10) bs

-- how many lines a text has, each with its LF
abbrev pub lines_in : List ℕ → ℕ
lines_in text = count_by (λ b. b == 10) text

-- The text begins with a line `? FORM`, of a form that may be, and then goes on.
pub record BeginsWithForm (text form after : List ℕ) : Type 0 where
  pub split : IsSplit 10 text (63 ∷ (32 ∷ form)) after
  pub lawful : form_refusal form ≡ None

-- The text begins with a pair, its form and the listing of its messages, and then there is this rest.
pub record BeginsWithPair (text : List ℕ) (p : Pair) (rest : List ℕ) : Type 0 where
  pub after : List ℕ
  pub form : BeginsWithForm text p.form.items after
  pub lists : IsListing Standard MAX_LIMIT (before_form true after) p.messages.items
  pub rest_is : rest ≡ from_form true after

-- the text is these pairs, one after another
pub data IsFile : List ℕ → List Pair → Type 0 where
  ends : IsFile [] []
  begins : (text rest : List ℕ) (p : Pair) (ps : List Pair) → BeginsWithPair text p rest → IsFile rest ps → IsFile text (p ∷ ps)

-- the text is refused at this line, counted from 1, for this reason
pub data IsRefusedFile : List ℕ → ℕ → Refusal → Type 0 where
  -- a line that has no LF
  unended : (text : List ℕ) → 0 < length text → Lacks 10 text → IsRefusedFile text 1 refusal.Line
  -- a line that does not begin with `? `
  no_form : (text line after : List ℕ) → IsSplit 10 text line after → ((form : List ℕ) → line ≡ 63 ∷ (32 ∷ form) → ⊥) → IsRefusedFile text 1 refusal.Line
  -- a form that may not be
  bad_form : (text form after : List ℕ) (reason : Refusal) → IsSplit 10 text (63 ∷ (32 ∷ form)) after → form_refusal form ≡ Some reason → IsRefusedFile text 1 reason
  -- a line of a listing, for the reason that `encode --all` has
  no_listing : (text form after : List ℕ) (ms : List MessageTree) (line : ℕ) (reason : Refusal) → BeginsWithForm text form after → IsRefused Standard MAX_LIMIT (before_form true after) line reason ms → IsRefusedFile text (1 + line) reason
  -- a line after a pair
  later : (text rest : List ℕ) (p : Pair) (line : ℕ) (reason : Refusal) (b : BeginsWithPair text p rest) → IsRefusedFile rest line reason → IsRefusedFile text (1 + lines_in (before_form true b.after) + line) reason

-- the text has no pairs, for this reason: by the rules of files, or since memory ran out; no text has as many lines as a u64 counts
abbrev pub RefusesFile : List ℕ → TextErr → Type 0
RefusesFile text (Line line reason) = (number : ℕ) × IsRefusedFile text number reason × (line ≡ min number (2 ^ 64 - 1))
RefusesFile text Memory = Unit {0}
