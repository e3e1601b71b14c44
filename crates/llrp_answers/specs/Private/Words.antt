-- Beside Calls: words of private functions.
use Rattle.std.specs.Prelude.{◌≡◌, ◌≤◌, ℕ, ◌+◌, ◌-◌, ◌^◌, min, true, not, List, [], ◌∷◌, length, filter, Option, Some, None, Result, Ok, Err}
use Rattle.std.specs.Borrow.{Bor}
use Rattle.llrp_listing.specs.declared.outcome.Refusal.{Refusal}
use Rattle.llrp_answers.specs.Calls.Answers.{BeginsWithForm, BeginsWithPair, IsRefusedFile, before_form, lines_in}
use Rattle.llrp_answers.specs.declared.answers.Pair.{Pair}
use Rattle.llrp_schema.specs.Schema.{FieldRule}
use Rattle.llrp_listing.specs.Lines.{words}
use Rattle.llrp_texts.specs.declared.texts.TextErr.{TextErr}
use Rattle.llrp_texts.specs.declared.texts.TextErr.TheVariants.{Line, Memory}

-- the words that are left, if some are
abbrev pub words_in : Option (Bor (List ℕ)) → List (List ℕ)
words_in None = []
words_in (Some rest) = words rest.now

-- those fields that are not reserved
abbrev pub plain : List FieldRule → List FieldRule
plain rules = filter (λ rule. not rule.reserved) rules

-- an error at a line that comes after this many
abbrev pub later_by : ℕ → TextErr → TextErr
later_by lines (Line line reason) = Line (min (lines + line) (2 ^ 64 - 1)) reason
later_by lines Memory = Memory

-- the line does not begin with ? (63) and a space (32)
abbrev pub HasNoForm : List ℕ → Type 0
HasNoForm line = (form : List ℕ) → line ≡ 63 ∷ (32 ∷ form) → ⊥

-- The text begins with this pair, which has this many lines, and then there is this rest.
pub record IsNextPair (text : List ℕ) (p : Pair) (lines : ℕ) (rest : List ℕ) : Type 0 where
  pub begins : BeginsWithPair text p rest
  pub lines_are : lines ≡ 1 + lines_in (before_form true begins.after)
  pub few : lines + length rest ≤ length text

-- the form of the first line of a text and what is after it, or why the text is refused there
abbrev pub ReadsForm : List ℕ → Result (Bor (List ℕ) × Bor (List ℕ)) Refusal → Type 0
ReadsForm text (Ok (form, after)) = BeginsWithForm text form.now after.now
ReadsForm text (Err reason) = IsRefusedFile text 1 reason
