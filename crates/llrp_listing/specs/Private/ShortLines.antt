-- Lines that are read once, from left to right.
use Rattle.std.specs.Prelude.{◌≡◌, ◌≤◌, ℕ, List, [], ◌∷◌, ◌++◌, drop}
use Rattle.llrp_schema.specs.declared.kinds.ParamKind.{ParamKind}
use Rattle.llrp_schema.specs.declared.kinds.Kind.TheVariants as kinds
use Rattle.llrp_schema.specs.declared.kinds.Tail.TheVariants.{Absent}
use Rattle.llrp_schema.specs.Schema.{tail_of}
use Rattle.llrp_schema.specs.Calls.Schema.{field_rule}
use Rattle.llrp_tree.specs.Calls.HeadOctets.{IsOnlyField}
use Rattle.llrp_listing.specs.declared.encode.value_line.ValueLine.{ValueLine}
use Rattle.llrp_listing.specs.declared.encode.read_short_line.ShortLine.{ShortLine}
use Rattle.llrp_listing.specs.declared.encode.read_short_line.ShortLine.TheVariants.{Message, Bare, Number}
use Rattle.llrp_listing.specs.LineChecks.{AreInForm}
use Rattle.llrp_listing.specs.NodeLine.{AreNumberTexts, NodeLine, NumberForm, number_forms, parameter_line, spaced}

-- the level of what a line says, and what it says
abbrev pub short_level : ShortLine → ℕ
short_level (Message kind version id) = 0
short_level (Bare level kind) = level
short_level (Number level kind number) = level

abbrev pub short_node : ShortLine → NodeLine
short_node (Message kind version id) = record { kind = kinds.Message kind; numbers = version ∷ id ∷ []; tail = [] }
short_node (Bare level kind) = parameter_line kind [] []
short_node (Number level kind number) = parameter_line kind (number ∷ []) []

-- what the line of a value says
abbrev pub value_node : ValueLine → NodeLine
value_node line = parameter_line line.kind (line.value ∷ []) []

-- The value passes the test of its kind's one field.
pub record IsFitting (line : ValueLine) : Type 0 where
  pub rule : IsOnlyField line.kind (field_rule line.rule.now)
  pub fits : line.value ≤ line.rule.now.greatest

-- The words are the texts of all numbers of a parameter's line, which has no tail.
pub record AreAllNumbers (kind : ParamKind) (ws : List (List ℕ)) (numbers : List ℕ) : Type 0 where
  pub in_form : AreInForm (number_forms (kinds.Parameter kind)) numbers
  pub are : AreNumberTexts (number_forms (kinds.Parameter kind)) numbers ws
  pub no_tail : tail_of (kinds.Parameter kind) ≡ Absent

-- From a place of a line up to another there are the texts of numbers, with a space before each, and the numbers were appended.
pub record AreSpaced (forms : List NumberForm) (line : List ℕ) (from end : ℕ) (old new : List ℕ) : Type 0 where
  pub words : List (List ℕ)
  pub numbers : List ℕ
  pub added : new ≡ old ++ numbers
  pub in_form : AreInForm forms numbers
  pub are : AreNumberTexts forms numbers words
  pub text : drop from line ≡ spaced words ++ drop end line
