-- The names and the types of the members of an object, which come in any order (RFC 8259, section 4), and the first member at which an object is refused.
use Rattle.std.specs.Prelude.{ℕ, ◌==◌, nat_lt, not, ◌&&◌, ◌||◌, is_some, Bool, true, false, List, [], ◌∷◌, Option, Some, None, bytes_eq, count_by, find, option_map, unwrap_or}
use Rattle.std.specs.Char.{is_ascii_digit}
use Rattle.std.specs.List.{list_all, list_any}
use Rattle.json.specs.Find.{as_array, as_number, as_str, get}
use Rattle.json.specs.Json.{Json, Items, no_items, item, Members}
use Rattle.json.specs.Strict.{keys}
use Rattle.llrp_json_read.specs.declared.names.Shape.{Shape}
use Rattle.llrp_json_read.specs.declared.names.Shape.TheVariants.{Text, Integer, Integers, Array}
use Rattle.llrp_json_read.specs.declared.refusal.Reason.{Reason}
use Rattle.llrp_json_read.specs.declared.refusal.Reason.TheVariants.{Unknown, Missing, Twice, Mistyped}

-- a member that an object has: its name, what its value is, and whether it may be left out
pub record MemberRule : Type 0 where
  pub name : List ℕ
  pub shape : Shape
  pub optional : Bool

-- ---- the types of values

-- a number of JSON that has neither a fraction nor an exponent: digits, and perhaps a minus (45) before them (section 6)
abbrev pub is_integer : List ℕ → Bool
is_integer text = list_all (λ c. is_ascii_digit c || (c == 45)) text

-- the value is such a number
abbrev pub is_whole : Json → Bool
is_whole j = unwrap_or (option_map is_integer (as_number j)) false

abbrev pub are_whole : Items → Bool
are_whole no_items = true
are_whole (item j js) = is_whole j && are_whole js

-- the value is a string, a whole number, an array of whole numbers, or an array
abbrev pub has_shape : Shape → Json → Bool
has_shape Text j = is_some (as_str j)
has_shape Integer j = is_whole j
has_shape Integers j = unwrap_or (option_map are_whole (as_array j)) false
has_shape Array j = is_some (as_array j)

-- ---- the first member at which an object is refused

-- how many members have the name
abbrev pub count_of : List ℕ → Members → ℕ
count_of name ms = count_by (λ key. bytes_eq key name) (keys ms)

-- the first member that is none of those that the object has
abbrev pub unknown : Members → List MemberRule → Option (List ℕ)
unknown ms rules = find (λ key. not (list_any (λ rule. bytes_eq rule.name key) rules)) (keys ms)

-- the first that is not there and may not be left out
abbrev pub missing : Members → List MemberRule → Option MemberRule
missing ms rules = find (λ rule. not rule.optional && (count_of rule.name ms == 0)) rules

-- the first that is there twice or more
abbrev pub twice : Members → List MemberRule → Option MemberRule
twice ms rules = find (λ rule. nat_lt 1 (count_of rule.name ms)) rules

-- the first whose value is of another type
abbrev pub mistyped : Json → List MemberRule → Option MemberRule
mistyped j rules = find (λ rule. not (unwrap_or (option_map (has_shape rule.shape) (get rule.name j)) true)) rules

-- the first name that is there, with its reason
abbrev pub first_named : List (Option (List ℕ) × Reason) → Option (List ℕ × Reason)
first_named [] = None
first_named ((None, reason) ∷ rest) = first_named rest
first_named ((Some name, reason) ∷ rest) = Some (name, reason)

-- the name of a rule that was found
abbrev pub name_in : Option MemberRule → Option (List ℕ)
name_in found = option_map (λ rule. rule.name) found

-- the member at which an object is refused that should have these members, and the reason
abbrev pub member_fault : Json → Members → List MemberRule → Option (List ℕ × Reason)
member_fault j ms rules = first_named ((unknown ms rules, Unknown) ∷ (name_in (missing ms rules), Missing) ∷ (name_in (twice ms rules), Twice) ∷ (name_in (mistyped j rules), Mistyped) ∷ [])
