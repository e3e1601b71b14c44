-- Parameters that are there as trees.
use Rattle.std.specs.Prelude.{◌≡◌, ℕ, ◌^◌, ◌<◌, not, true, List, ◌∷◌, ◌++◌, codes, filter}
use Rattle.std.specs.List.{list_all}
use Rattle.llrp_schema.specs.declared.kinds.Kind.TheVariants.{Parameter}
use Rattle.llrp_schema.specs.Schema.{FieldRule, name_of, plain_fields_of, tail_of}
use Rattle.llrp_tree.specs.Tree.{Tree}
use Rattle.llrp_json.specs.JsonValues.{member, object, string}
use Rattle.llrp_json.specs.JsonItems.{AreFields, AreParameters, parameters_members, tail_members}
use Rattle.llrp_json.specs.Private.PlainStrings.{is_plain}

-- A field whose values fit its width, which is 8 if it is signed, and of whose name no octet needs an escape.
pub record IsPrintable (rule : FieldRule) : Type 0 where
  pub fits : rule.greatest < 2 ^ rule.width
  pub signed : rule.signed ≡ true → rule.width ≡ 8
  pub named : list_all is_plain rule.name ≡ true

-- of some fields those that are not reserved
abbrev pub plain : List FieldRule → List FieldRule
plain rules = filter (λ rule. not rule.reserved) rules

-- the member that names a parameter
abbrev pub kind_member : Tree → List ℕ
kind_member t = member (codes "parameter") (string (name_of (Parameter t.kind)))

-- its members between that and its parameters
abbrev pub AreOwnMembers : Tree → List (List ℕ) → Type 0
AreOwnMembers t own = (members : List (List ℕ)) × AreFields (plain_fields_of (Parameter t.kind)) t.fields members × (own ≡ members ++ tail_members (tail_of (Parameter t.kind)) t.tail)

-- its object
abbrev pub IsObject : Tree → List ℕ → Type 0
IsObject t text =
    (members below : List (List ℕ)) × AreFields (plain_fields_of (Parameter t.kind)) t.fields members × AreParameters t.children below
    × (text ≡ object (kind_member t ∷ (members ++ (tail_members (tail_of (Parameter t.kind)) t.tail ++ parameters_members below))))
