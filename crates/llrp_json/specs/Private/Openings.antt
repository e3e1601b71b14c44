-- What the object of a parameter of type and value begins with, up to its value.
use Rattle.std.specs.Prelude.{ℕ, List, [], ◌∷◌, ◌++◌, codes}
use Rattle.llrp_schema.specs.declared.kinds.ParamKind.{ParamKind}
use Rattle.llrp_schema.specs.declared.kinds.Kind.TheVariants.{Parameter}
use Rattle.llrp_schema.specs.Schema.{FieldRule, fields_of, name_of}
use Rattle.llrp_json.specs.JsonValues.{member, string}
use Rattle.llrp_json.specs.JsonItems.{field_name}

-- the name of the first of some fields
abbrev pub first_name : List FieldRule → List ℕ
first_name [] = []
first_name (rule ∷ rules) = field_name rule

abbrev pub value_opening : ParamKind → List ℕ
value_opening kind = (123 ∷ member (codes "parameter") (string (name_of (Parameter kind)))) ++ (44 ∷ (string (first_name (fields_of (Parameter kind))) ++ 58 ∷ []))
