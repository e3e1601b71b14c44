-- The components of a text of a scheme with a company prefix.
use Rattle.std.specs.Prelude.{◌≡◌, ℕ, ◌^◌, ◌<◌, if◌then◌else◌, List, [], ◌∷◌, Option, Some, None, option_copied, option_to_list, is_some}
use Rattle.std.specs.Borrow.{Bor}
use Rattle.tag_uri.specs.declared.partitioned.Components.{Components}
use Rattle.tag_uri.specs.Decimal.{plain}
use Rattle.tag_uri.specs.TagText.{Form, Filter, Company, Reference, Number}

-- their texts, in order
abbrev pub texts_of : Components → List (List ℕ)
texts_of x = x.filter.now ∷ x.company.now ∷ x.reference.now ∷ option_to_list (option_copied x.last)

-- their forms, where the last is a number of at most this many bits
abbrev pub forms_with : Components → ℕ → List Form
forms_with x width = Filter ∷ Company ∷ Reference ∷ (if is_some x.last then Number width ∷ [] else [])

-- the number of a last component with at most this many bits; 0 where there is none
abbrev pub LastIs : Option (Bor (List ℕ)) → ℕ → ℕ → Type 0
LastIs None width n = n ≡ 0
LastIs (Some last) width n = (last.now ≡ plain n) × (n < 2 ^ width)
