-- What an SGCN-96 has of the GDTI-96 with a 1 before its serial number.
use Rattle.std.specs.Prelude.{ℕ, List, [], ◌∷◌, drop}
use Rattle.tag_epc.specs.declared.epc.Parts.{Parts}
use Rattle.tag_epc.specs.declared.epc.Parts.TheVariants.{Partitioned, General}
use Rattle.tag_uri.specs.Decimal.{padded, plain}
use Rattle.tag_schemes.specs.declared.scheme.Scheme.TheVariants.{Sgcn}
use Rattle.tag_schemes.specs.Texts.{reference_text}

-- the number of the last segment
abbrev pub last_of : Parts → ℕ
last_of (Partitioned kind filter company_digits company reference last) = last
last_of (General manager object_class serial) = serial

-- the components, without the 1
abbrev pub coupon_components : Parts → List (List ℕ)
coupon_components (Partitioned kind filter company_digits company reference last) = padded 1 filter ∷ padded company_digits company ∷ reference_text Sgcn company_digits reference ∷ drop 1 (plain last) ∷ []
coupon_components (General manager object_class serial) = []
