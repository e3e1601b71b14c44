-- The pure identity URIs of EPCs of further schemes. Texts are lists of their UTF-8 octets.
-- Source: EPC Tag Data Standard 1.13, section 6.
use Rattle.std.specs.Prelude.{ℕ, List, ◌∷◌, ◌++◌, drop, codes}
use Rattle.std.specs.List.{join_with_byte}
use Rattle.tag_schemes.specs.declared.scheme.Scheme.{Scheme}
use Rattle.tag_schemes.specs.declared.scheme.Scheme.TheVariants.{Giai, Gsrnp, Sgcn, Cpi}
use Rattle.tag_schemes.specs.declared.numbers.Numbers.{Numbers}
use Rattle.tag_schemes.specs.Texts.{components_in}
use Rattle.tag_keys.specs.PureIdentity.{id_start}

-- a scheme's name in pure identity URIs: that of tag URIs without the number of bits
abbrev pub id_name_in : Scheme → List ℕ
id_name_in Giai = codes "giai"
id_name_in Gsrnp = codes "gsrnp"
id_name_in Sgcn = codes "sgcn"
id_name_in Cpi = codes "cpi"

-- a scheme's name with its colon (58), then components joined by dots (46)
abbrev pub id_text_in : Scheme → List ℕ → List ℕ
id_text_in scheme rest = id_name_in scheme ++ 58 ∷ rest

-- the pure identity URI of an EPC: its components are those of its tag URI without the filter value
unfoldable pub id_uri_in : Numbers → List ℕ
id_uri_in epc = id_start ++ id_text_in epc.scheme (join_with_byte 46 (drop 1 (components_in epc)))
