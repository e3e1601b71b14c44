-- The GS1 keys of EPCs of further schemes. Texts are lists of their UTF-8 octets.
-- Source: EPC Tag Data Standard 1.13, section 7; for the URIs the GS1 Digital Link standard.
use Rattle.std.specs.Prelude.{ℕ, List, [], ◌∷◌, ◌++◌, codes}
use Rattle.tag_schemes.specs.declared.scheme.Scheme.{Scheme}
use Rattle.tag_schemes.specs.declared.scheme.Scheme.TheVariants.{Giai, Gsrnp, Sgcn, Cpi}
use Rattle.tag_schemes.specs.declared.numbers.Numbers.{Numbers}
use Rattle.tag_schemes.specs.Texts.{components_in}
use Rattle.tag_keys.specs.declared.spelling.Spelling.{Spelling}
use Rattle.tag_keys.specs.declared.spelling.Spelling.TheVariants.{Element, Link, Named}
use Rattle.tag_keys.specs.CheckDigit.{with_check_digit}
use Rattle.tag_keys.specs.KeyText.{host, mark}

-- the application identifiers of the keys GIAI, GSRN of a provider, GCN and CPID
abbrev pub identifier_of : Scheme → List ℕ
identifier_of Giai = codes "8004"
identifier_of Gsrnp = codes "8017"
identifier_of Sgcn = codes "255"
identifier_of Cpi = codes "8010"

-- the keys' names, which are this project's own, with a blank
abbrev pub key_name : Scheme → List ℕ
key_name Giai = codes "giai "
key_name Gsrnp = codes "gsrnp "
key_name Sgcn = codes "gcn "
key_name Cpi = codes "cpi "

-- what the text of a key begins with
abbrev pub start_in : Spelling → Scheme → List ℕ
start_in Element scheme = mark Element (identifier_of scheme)
start_in Link scheme = host Link ++ mark Link (identifier_of scheme)
start_in Named scheme = key_name scheme

-- what comes between the check digit of a GCN and its serial number
abbrev pub gap : Spelling → List ℕ
gap Element = []
gap Link = []
gap Named = codes " "

-- what comes after the start, by the components of the tag URI: filter value, company prefix, reference and, if the scheme has one, serial number; a GIAI and a CPID have no check digit
abbrev pub number_in : Spelling → Scheme → List (List ℕ) → List ℕ
number_in s Giai (filter ∷ company ∷ reference ∷ []) = company ++ reference
number_in s Gsrnp (filter ∷ company ∷ reference ∷ []) = with_check_digit (company ++ reference)
number_in s Sgcn (filter ∷ company ∷ reference ∷ serial ∷ []) = with_check_digit (company ++ reference) ++ (gap s ++ serial)
number_in s Cpi (filter ∷ company ∷ reference ∷ serial ∷ []) = (company ++ reference) ++ (mark s (codes "8011") ++ serial)
number_in s scheme components = []

-- the text of an EPC's key
unfoldable pub key_in : Spelling → Numbers → List ℕ
key_in s epc = start_in s epc.scheme ++ number_in s epc.scheme (components_in epc)
