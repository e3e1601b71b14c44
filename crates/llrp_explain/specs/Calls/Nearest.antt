-- The names that are nearest to a name that no kind has.
use Rattle.std.specs.Prelude.{ℕ, List, length, map, filter, fold, min, nat_eq, take}
use Rattle.std.specs.Char.{to_ascii_lowercase}
use Rattle.strsim.specs.Edits.{levenshtein_row}
use Rattle.llrp_schema.specs.declared.kinds.Kind.{Kind}
use Rattle.llrp_schema.specs.declared.kinds.KindSet.{KindSet}
use Rattle.llrp_schema.specs.Schema.{name_of}
use Rattle.llrp_explain.specs.Calls.KindTexts.{kinds_of, listed}

-- with each letter in lower case
abbrev pub lower : List ℕ → List ℕ
lower text = map to_ascii_lowercase text

-- how many octets have to be put in, left out or changed to make the name of a kind of a name, where a letter counts as itself in either case
abbrev pub distance : List ℕ → Kind → ℕ
distance name kind = levenshtein_row nat_eq (lower name) (lower (name_of kind)) (length (lower (name_of kind)))

-- the least distance of a name from those of kinds; the greatest number of 64 bits where there are none
abbrev pub least : List ℕ → List Kind → ℕ
least name kinds = fold (λ (n : ℕ) (kind : Kind). min n (distance name kind)) 18446744073709551615 kinds

-- the kinds whose names are at a distance
abbrev pub at_distance : List ℕ → ℕ → List Kind → List Kind
at_distance name count kinds = filter (λ kind. nat_eq (distance name kind) count) kinds

-- the kinds of a set whose names are at the least distance, of which the first five count
abbrev pub nearest : KindSet → List ℕ → List Kind
nearest set name = take 5 (at_distance name (least name (kinds_of set)) (kinds_of set))

abbrev pub nearest_text : KindSet → List ℕ → List ℕ
nearest_text set name = listed (map name_of (nearest set name))
