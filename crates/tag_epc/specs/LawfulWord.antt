-- The word of an EPC, and which words are lawful. Source: EPC Tag Data Standard 1.13, section 14.
use Rattle.std.specs.Prelude.{◌≡◌, ℕ, ◌+◌, ◌^◌, ◌<◌, Bool, List, [], ◌∷◌, ◌++◌, Option, Some, None}
use Rattle.tag_bits.specs.Digits.{digits, word_digits}
use Rattle.tag_epc.specs.declared.kind.Kind.{Kind}
use Rattle.tag_epc.specs.declared.kind.Kind.TheVariants.{Gid}
use Rattle.tag_epc.specs.declared.scheme.Row.{Row}
use Rattle.tag_epc.specs.declared.epc.Parts.{Parts}
use Rattle.tag_epc.specs.declared.epc.Parts.TheVariants.{Partitioned, General}
use Rattle.tag_epc.specs.Layout.{Segment, Layout, layout_of, row_at, leading_segments, number_segments, gid_segments, gid_header}

-- a segment with the number in it
pub record Field : Type 0 where
  pub segment : Segment
  pub number : ℕ

-- numbers in segments, in order
abbrev pub fill : List Segment → List ℕ → List Field
fill (s ∷ ss) (n ∷ ns) = record { segment = s; number = n } ∷ fill ss ns
fill [] ns = []
fill (s ∷ ss) [] = []

-- the number has no more than its decimal digits
abbrev pub HasDecimals : Option ℕ → ℕ → Type 0
HasDecimals None n = Unit {0}
HasDecimals (Some k) n = n < 10 ^ k

-- the number fits its segment
pub record Fits (f : Field) : Type 0 where
  pub bits : f.number < 2 ^ f.segment.width
  pub decimals : HasDecimals f.segment.decimals f.number

-- each number fits its segment
abbrev pub AllFit : List Field → Type 0
AllFit [] = Unit {0}
AllFit (f ∷ fs) = Fits f × AllFit fs

-- the binary digits of the fields, one after another
abbrev pub fields_digits : List Field → List Bool
fields_digits [] = []
fields_digits (f ∷ fs) = digits f.segment.width f.number ++ fields_digits fs

-- the fields of an EPC with a company prefix, whose digits and partition value make 12
pub record HasPartition (kind : Kind) (filter company_digits company reference last : ℕ) (fields : List Field) : Type 0 where
  pub layout : Layout
  pub row : Row
  pub partition : ℕ
  pub scheme : layout_of kind ≡ Some layout
  pub placed : row_at layout partition ≡ Some row
  pub counted : partition + company_digits ≡ 12
  pub filled : fields ≡ fill leading_segments (layout.header ∷ filter ∷ partition ∷ []) ++ fill (number_segments layout row) (company ∷ reference ∷ last ∷ [])

-- the fields of an EPC
abbrev pub HasFields : Parts → List Field → Type 0
HasFields (Partitioned kind filter company_digits company reference last) fields = HasPartition kind filter company_digits company reference last fields
HasFields (General manager object_class serial) fields = fields ≡ fill gid_segments (gid_header ∷ manager ∷ object_class ∷ serial ∷ [])

-- an EPC whose numbers all fit their segments
pub record IsLawfulEpc (epc : Parts) : Type 0 where
  pub fields : List Field
  pub has : HasFields epc fields
  pub fit : AllFit fields

-- the EPC is lawful, and the digits are those of its fields
pub record Spells (epc : Parts) (ds : List Bool) : Type 0 where
  pub lawful : IsLawfulEpc epc
  pub spelled : ds ≡ fields_digits lawful.fields

-- the EPC has the word
abbrev pub HasWord : Parts → ℕ → Type 0
HasWord epc word = Spells epc (word_digits word)

-- some EPC has the word
abbrev pub IsLawfulWord : ℕ → Type 0
IsLawfulWord word = (epc : Parts) × HasWord epc word

-- the scheme of an EPC
abbrev pub kind_of_parts : Parts → Kind
kind_of_parts (Partitioned kind filter company_digits company reference last) = kind
kind_of_parts (General manager object_class serial) = Gid
