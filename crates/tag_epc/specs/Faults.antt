-- The first fault of a word that no EPC has, and of numbers that are no EPC's.
use Rattle.std.specs.Prelude.{◌≡◌, ◌≢◌, ℕ, ◌^◌, ◌<◌, List, Bool, [], ◌∷◌, ◌++◌, length, take, Some, None, slice_get, codes}
use Rattle.tag_bits.specs.Digits.{word_digits}
use Rattle.tag_epc.specs.declared.kind.Kind.{Kind}
use Rattle.tag_epc.specs.declared.epc.Parts.{Parts}
use Rattle.tag_epc.specs.declared.fault.WordReason.{WordReason}
use Rattle.tag_epc.specs.declared.fault.WordReason.TheVariants as word
use Rattle.tag_epc.specs.declared.fault.WordFault.{WordFault}
use Rattle.tag_epc.specs.Layout.{Layout, layout_of, header_of, row_at, plain_segment, leading_segments}
use Rattle.tag_epc.specs.LawfulWord.{Field, fill, Fits, AllFit, fields_digits, HasFields}

-- the fields before the one at `place` fit, and that one does not
pub record FirstUnfit (fields : List Field) (place : ℕ) : Type 0 where
  pub unfit : Field
  pub stands : slice_get fields place ≡ Some unfit
  pub before : AllFit (take place fields)
  pub fails : ¬ Fits unfit

-- the fields after the header of a word are a filter value and a partition value that has no row
pub record HasNoRow (fields : List Field) : Type 0 where
  pub kind : Kind
  pub layout : Layout
  pub filter : ℕ
  pub partition : ℕ
  pub scheme : layout_of kind ≡ Some layout
  pub none : row_at layout partition ≡ None
  pub filled : fields ≡ fill leading_segments (layout.header ∷ filter ∷ partition ∷ [])

-- the fields have the header of no scheme
pub record HasNoScheme (fields : List Field) : Type 0 where
  pub header : ℕ
  pub filled : fields ≡ fill (plain_segment 8 ∷ []) (header ∷ [])
  pub unknown : (kind : Kind) → header_of kind ≢ header

-- the fields are those of an EPC, but for the one at `place`, the first that does not fit
pub record HasUnfitAt (place : ℕ) (fields : List Field) : Type 0 where
  pub epc : Parts
  pub has : HasFields epc fields
  pub first : FirstUnfit fields place

-- why the fields of a word fail
abbrev pub Fails : WordReason → List Field → Type 0
Fails word.Header fields = HasNoScheme fields
Fails word.Partition fields = HasNoRow fields
Fails word.Prefix fields = HasUnfitAt 3 fields
Fails word.Reference fields = HasUnfitAt 4 fields
Fails word.Zeros fields = HasUnfitAt 5 fields

-- the name of the part that fails
abbrev pub word_fault_name : WordReason → List ℕ
word_fault_name word.Header = codes "Header"
word_fault_name word.Partition = codes "Partition"
word_fault_name word.Prefix = codes "Prefix"
word_fault_name word.Reference = codes "Reference"
word_fault_name word.Zeros = codes "Zeros"

-- how many fields come before the one that fails
abbrev pub place_of : WordReason → ℕ
place_of word.Header = 0
place_of word.Partition = 2
place_of word.Prefix = 3
place_of word.Reference = 4
place_of word.Zeros = 5

-- each number has no more than the binary digits of its segment
abbrev pub AllRead : List Field → Type 0
AllRead [] = Unit {0}
AllRead (f ∷ fs) = (f.number < 2 ^ f.segment.width) × AllRead fs

-- the first field that fails of the digits of a word, and its first bit
pub record HasDigitsFault (ds : List Bool) (fault : WordFault) : Type 0 where
  pub fields : List Field
  pub rest : List Bool
  pub spelled : ds ≡ fields_digits fields ++ rest
  pub read : AllRead fields
  pub fails : Fails fault.reason fields
  pub bit : fault.bit ≡ length (fields_digits (take (place_of fault.reason) fields))

-- the first part of a word that fails, and its first bit
abbrev pub HasWordFault : ℕ → WordFault → Type 0
HasWordFault word fault = HasDigitsFault (word_digits word) fault
