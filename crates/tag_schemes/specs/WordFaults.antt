-- The first fault of a word that no EPC of the set of all schemes has.
-- Source: EPC Tag Data Standard 1.13, section 14; which part is named first is this project's own choice, the first from the left.
use Rattle.std.specs.Prelude.{◌≡◌, ℕ, ◌⊎◌, List, Bool, [], ◌∷◌, ◌++◌, length, take, None}
use Rattle.tag_bits.specs.Digits.{digits, word_digits}
use Rattle.tag_epc.specs.declared.fault.WordReason.TheVariants.{Header, Partition, Prefix, Reference, Zeros}
use Rattle.tag_epc.specs.declared.fault.WordFault.{WordFault}
use Rattle.tag_epc.specs.Layout.{row_at, leading_segments}
use Rattle.tag_epc.specs.LawfulWord.{Field, fill, AllFit, fields_digits, IsLawfulWord}
use Rattle.tag_epc.specs.Faults.{FirstUnfit, AllRead, place_of, HasWordFault}
use Rattle.tag_schemes.specs.declared.numbers.Numbers.{Numbers}
use Rattle.tag_schemes.specs.declared.scheme.Scheme.{Scheme}
use Rattle.tag_schemes.specs.declared.fault.PartReason.{PartReason}
use Rattle.tag_schemes.specs.declared.fault.PartReason.TheVariants.{Word, Serial, Code}
use Rattle.tag_schemes.specs.declared.fault.PartFault.{PartFault}
use Rattle.tag_schemes.specs.Schemes.{layout_in}
use Rattle.tag_schemes.specs.LawfulWord.{HasFields, HasSerial}
use Rattle.tag_schemes.specs.Suppliers.{IsFurtherWord}
use Rattle.tag_schemes.specs.SupplierRules.{HasSupplierFault, HasSupplierHeader}

-- some EPC of the set of all schemes has the word
abbrev pub IsLawfulInAll : ℕ → Type 0
IsLawfulInAll word = IsFurtherWord word ⊎ IsLawfulWord word

-- the word begins with the header of a further scheme
pub record HasHeader (scheme : Scheme) (word : ℕ) : Type 0 where
  pub rest : List Bool
  pub begins : word_digits word ≡ digits 8 (layout_in scheme).header ++ rest

-- the fields after the header of a further scheme are a filter value and a partition value that has no row
pub record HasNoRowIn (scheme : Scheme) (fields : List Field) : Type 0 where
  pub filter : ℕ
  pub partition : ℕ
  pub none : row_at (layout_in scheme) partition ≡ None
  pub filled : fields ≡ fill leading_segments ((layout_in scheme).header ∷ filter ∷ partition ∷ [])

-- the fields are those of numbers of the scheme, and the one at `place` is the first that does not fit
pub record HasUnfitIn (scheme : Scheme) (place : ℕ) (fields : List Field) : Type 0 where
  pub epc : Numbers
  pub same : epc.scheme ≡ scheme
  pub has : HasFields epc fields
  pub first : FirstUnfit fields place

-- the fields are those of numbers of the scheme, all of which fit, but the last has no serial number
pub record HasNoSerial (scheme : Scheme) (fields : List Field) : Type 0 where
  pub epc : Numbers
  pub same : epc.scheme ≡ scheme
  pub has : HasFields epc fields
  pub fit : AllFit fields
  pub wrong : ¬ HasSerial scheme epc.last

-- why the fields of a word with the header of a further scheme with a company prefix fail
abbrev pub FailsIn : Scheme → PartReason → List Field → Type 0
FailsIn scheme (Word Header) fields = ⊥
FailsIn scheme (Word Partition) fields = HasNoRowIn scheme fields
FailsIn scheme (Word Prefix) fields = HasUnfitIn scheme 3 fields
FailsIn scheme (Word Reference) fields = HasUnfitIn scheme 4 fields
FailsIn scheme (Word Zeros) fields = HasUnfitIn scheme 5 fields
FailsIn scheme Serial fields = HasNoSerial scheme fields
FailsIn scheme Code fields = ⊥

-- how many fields come before the part that fails
abbrev pub place_in_all : PartReason → ℕ
place_in_all (Word reason) = place_of reason
place_in_all Serial = 5
place_in_all Code = 2

-- the first part that fails of a word with the header of a further scheme, and its first bit
pub record HasFurtherFault (scheme : Scheme) (word : ℕ) (fault : PartFault) : Type 0 where
  pub fields : List Field
  pub rest : List Bool
  pub spelled : word_digits word ≡ fields_digits fields ++ rest
  pub read : AllRead fields
  pub fails : FailsIn scheme fault.reason fields
  pub bit : fault.bit ≡ length (fields_digits (take (place_in_all fault.reason) fields))

-- the word begins with the header of no further scheme
pub record HasNoHeader (word : ℕ) : Type 0 where
  pub no_scheme : (scheme : Scheme) → HasHeader scheme word → ⊥
  pub no_supplier : HasSupplierHeader word → ⊥

-- the first part that fails of a word, and its first bit: with the header of a further scheme a part of it, else what fails without those schemes
abbrev pub HasWordFaultInAll : ℕ → PartFault → Type 0
HasWordFaultInAll word fault =
    ((scheme : Scheme) × HasFurtherFault scheme word fault)
    ⊎ (HasSupplierFault word fault
    ⊎ (HasNoHeader word × (older : WordFault) × HasWordFault word older × (fault ≡ record { bit = older.bit; reason = Word older.reason })))
