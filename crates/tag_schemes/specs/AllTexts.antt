-- The texts of words in the set of all schemes, those of tag_epc and the further ones.
-- Source: EPC Tag Data Standard 1.13, section 12.
use Rattle.std.specs.Prelude.{◌≡◌, ℕ, ◌^◌, ◌<◌, ◌≤◌, ◌⊎◌, List, ◌++◌, length}
use Rattle.tag_uri.specs.declared.fault.UriFault.{UriFault}
use Rattle.tag_uri.specs.declared.fault.UriFault.TheVariants as fault
use Rattle.tag_uri.specs.TagText.{tag_start, raw_uri, IsTextOf, HasTextFault}
use Rattle.tag_schemes.specs.declared.scheme.Scheme.{Scheme}
use Rattle.tag_schemes.specs.declared.numbers.Numbers.{Numbers}
use Rattle.tag_schemes.specs.declared.supplier.Supplier.{Supplier}
use Rattle.tag_schemes.specs.declared.fault.SchemeFault.{SchemeFault}
use Rattle.tag_schemes.specs.declared.fault.SchemeFault.TheVariants.{Long, Code, Tag}
use Rattle.tag_schemes.specs.LawfulWord.{HasWord}
use Rattle.tag_schemes.specs.Suppliers.{supplier_text, supplier_uri, HasSupplierWord, IsFurtherWord}
use Rattle.tag_schemes.specs.SupplierRules.{HasSupplierTextFault}
use Rattle.tag_schemes.specs.Texts.{text_in, uri_in, HasFaultIn}

-- the text of a word: the tag URI of its EPC of a further scheme, with a company prefix or a supplier's, or what it is without those schemes
abbrev pub IsTextInAll : ℕ → List ℕ → Type 0
IsTextInAll word text =
    ((epc : Numbers) × HasWord epc word × (text ≡ uri_in epc))
    ⊎ (((epc : Supplier) × HasSupplierWord epc word × (text ≡ supplier_uri epc))
    ⊎ ((IsFurtherWord word → ⊥) × IsTextOf word text))

-- a text that begins as a tag URI of a further scheme with a company prefix, and what follows the scheme's colon
pub record BeginsIn (text : List ℕ) (scheme : Scheme) (rest : List ℕ) : Type 0 where
  pub begins : text ≡ tag_start ++ text_in scheme rest

-- a text that begins as a tag URI of USDoD-96, and what follows the colon
pub record BeginsAsSupplier (text rest : List ℕ) : Type 0 where
  pub begins : text ≡ tag_start ++ supplier_text rest

-- a text that begins as none of them
pub record BeginsInNone (text : List ℕ) : Type 0 where
  pub no_scheme : (scheme : Scheme) (rest : List ℕ) → BeginsIn text scheme rest → ⊥
  pub no_supplier : (rest : List ℕ) → BeginsAsSupplier text rest → ⊥

-- the raw URI of a word of a further scheme
pub record IsRawOfFurther (text : List ℕ) : Type 0 where
  pub word : ℕ
  pub below : word < 2 ^ 96
  pub has : IsFurtherWord word
  pub raw : text ≡ raw_uri word

-- how many octets a text of a further scheme may have: this project's own bound, above the length of each
abbrev pub most_octets : ℕ
most_octets = 96

-- the first rule that refuses a text that begins as a tag URI of a further scheme with a company prefix
pub record HasSchemeFault (text : List ℕ) (f : UriFault) : Type 0 where
  pub scheme : Scheme
  pub rest : List ℕ
  pub begins : BeginsIn text scheme rest
  pub few : length text ≤ most_octets
  pub refused : HasFaultIn scheme rest f

-- the first rule that refuses a text that begins as a tag URI of USDoD-96
pub record HasFaultAsSupplier (text : List ℕ) (f : SchemeFault) : Type 0 where
  pub rest : List ℕ
  pub begins : BeginsAsSupplier text rest
  pub few : length text ≤ most_octets
  pub refused : HasSupplierTextFault rest f

-- the first rule that refuses a text
abbrev pub HasFaultInAll : List ℕ → SchemeFault → Type 0
HasFaultInAll text Long =
    (((scheme : Scheme) × (rest : List ℕ) × BeginsIn text scheme rest) ⊎ ((rest : List ℕ) × BeginsAsSupplier text rest))
    × (most_octets < length text)
HasFaultInAll text Code = HasFaultAsSupplier text Code
HasFaultInAll text (Tag f) =
    HasSchemeFault text f
    ⊎ (HasFaultAsSupplier text (Tag f)
    ⊎ (BeginsInNone text × (HasTextFault text f ⊎ ((f ≡ fault.RawOfLawful) × IsRawOfFurther text))))
