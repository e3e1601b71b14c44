-- The forms of a word whose EPC is of a further scheme, beside its tag URI, and the words of such texts.
-- Source: EPC Tag Data Standard 1.13, sections 6 and 7.
use Rattle.std.specs.Prelude.{◌≡◌, ℕ, ◌⊎◌, List, ◌++◌, Option, Some, None}
use Rattle.tag_keys.specs.declared.spelling.Spelling.{Spelling}
use Rattle.tag_keys.specs.declared.spelling.Spelling.TheVariants as spelling
use Rattle.tag_keys.specs.PureIdentity.{id_start}
use Rattle.tag_schemes.specs.declared.numbers.Numbers.{Numbers}
use Rattle.tag_schemes.specs.declared.scheme.Scheme.{Scheme}
use Rattle.tag_schemes.specs.declared.supplier.Supplier.{Supplier}
use Rattle.tag_schemes.specs.LawfulWord.{HasWord}
use Rattle.tag_schemes.specs.Suppliers.{HasSupplierWord}
use Rattle.tag_scheme_keys.specs.KeyFaults.{BeginsKeyIn}
use Rattle.tag_scheme_keys.specs.KeyText.{key_in}
use Rattle.tag_scheme_keys.specs.PureIdentity.{id_text_in, id_uri_in}
use Rattle.tag_scheme_keys.specs.SupplierIdentity.{supplier_id_uri, BeginsAsSupplierId}
use Rattle.tag_forms.specs.declared.form.Form.{Form}
use Rattle.tag_forms.specs.declared.form.Form.TheVariants.{Pure, Element, Link, Key}

-- the text is the pure identity URI of the word's EPC
abbrev pub IsFurtherIdOf : ℕ → List ℕ → Type 0
IsFurtherIdOf word text =
    ((epc : Numbers) × HasWord epc word × (text ≡ id_uri_in epc))
    ⊎ ((epc : Supplier) × HasSupplierWord epc word × (text ≡ supplier_id_uri epc))

-- the text is that of the key of the word's EPC; USDoD-96 has none
abbrev pub IsFurtherKeyOf : Spelling → ℕ → List ℕ → Type 0
IsFurtherKeyOf s word text = (epc : Numbers) × HasWord epc word × (text ≡ key_in s epc)

-- the text of a word in a form
abbrev pub IsFurtherTextIn : Form → ℕ → List ℕ → Type 0
IsFurtherTextIn Pure word text = IsFurtherIdOf word text
IsFurtherTextIn Element word text = IsFurtherKeyOf spelling.Element word text
IsFurtherTextIn Link word text = IsFurtherKeyOf spelling.Link word text
IsFurtherTextIn Key word text = IsFurtherKeyOf spelling.Named word text
IsFurtherTextIn form word text = ⊥

-- the text is the pure identity URI of the word's EPC, which has this filter value
abbrev pub ReadsFurtherId : ℕ → List ℕ → ℕ → Type 0
ReadsFurtherId filter text word =
    ((epc : Numbers) × HasWord epc word × (epc.filter ≡ filter) × (text ≡ id_uri_in epc))
    ⊎ ((epc : Supplier) × HasSupplierWord epc word × (epc.filter ≡ filter) × (text ≡ supplier_id_uri epc))

-- the text is that of the key of the word's EPC, which has this filter value and as many digits of the company prefix as are known
abbrev pub ReadsFurtherKey : Spelling → ℕ → Option ℕ → List ℕ → ℕ → Type 0
ReadsFurtherKey s filter (Some count) text word = (epc : Numbers) × HasWord epc word × (epc.filter ≡ filter) × (epc.company_digits ≡ count) × (text ≡ key_in s epc)
ReadsFurtherKey s filter None text word = ⊥

-- the word that a text is read as in a form, by what the text does not say
abbrev pub ReadsFurther : Form → ℕ → Option ℕ → List ℕ → ℕ → Type 0
ReadsFurther Pure filter count text word = ReadsFurtherId filter text word
ReadsFurther Element filter count text word = ReadsFurtherKey spelling.Element filter count text word
ReadsFurther Link filter count text word = ReadsFurtherKey spelling.Link filter count text word
ReadsFurther Key filter count text word = ReadsFurtherKey spelling.Named filter count text word
ReadsFurther form filter count text word = ⊥

-- the text begins as a pure identity URI of a further scheme with a company prefix
abbrev pub BeginsFurtherId : List ℕ → Type 0
BeginsFurtherId text = (scheme : Scheme) × (rest : List ℕ) × (text ≡ id_start ++ id_text_in scheme rest)

-- the text begins as the key of a further scheme
abbrev pub BeginsFurtherKey : Spelling → List ℕ → Type 0
BeginsFurtherKey s text = (scheme : Scheme) × (rest : List ℕ) × BeginsKeyIn s text scheme rest

-- the text begins as one of a further scheme in a form
abbrev pub BeginsFurther : Form → List ℕ → Type 0
BeginsFurther Pure text = BeginsFurtherId text ⊎ ((rest : List ℕ) × BeginsAsSupplierId text rest)
BeginsFurther Element text = BeginsFurtherKey spelling.Element text
BeginsFurther Link text = BeginsFurtherKey spelling.Link text
BeginsFurther Key text = BeginsFurtherKey spelling.Named text
BeginsFurther form text = ⊥
