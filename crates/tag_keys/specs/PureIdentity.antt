-- Pure identity URIs. Texts are lists of their UTF-8 octets. Source: EPC Tag Data Standard 1.13, section 6.
use Rattle.std.specs.Prelude.{◌≡◌, ℕ, List, ◌∷◌, ◌++◌, drop, codes, Option, Some, None}
use Rattle.std.specs.List.{join_with_byte}
use Rattle.tag_epc.specs.declared.kind.Kind.{Kind}
use Rattle.tag_epc.specs.declared.kind.Kind.TheVariants.{Sgtin, Sscc, Sgln, Grai, Gdti, Gsrn, Gid}
use Rattle.tag_epc.specs.declared.epc.Parts.{Parts}
use Rattle.tag_epc.specs.declared.epc.Parts.TheVariants.{Partitioned, General}
use Rattle.tag_epc.specs.Layout.{Layout, layout_of}
use Rattle.tag_epc.specs.LawfulWord.{kind_of_parts}
use Rattle.tag_uri.specs.Decimal.{padded}
use Rattle.tag_uri.specs.TagText.{components_of, tag_start, scheme_text}

-- what each pure identity URI begins with
abbrev pub id_start : List ℕ
id_start = codes "urn:epc:id:"

-- a scheme's name in pure identity URIs: that of tag URIs without the number of bits
abbrev pub id_name : Kind → List ℕ
id_name Sgtin = codes "sgtin"
id_name Sscc = codes "sscc"
id_name Sgln = codes "sgln"
id_name Grai = codes "grai"
id_name Gdti = codes "gdti"
id_name Gsrn = codes "gsrn"
id_name Gid = codes "gid"

-- a scheme's name with its colon (58), then components joined by dots (46)
abbrev pub id_text : Kind → List ℕ → List ℕ
id_text kind rest = id_name kind ++ 58 ∷ rest

-- the components of an EPC in its pure identity: those of its tag URI without the filter value
abbrev pub id_components : Parts → List (List ℕ)
id_components (Partitioned kind filter company_digits company reference last) = drop 1 (components_of (Partitioned kind filter company_digits company reference last))
id_components (General manager object_class serial) = components_of (General manager object_class serial)

-- the pure identity URI of an EPC
unfoldable pub id_uri : Parts → List ℕ
id_uri epc = id_start ++ id_text (kind_of_parts epc) (join_with_byte 46 (id_components epc))

-- the EPC has this filter value, or is of GID-96, which has none
abbrev pub HasFilter : ℕ → Parts → Type 0
HasFilter filter (Partitioned kind value company_digits company reference last) = value ≡ filter
HasFilter filter (General manager object_class serial) = Unit {0}

-- the components of a tag URI by those of a pure identity URI: the filter value and a dot come in front of them, where the scheme has one
abbrev pub with_filter : Option Layout → ℕ → List ℕ → List ℕ
with_filter (Some l) filter rest = padded 1 filter ++ 46 ∷ rest
with_filter None filter rest = rest

-- a text that begins as a scheme's pure identity URI, and the tag URI of what follows
pub record ReadsId (filter : ℕ) (text tag : List ℕ) : Type 0 where
  pub kind : Kind
  pub rest : List ℕ
  pub named : text ≡ id_start ++ id_text kind rest
  pub tagged : tag ≡ tag_start ++ scheme_text kind (with_filter (layout_of kind) filter rest)
