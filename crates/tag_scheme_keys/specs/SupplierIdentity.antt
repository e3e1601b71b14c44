-- The pure identity URI of USDoD-96, and the first rule that refuses a text as one. Texts are lists of their UTF-8 octets.
-- Source: EPC Tag Data Standard 1.13, section 6.
use Rattle.std.specs.Prelude.{◌≡◌, ℕ, ◌<◌, ◌≤◌, List, ◌++◌, length, drop, codes}
use Rattle.std.specs.List.{join_with_byte}
use Rattle.tag_schemes.specs.declared.supplier.Supplier.{Supplier}
use Rattle.tag_schemes.specs.Calls.Faults.{scheme_fault_name}
use Rattle.tag_schemes.specs.Suppliers.{supplier_components}
use Rattle.tag_schemes.specs.SupplierRules.{HasSupplierTextFault}
use Rattle.tag_keys.specs.PureIdentity.{id_start}
use Rattle.tag_scheme_keys.specs.declared.supplier_fault.SupplierFault.{SupplierFault}
use Rattle.tag_scheme_keys.specs.declared.supplier_fault.SupplierFault.TheVariants as supplier
use Rattle.tag_scheme_keys.specs.KeyFaults.{most_octets}

-- what it begins with
abbrev pub supplier_id_start : List ℕ
supplier_id_start = id_start ++ codes "usdod:"

-- the pure identity URI of an EPC: its components are those of its tag URI without the filter value, with dots (46) between them
unfoldable pub supplier_id_uri : Supplier → List ℕ
supplier_id_uri epc = supplier_id_start ++ join_with_byte 46 (drop 1 (supplier_components epc))

-- a text that begins as such a URI, and what follows
pub record BeginsAsSupplierId (text rest : List ℕ) : Type 0 where
  pub begins : text ≡ supplier_id_start ++ rest

-- the first rule that refuses a text; the last is one of those that refuse the tag URI with the filter value 0 put in
abbrev pub HasSupplierIdFault : List ℕ → SupplierFault → Type 0
HasSupplierIdFault text supplier.Long = most_octets < length text
HasSupplierIdFault text supplier.Start = (length text ≤ most_octets) × ((rest : List ℕ) → BeginsAsSupplierId text rest → ⊥)
HasSupplierIdFault text (supplier.Tag f) = (length text ≤ most_octets) × (rest : List ℕ) × BeginsAsSupplierId text rest × HasSupplierTextFault (codes "0." ++ rest) f

-- the name of a rule
abbrev pub supplier_fault_name : SupplierFault → List ℕ
supplier_fault_name supplier.Long = codes "Long"
supplier_fault_name supplier.Start = codes "Start"
supplier_fault_name (supplier.Tag f) = scheme_fault_name f
