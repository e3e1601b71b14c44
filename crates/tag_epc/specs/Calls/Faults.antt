-- Beside Faults: what contracts say that no promise rests on.
use Rattle.std.specs.Prelude.{ℕ, ◌<◌, ◌≤◌, List}
use Rattle.tag_epc.specs.declared.epc.Parts.{Parts}
use Rattle.tag_epc.specs.declared.epc.Parts.TheVariants.{Partitioned, General}
use Rattle.tag_epc.specs.declared.fault.EpcFault.{EpcFault}
use Rattle.tag_epc.specs.declared.fault.EpcFault.TheVariants as epc
use Rattle.tag_epc.specs.LawfulWord.{Field, HasFields}
use Rattle.tag_epc.specs.Faults.{FirstUnfit}

-- the first number of an EPC that does not fit is the one at `place` of its fields
pub record HasUnfit (epc : Parts) (place : ℕ) : Type 0 where
  pub fields : List Field
  pub has : HasFields epc fields
  pub first : FirstUnfit fields place

-- the first check that numbers fail: filter value, digits of the company prefix, company prefix, reference, last segment
abbrev pub HasEpcFault : Parts → EpcFault → Type 0
HasEpcFault (Partitioned kind filter company_digits company reference last) epc.Filter = 8 ≤ filter
HasEpcFault (Partitioned kind filter company_digits company reference last) epc.Digits = (filter < 8) × ¬ ((6 ≤ company_digits) × (company_digits ≤ 12))
HasEpcFault (Partitioned kind filter company_digits company reference last) epc.Prefix = HasUnfit (Partitioned kind filter company_digits company reference last) 3
HasEpcFault (Partitioned kind filter company_digits company reference last) epc.Reference = HasUnfit (Partitioned kind filter company_digits company reference last) 4
HasEpcFault (Partitioned kind filter company_digits company reference last) epc.Last = HasUnfit (Partitioned kind filter company_digits company reference last) 5
HasEpcFault (General manager object_class serial) epc.Filter = ⊥
HasEpcFault (General manager object_class serial) epc.Digits = ⊥
HasEpcFault (General manager object_class serial) epc.Prefix = HasUnfit (General manager object_class serial) 1
HasEpcFault (General manager object_class serial) epc.Reference = HasUnfit (General manager object_class serial) 2
HasEpcFault (General manager object_class serial) epc.Last = HasUnfit (General manager object_class serial) 3
