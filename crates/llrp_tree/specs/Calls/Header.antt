-- What the first octets of a frame say of its header, whatever comes after them (LLRP 1.1, section 17.1).
use Rattle.std.specs.Prelude.{◌≡◌, ℕ, Bool, List, ◌++◌, Some}
use Rattle.llrp_schema.specs.declared.kinds.KindSet.{KindSet}
use Rattle.llrp_schema.specs.declared.kinds.KindSet.TheVariants.{Profile}
use Rattle.tag_bits.specs.Digits.{digits_of_bytes}
use Rattle.llrp_tree.specs.declared.fault.Fault.{Fault}
use Rattle.llrp_tree.specs.declared.header.Header.{Header}
use Rattle.llrp_tree.specs.FirstFault.{first_failing, header_checks_in}
use Rattle.llrp_tree.specs.Calls.Standing.{HeaderSaysIn}

-- every frame that begins so passes the checks of a header, and has this version, kind, length and id
abbrev pub HasHeaderIn : KindSet → (limit : ℕ) → List ℕ → Header → Type 0
HasHeaderIn p limit bytes h = (later : List Bool) → HeaderSaysIn p limit (digits_of_bytes bytes ++ later) h.version h.kind h.octets h.id

-- the first check of a header that every frame that begins so fails
abbrev pub HasHeaderFaultIn : KindSet → (limit : ℕ) → List ℕ → Fault → Type 0
HasHeaderFaultIn p limit bytes fault = (later : List Bool) → first_failing (header_checks_in p limit (digits_of_bytes bytes ++ later)) ≡ Some (fault.bit, fault.reason)

-- the same of the profile
abbrev pub HasHeader : (limit : ℕ) → List ℕ → Header → Type 0
HasHeader limit bytes h = HasHeaderIn Profile limit bytes h

abbrev pub HasHeaderFault : (limit : ℕ) → List ℕ → Fault → Type 0
HasHeaderFault limit bytes fault = HasHeaderFaultIn Profile limit bytes fault
