-- Which tags an AccessSpec is for: those that all of its C1G2TargetTags fit (LLRP 1.1, section 16.2.1).
use Rattle.std.specs.Prelude.{◌≡◌, ℕ, ◌+◌, ◌*◌, ◌/◌, ◌%◌, ◌<◌, ◌≤◌, ◌==◌, Bool, true, List, [], ◌∷◌, length, take, drop, slice_index, filter, if◌then◌else◌}
use Rattle.std.specs.List.{flat_map, list_all}
use Rattle.tag_bits.specs.Digits.{digits_of_bytes}
use Rattle.tag_memory.specs.declared.bank.Bank.{Bank}
use Rattle.tag_memory.specs.declared.bank.Bank.TheVariants.{Reserved, Epc, Tid, User}
use Rattle.tag_memory.specs.Calls.Memory.{Memory}
use Rattle.llrp_access.specs.Calls.Targets.{Pattern, hits}
use Rattle.llrp_schema.specs.declared.kinds.ParamKind.TheVariants.{WholeAccessCommand, WholeC1G2TagSpec}
use Rattle.llrp_tree.specs.Lawful.{AreOctets}
use Rattle.llrp_tree.specs.Tree.{Tree, trees}
use Rattle.llrp_operations.specs.declared.request.Request.{Request}
use Rattle.llrp_operations.specs.Calls.Operations.{access_spec, words_octets}
use Rattle.llrp_operations.specs.Calls.Results.{field_at, is_parameter}

-- ---- what a C1G2TargetTag says: its fields are MB, Match, Pointer and MaskBitCount, and its tail TagMask, DataBitCount and TagData

abbrev pub bank_of : ℕ → Bank
bank_of mb = if mb == 0 then Reserved else if mb == 1 then Epc else if mb == 2 then Tid else User

-- a count of 16 bits, and as many bits
abbrev pub bits_in : List ℕ → List Bool
bits_in [] = []
bits_in (high ∷ []) = []
bits_in (high ∷ low ∷ octets) = take (256 * high + low) (digits_of_bytes octets)

-- the mask takes whole octets
abbrev pub pattern_in : Tree → Pattern
pattern_in t = record {
  bank = bank_of (field_at 0 t);
  matches = field_at 1 t == 1;
  pointer = field_at 2 t;
  mask = take (field_at 3 t) (digits_of_bytes t.tail);
  bits = bits_in (drop ((field_at 3 t + 7) / 8) t.tail);
}

-- ---- the tags that a parameter fits

-- the C1G2TargetTags of an AccessSpec
abbrev pub below : List Tree → List Tree
below ts = flat_map (λ (t : Tree). trees t.children) ts

abbrev pub targets_of : Tree → List Tree
targets_of spec = below (filter (is_parameter WholeC1G2TagSpec) (below (filter (is_parameter WholeAccessCommand) (trees spec.children))))

-- an AccessSpec is for a tag with this memory
abbrev pub fits : Memory → Tree → Bool
fits m spec = list_all (λ (t : Tree). hits m (pattern_in t)) (targets_of spec)

-- ---- the EPC of a tag (EPC C1G2, section 6.3.2.1.2)

-- how many words it has: the five highest bits of the protocol control word
abbrev pub epc_count : Memory → ℕ
epc_count m = slice_index m.epc 1 / 2048

-- their octets, which come after the checksum and the protocol control word
abbrev pub epc_of : Memory → List ℕ
epc_of m = words_octets (take (epc_count m) (drop 2 m.epc))

abbrev pub AreWords : List ℕ → Type 0
AreWords [] = Unit {0}
AreWords (w ∷ ws) = (w < 65536) × AreWords ws

-- the EPC bank has both of these words, and as many after them as the EPC has; words are of 16 bits
pub record HasEpc (m : Memory) : Type 0 where
  pub both : 2 ≤ length m.epc
  pub enough : epc_count m ≤ length (drop 2 m.epc)
  pub words : AreWords m.epc

-- octets that name a tag: of one whole word at least, and of 31 at most
pub record IsEpc (epc : List ℕ) : Type 0 where
  pub least : 1 ≤ length epc
  pub most : length epc ≤ 62
  pub whole : length epc % 2 ≡ 0
  pub octets : AreOctets epc

-- the AccessSpec of a request that names an EPC is for the tags that have this EPC, and for no others: neither a longer nor a shorter one
pub record MeansEpc (m : Memory) (r : Request) : Type 0 where
  pub only : fits m (access_spec r) ≡ true → epc_of m ≡ r.epc.now
  pub each : epc_of m ≡ r.epc.now → fits m (access_spec r) ≡ true

abbrev pub MeansOneEpc : Type 0
MeansOneEpc = (m : Memory) (r : Request) → HasEpc m → IsEpc r.epc.now → MeansEpc m r
