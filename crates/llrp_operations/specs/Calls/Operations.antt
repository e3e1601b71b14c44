-- Operations on a tag, and the AccessSpec that asks for them (LLRP 1.1, sections 12 and 16).
use Rattle.std.specs.Prelude.{◌≡◌, ◌<◌, ◌⊎◌, ℕ, suc, ◌*◌, ◌/◌, ◌%◌, List, [], ◌∷◌, ◌++◌, length, replicate}
use Rattle.tag_memory.specs.declared.bank.Bank.{Bank}
use Rattle.tag_memory.specs.declared.bank.Bank.TheVariants.{Reserved, Epc, Tid, User}
use Rattle.llrp_schema.specs.declared.kinds.ParamKind.{ParamKind}
use Rattle.llrp_schema.specs.declared.kinds.ParamKind.TheVariants.{WholeAccessSpec, WholeAccessSpecStopTrigger, WholeAccessCommand, WholeAccessReportSpec, WholeC1G2TagSpec, WholeC1G2TargetTag, WholeC1G2Read, WholeC1G2Write, WholeC1G2Lock, WholeC1G2LockPayload}
use Rattle.llrp_tree.specs.Tree.{Tree, forest}
use Rattle.llrp_operations.specs.declared.operation.LockField.{LockField}
use Rattle.llrp_operations.specs.declared.operation.LockField.TheVariants as locked
use Rattle.llrp_operations.specs.declared.operation.LockManner.{LockManner}
use Rattle.llrp_operations.specs.declared.operation.LockManner.TheVariants as manner
use Rattle.llrp_operations.specs.declared.operation.Operation.{Operation}
use Rattle.llrp_operations.specs.declared.operation.Operation.TheVariants.{Read, Write, Lock}
use Rattle.llrp_operations.specs.declared.request.Request.{Request}
use Rattle.llrp_operations.specs.declared.request.TheConstants.{LONGEST_EPC}

-- MB: the number of a bank
abbrev pub bank_number : Bank → ℕ
bank_number Reserved = 0
bank_number Epc = 1
bank_number Tid = 2
bank_number User = 3

-- DataField of C1G2LockPayload: kill password, access password, EPC, TID and user bank
abbrev pub data_field : LockField → ℕ
data_field locked.KillPassword = 0
data_field locked.AccessPassword = 1
data_field locked.Epc = 2
data_field locked.Tid = 3
data_field locked.User = 4

-- Privilege of C1G2LockPayload: Read_Write, Perma_Lock, Perma_Unlock, Unlock
abbrev pub privilege : LockManner → ℕ
privilege manner.Lock = 0
privilege manner.PermanentLock = 1
privilege manner.PermanentUnlock = 2
privilege manner.Unlock = 3

-- ---- parameters

-- with fields alone, and with parameters below it
abbrev pub leaf : ParamKind → List ℕ → Tree
leaf kind fields = record { kind = kind; fields = fields; tail = []; children = forest [] }

abbrev pub with_children : ParamKind → List ℕ → List Tree → Tree
with_children kind fields children = record { kind = kind; fields = fields; tail = []; children = forest children }

-- words as octets, the high one first
abbrev pub words_octets : List ℕ → List ℕ
words_octets [] = []
words_octets (w ∷ ws) = w / 256 ∷ (w % 256 ∷ words_octets ws)

-- the parameter of an operation: its OpSpecID, the access password, and what is done
abbrev pub operation_spec : (id password : ℕ) → Operation → Tree
operation_spec id password (Read bank pointer count) = leaf WholeC1G2Read (id ∷ password ∷ bank_number bank ∷ pointer ∷ count ∷ [])
operation_spec id password (Write bank pointer words) =
    record { kind = WholeC1G2Write; fields = id ∷ password ∷ bank_number bank ∷ pointer ∷ []; tail = words_octets words.items; children = forest [] }
operation_spec id password (Lock field manner) =
    with_children WholeC1G2Lock (id ∷ password ∷ []) (leaf WholeC1G2LockPayload (privilege manner ∷ data_field field ∷ []) ∷ [])

-- those of operations, whose OpSpecIDs count from this one
abbrev pub operation_specs : (first password : ℕ) → List Operation → List Tree
operation_specs first password [] = []
operation_specs first password (o ∷ os) = operation_spec first password o ∷ operation_specs (suc first) password os

-- ---- the tag: in the EPC bank (1) the length of its EPC in words, the five highest bits of the protocol control word, from bit 16 on, and its EPC, from bit 32 on (EPC C1G2, section 6.3.2.1.2)

abbrev pub target : (pointer count : ℕ) → (tail : List ℕ) → Tree
target pointer count tail = record { kind = WholeC1G2TargetTag; fields = 1 ∷ 1 ∷ pointer ∷ count ∷ []; tail = tail; children = forest [] }

-- a mask of five ones, and five bits: half as many words as the EPC has octets
abbrev pub length_target : List ℕ → Tree
length_target epc = target 16 5 (248 ∷ 0 ∷ 5 ∷ 4 * length epc ∷ [])

-- a mask of ones, how many bits the EPC has, and the EPC
abbrev pub target_tail : List ℕ → List ℕ
target_tail epc = replicate (length epc) 255 ++ ((8 * length epc) / 256 ∷ ((8 * length epc) % 256 ∷ epc))

abbrev pub epc_target : List ℕ → Tree
epc_target epc = target 32 (8 * length epc) (target_tail epc)

-- an EPC of no octets is any
abbrev pub targets : List ℕ → List Tree
targets [] = epc_target [] ∷ []
targets (o ∷ os) = length_target (o ∷ os) ∷ epc_target (o ∷ os) ∷ []

abbrev pub tag_spec : List ℕ → Tree
tag_spec epc = with_children WholeC1G2TagSpec [] (targets epc)

-- no EPC that a tag can have: more than 31 words, or no whole ones
abbrev pub IsNoEpc : List ℕ → Type 0
IsNoEpc epc = (LONGEST_EPC < length epc) ⊎ (length epc % 2 ≡ 1)

-- ---- the AccessSpec

abbrev pub access_command : (password : ℕ) (epc : List ℕ) → List Operation → Tree
access_command password epc os = with_children WholeAccessCommand [] (tag_spec epc ∷ operation_specs 1 password os)

-- for the air protocol C1G2 (1), disabled (0); it ends after one tag (trigger 1, count 1), and is reported with the tag (0)
abbrev pub access_spec_to : (epc : List ℕ) → Request → Tree
access_spec_to epc r =
    with_children WholeAccessSpec (r.id ∷ r.antenna ∷ 1 ∷ 0 ∷ r.rospec ∷ [])
    (leaf WholeAccessSpecStopTrigger (1 ∷ 1 ∷ []) ∷ access_command r.password epc r.operations.now ∷ leaf WholeAccessReportSpec (0 ∷ []) ∷ [])

abbrev pub access_spec : Request → Tree
access_spec r = access_spec_to r.epc.now r
