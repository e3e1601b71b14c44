-- Operations that follow from others, and what a tag says when they are verified.
use Rattle.std.specs.Prelude.{◌≡◌, ℕ, suc, ◌*◌, ◌==◌, ◌&&◌, min, not, ◌||◌, Bool, true, false, if◌then◌else◌, List, [], ◌∷◌, ◌++◌, length, drop, filter, Option, Some, None}
use Rattle.std.specs.List.{flat_map}
use Rattle.std.specs.Borrow.{Bor}
use Rattle.std.specs.Str.{bytes_eq}
use Rattle.tag_memory.specs.declared.bank.Bank.TheVariants.{Epc}
use Rattle.llrp_tree.specs.Tree.{Tree, trees}
use Rattle.llrp_tree.specs.declared.node.Node.{Node}
use Rattle.llrp_operations.specs.declared.operation.Operation.{Operation}
use Rattle.llrp_operations.specs.declared.operation.Operation.TheVariants.{Read, Write, Lock}
use Rattle.llrp_operations.specs.Calls.Messages.{epc_in}
use Rattle.llrp_operations.specs.Calls.Operations.{words_octets}
use Rattle.llrp_operations.specs.Calls.Results.{has_succeeded, is_result}

-- ---- a new EPC (EPC C1G2, section 6.3.2.1): in the EPC bank the checksum is word 0, the protocol control word 1, and the EPC begins at word 2

-- the protocol control word of an EPC: its five highest bits count the EPC's words of two octets, and its others are 0
abbrev pub control_octets : List ℕ → List ℕ
control_octets epc = (4 * length epc) ∷ 0 ∷ []

-- where writing begins, and what is written, in place of an old EPC
abbrev pub epc_pointer : (old epc : List ℕ) → ℕ
epc_pointer old epc = if length old == length epc then 2 else 1

abbrev pub epc_octets : (old epc : List ℕ) → List ℕ
epc_octets old epc = if length old == length epc then epc else (control_octets epc ++ epc)

abbrev pub IsEpcWrite : (old epc : List ℕ) → Operation → Type 0
IsEpcWrite old epc (Read _ _ _) = ⊥
IsEpcWrite old epc (Write bank pointer words) = (bank ≡ Epc) × (pointer ≡ epc_pointer old epc) × (words_octets words.items ≡ epc_octets old epc)
IsEpcWrite old epc (Lock _ _) = ⊥

-- ---- the result at a place, if there is one

abbrev pub IsHeadAt : ℕ → List Tree → Option (Bor Node) → Type 0
IsHeadAt place ts None = drop place ts ≡ []
IsHeadAt place ts (Some t) = drop place ts ≡ t.now ∷ drop (suc place) ts

-- ---- verifying

-- it writes or locks
abbrev pub changes : Operation → Bool
changes (Read _ _ _) = false
changes (Write _ _ _) = true
changes (Lock _ _) = true

-- the read of what an operation writes
abbrev pub check_of : Operation → List Operation
check_of (Read _ _ _) = []
check_of (Write bank pointer words) = Read bank pointer (min (length words.items) 65535) ∷ []
check_of (Lock _ _) = []

abbrev pub checks : List Operation → List Operation
checks os = flat_map check_of os

-- each write has one of these results, in order, whose words are those that it wrote
abbrev pub say_words : List Operation → List Tree → Bool
say_words [] ts = true
say_words (Read _ _ _ ∷ os) ts = say_words os ts
say_words (Lock _ _ ∷ os) ts = say_words os ts
say_words (Write bank pointer words ∷ os) [] = false
say_words (Write bank pointer words ∷ os) (t ∷ ts) = bytes_eq t.tail (words_octets words.items) && say_words os ts

-- after the results of these operations come those of their checks, with the words that were written
abbrev pub is_verified : List Operation → Tree → Bool
is_verified os tag = say_words os (drop (length os) (filter is_result (trees tag.children)))

-- ---- the tag that is meant

-- the EPC is the one that is meant, where one is, or the one that the tag was to be given, where it was
abbrev pub is_meant : (meant given epc : List ℕ) → Bool
is_meant meant given epc = bytes_eq meant [] || bytes_eq epc meant || (not (bytes_eq given []) && bytes_eq epc given)

-- all that was asked for was done to the tag that is meant: what was sent, and where it verifies, the words that are read back are those that were written
abbrev pub is_done : (verifies : Bool) → ℕ → (asked sent : List Operation) → (meant given : List ℕ) → Tree → Bool
is_done verifies id asked sent meant given tag =
    is_meant meant given (epc_in (trees tag.children)) && (has_succeeded id sent tag && (not verifies || is_verified asked tag))
