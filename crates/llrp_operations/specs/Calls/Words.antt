-- The words by which a person says an operation. Texts are lists of their octets: 58 is a colon, 61 is =.
use Rattle.std.specs.Prelude.{◌≡◌, ◌⊎◌, ⊤, ℕ, ◌≤◌, ◌%◌, List, [], length, codes, decimal}
use Rattle.tag_memory.specs.declared.bank.Bank.{Bank}
use Rattle.tag_memory.specs.declared.bank.Bank.TheVariants as bank
use Rattle.llrp_listing.specs.Calls.Hexadecimal.{IsHexOf, IsNoHex}
use Rattle.llrp_listing.specs.Calls.Splits.{IsSplit, Lacks}
use Rattle.llrp_operations.specs.declared.operation.LockField.{LockField}
use Rattle.llrp_operations.specs.declared.operation.LockField.TheVariants as locked
use Rattle.llrp_operations.specs.declared.operation.LockManner.{LockManner}
use Rattle.llrp_operations.specs.declared.operation.LockManner.TheVariants as manner
use Rattle.llrp_operations.specs.declared.operation.Operation.{Operation}
use Rattle.llrp_operations.specs.declared.operation.Operation.TheVariants.{Read, Write, Lock}
use Rattle.llrp_operations.specs.declared.word.WordErr.{WordErr}
use Rattle.llrp_operations.specs.declared.word.WordErr.TheVariants as refusal
use Rattle.llrp_operations.specs.Calls.Operations.{words_octets}

-- ---- names

abbrev pub bank_name : Bank → List ℕ
bank_name bank.Reserved = codes "reserved"
bank_name bank.Epc = codes "epc"
bank_name bank.Tid = codes "tid"
bank_name bank.User = codes "user"

abbrev pub field_name : LockField → List ℕ
field_name locked.KillPassword = codes "kill"
field_name locked.AccessPassword = codes "access"
field_name locked.Epc = codes "epc"
field_name locked.Tid = codes "tid"
field_name locked.User = codes "user"

abbrev pub manner_name : LockManner → List ℕ
manner_name manner.Lock = codes "lock"
manner_name manner.PermanentLock = codes "permanent-lock"
manner_name manner.PermanentUnlock = codes "permanent-unlock"
manner_name manner.Unlock = codes "unlock"

-- a text is such a name, or none
abbrev pub IsBank : List ℕ → Bank → Type 0
IsBank text b = text ≡ bank_name b

abbrev pub NoBank : List ℕ → Type 0
NoBank text = (b : Bank) → text ≡ bank_name b → ⊥

abbrev pub IsField : List ℕ → LockField → Type 0
IsField text f = text ≡ field_name f

abbrev pub NoField : List ℕ → Type 0
NoField text = (f : LockField) → text ≡ field_name f → ⊥

abbrev pub IsManner : List ℕ → LockManner → Type 0
IsManner text m = text ≡ manner_name m

abbrev pub NoManner : List ℕ → Type 0
NoManner text = (m : LockManner) → text ≡ manner_name m → ⊥

-- ---- numbers and digits

-- the text is a number of 16 bits in decimal, or none
abbrev pub IsNumber : List ℕ → ℕ → Type 0
IsNumber text n = (n ≤ 65535) × (text ≡ decimal n)

abbrev pub NoNumber : List ℕ → Type 0
NoNumber text = (n : ℕ) → n ≤ 65535 → text ≡ decimal n → ⊥

-- the text is hexadecimal digits of no whole words, or of none at all
abbrev pub IsNoWords : List ℕ → Type 0
IsNoWords text = IsNoHex text ⊎ ((octets : List ℕ) × IsHexOf text octets × ((octets ≡ []) ⊎ (length octets % 2 ≡ 1)))

-- ---- parts: what stands before the first mark, between it and the next one, and after that

abbrev pub HasThree : (first second : ℕ) → List ℕ → (a b c : List ℕ) → Type 0
HasThree first second text a b c = (rest : List ℕ) × IsSplit first text a rest × IsSplit second rest b c

-- a mark is missing
abbrev pub LacksMark : (first second : ℕ) → List ℕ → Type 0
LacksMark first second text = Lacks first text ⊎ ((a rest : List ℕ) × IsSplit first text a rest × Lacks second rest)

-- ---- BANK:WORD:COUNT

abbrev pub IsRead : List ℕ → Operation → Type 0
IsRead text (Read bank pointer count) = (a b c : List ℕ) × HasThree 58 58 text a b c × IsBank a bank × IsNumber b pointer × IsNumber c count
IsRead text (Write _ _ _) = ⊥
IsRead text (Lock _ _) = ⊥

-- the first part that is refused
abbrev pub RefusesRead : List ℕ → WordErr → Type 0
RefusesRead text refusal.Form = LacksMark 58 58 text
RefusesRead text refusal.Bank = (a b c : List ℕ) × HasThree 58 58 text a b c × NoBank a
RefusesRead text refusal.Place = (a b c : List ℕ) × (bank : Bank) × HasThree 58 58 text a b c × IsBank a bank × NoNumber b
RefusesRead text refusal.Count = (a b c : List ℕ) × (bank : Bank) × (n : ℕ) × HasThree 58 58 text a b c × IsBank a bank × IsNumber b n × NoNumber c
RefusesRead text _ = ⊥

-- ---- BANK:WORD=HEX

abbrev pub IsWrite : List ℕ → Operation → Type 0
IsWrite text (Read _ _ _) = ⊥
IsWrite text (Write bank pointer words) = (a b c : List ℕ) × HasThree 58 61 text a b c × IsBank a bank × IsNumber b pointer × (1 ≤ length words.items) × IsHexOf c (words_octets words.items)
IsWrite text (Lock _ _) = ⊥

abbrev pub RefusesWrite : List ℕ → WordErr → Type 0
RefusesWrite text refusal.Form = LacksMark 58 61 text
RefusesWrite text refusal.Bank = (a b c : List ℕ) × HasThree 58 61 text a b c × NoBank a
RefusesWrite text refusal.Place = (a b c : List ℕ) × (bank : Bank) × HasThree 58 61 text a b c × IsBank a bank × NoNumber b
RefusesWrite text refusal.Digits = (a b c : List ℕ) × (bank : Bank) × (n : ℕ) × HasThree 58 61 text a b c × IsBank a bank × IsNumber b n × IsNoWords c
RefusesWrite text refusal.Memory = ⊤
RefusesWrite text _ = ⊥

-- ---- FIELD=HOW

abbrev pub IsLock : List ℕ → Operation → Type 0
IsLock text (Read _ _ _) = ⊥
IsLock text (Write _ _ _) = ⊥
IsLock text (Lock field manner) = (a b : List ℕ) × IsSplit 61 text a b × IsField a field × IsManner b manner

abbrev pub RefusesLock : List ℕ → WordErr → Type 0
RefusesLock text refusal.Form = Lacks 61 text
RefusesLock text refusal.Field = (a b : List ℕ) × IsSplit 61 text a b × NoField a
RefusesLock text refusal.Manner = (a b : List ℕ) × (field : LockField) × IsSplit 61 text a b × IsField a field × NoManner b
RefusesLock text _ = ⊥
