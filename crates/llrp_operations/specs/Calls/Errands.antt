-- What words ask of a tag: the tag of `--tag`, the EPC of `--epc`, the antenna of `--antenna`, and the operations of all options together.
use Rattle.std.specs.Prelude.{◌≡◌, ◌⊎◌, ⊤, ℕ, ◌<◌, ◌≤◌, ◌^◌, ◌%◌, ◌==◌, ◌&&◌, Bool, true, if◌then◌else◌, MatchBool, List, [], ◌∷◌, ◌++◌, length, take, Option, Some, None, is_none, unwrap_or, codes}
use Rattle.std.specs.Borrow.{Bor}
use Rattle.std.specs.List.{AllZip, starts_with}
use Rattle.std.specs.Str.{bytes_eq}
use Rattle.tag_bits.specs.Digits.{digits_of_bytes, word_digits}
use Rattle.tag_uri.specs.TagText.{IsTextOf}
use Rattle.llrp_listing.specs.Calls.Hexadecimal.{IsHexOf, IsNoHex}
use Rattle.llrp_operations.specs.declared.access.Errand.{Errand}
use Rattle.llrp_operations.specs.declared.errand.ErrandErr.{ErrandErr}
use Rattle.llrp_operations.specs.declared.errand.ErrandErr.TheVariants as refusal
use Rattle.llrp_operations.specs.declared.errand.ErrandWords.{ErrandWords}
use Rattle.llrp_operations.specs.declared.errand.OperationOption.{OperationOption}
use Rattle.llrp_operations.specs.declared.errand.OperationOption.TheVariants as option
use Rattle.llrp_operations.specs.declared.errand.OwnErrand.{OwnErrand}
use Rattle.llrp_operations.specs.declared.errand.TheConstants.{OWN_ID}
use Rattle.llrp_operations.specs.declared.operation.Operation.{Operation}
use Rattle.llrp_operations.specs.declared.request.Request.{Request}
use Rattle.llrp_operations.specs.declared.request.TheConstants.{LONGEST_EPC}
use Rattle.llrp_operations.specs.declared.word.WordErr.{WordErr}
use Rattle.llrp_operations.specs.Calls.Changes.{IsEpcWrite, checks}
use Rattle.llrp_operations.specs.Calls.Operations.{IsNoEpc}
use Rattle.llrp_operations.specs.Calls.Words.{IsLock, IsRead, IsWrite, RefusesLock, RefusesRead, RefusesWrite}

-- ---- the tag

-- the octets of the word of a tag URI or a raw URI (EPC Tag Data Standard 1.13, section 12)
abbrev pub IsUriOf : (text epc : List ℕ) → Type 0
IsUriOf text epc = (word : ℕ) × (word < 2 ^ 96) × IsTextOf word text × (digits_of_bytes epc ≡ word_digits word)

-- it is neither
abbrev pub NoUri : (text : List ℕ) → Type 0
NoUri text = (word : ℕ) → word < 2 ^ 96 → IsTextOf word text → ⊥

-- whole words in hexadecimal digits, one at least, and no more than a protocol control word can count
pub record IsDigitsOf (text epc : List ℕ) : Type 0 where
  pub digits : IsHexOf text epc
  pub least : 1 ≤ length epc
  pub most : length epc ≤ LONGEST_EPC
  pub whole : length epc % 2 ≡ 0

-- no hexadecimal digits, or those of no such EPC
abbrev pub NoDigits : (text : List ℕ) → Type 0
NoDigits text = IsNoHex text ⊎ ((octets : List ℕ) × IsHexOf text octets × ((octets ≡ []) ⊎ IsNoEpc octets))

abbrev pub is_any : (text : List ℕ) → Bool
is_any text = bytes_eq text (codes "any")

abbrev pub begins_uri : (text : List ℕ) → Bool
begins_uri text = starts_with (λ a b. a == b) text (codes "urn:")

-- the EPC of --tag: of no octets for `any`, that of a URI for what begins as one, and else what the digits say
abbrev pub IsTag : (text epc : List ℕ) → Type 0
IsTag text epc = MatchBool (is_any text) (epc ≡ []) (MatchBool (begins_uri text) (IsUriOf text epc) (IsDigitsOf text epc))

-- the text says none
abbrev pub NoTag : (text : List ℕ) → Type 0
NoTag text = MatchBool (is_any text) ⊥ (MatchBool (begins_uri text) (NoUri text) (NoDigits text))

-- ---- the EPC that it is to be given by --epc: of no octets where it keeps its own

abbrev pub IsGiven : Option (Bor (List ℕ)) → (given : List ℕ) → Type 0
IsGiven None given = given ≡ []
IsGiven (Some uri) given = IsUriOf uri.now given

abbrev pub NoGiven : Option (Bor (List ℕ)) → Type 0
NoGiven None = ⊥
NoGiven (Some uri) = NoUri uri.now

-- ---- the antenna of --antenna: 0 is every one (LLRP 1.1, section 12.2.1)

abbrev pub antenna_of : Option ℕ → ℕ
antenna_of antenna = unwrap_or antenna 0

-- ---- the operations

-- the operation that a text of an option says
abbrev pub IsSaid : OperationOption → (text : List ℕ) → Operation → Type 0
IsSaid option.Read text o = IsRead text o
IsSaid option.Write text o = IsWrite text o
IsSaid option.Lock text o = IsLock text o

-- why it says none
abbrev pub RefusesText : OperationOption → (text : List ℕ) → WordErr → Type 0
RefusesText option.Read text e = RefusesRead text e
RefusesText option.Write text e = RefusesWrite text e
RefusesText option.Lock text e = RefusesLock text e

-- each text says one, in the order of the texts
abbrev pub AreSaid : OperationOption → List (Bor (List ℕ)) → List Operation → Type 0
AreSaid option texts os = AllZip (λ (text : Bor (List ℕ)) o. IsSaid option text.now o) texts os

-- the write of the EPC that the tag is to be given in place of its old one, where it is
abbrev pub IsRenaming : (old given : List ℕ) → List Operation → Type 0
IsRenaming old [] os = os ≡ []
IsRenaming old (b ∷ bs) os = (o : Operation) × IsEpcWrite old (b ∷ bs) o × (os ≡ o ∷ [])

-- the operations that are asked for, in this order: what is read, what is written, the new EPC, and what is locked, each in the order of its texts
pub record AreAsked (w : ErrandWords) (old given : List ℕ) (os : List Operation) : Type 0 where
  pub reads : List Operation
  pub writes : List Operation
  pub renaming : List Operation
  pub locks : List Operation
  pub are_reads : AreSaid option.Read w.reads.now reads
  pub are_writes : AreSaid option.Write w.writes.now writes
  pub is_renaming : IsRenaming old given renaming
  pub are_locks : AreSaid option.Lock w.locks.now locks
  pub order : os ≡ reads ++ (writes ++ (renaming ++ locks))

-- what is sent for them: with --verify the reads of what they write come after all of them. Their OpSpecIDs count from 1 in this order (`access_spec`)
abbrev pub sent_of : (verifies : Bool) → List Operation → List Operation
sent_of verifies os = if verifies then (os ++ checks os) else os

-- ---- the errand

abbrev pub asked_of : OwnErrand → List Operation
asked_of own = take own.asked own.sent.items

-- what the words ask for
pub record IsErrand (w : ErrandWords) (own : OwnErrand) : Type 0 where
  pub tag : IsTag w.tag.now own.epc.items
  pub given : IsGiven w.epc own.given.items
  pub antenna : own.antenna ≡ antenna_of w.antenna
  pub asked : AreAsked w own.epc.items own.given.items (asked_of own)
  pub sent : own.sent.items ≡ sent_of w.verifies (asked_of own)
  pub verifies : own.verifies ≡ w.verifies
  pub json : own.json ≡ w.json

-- the request by which it is sent
pub record IsRequestOf (own : OwnErrand) (password : ℕ) (r : Request) : Type 0 where
  pub id : r.id ≡ OWN_ID
  pub rospec : r.rospec ≡ OWN_ID
  pub antenna : r.antenna ≡ own.antenna
  pub password_is : r.password ≡ password
  pub epc : r.epc.now ≡ own.epc.items
  pub operations : r.operations.now ≡ own.sent.items

-- the same as `run_access` takes it
pub record IsErrandOf (own : OwnErrand) (password : ℕ) (e : Errand) : Type 0 where
  pub request : IsRequestOf own password e.request
  pub asked : e.asked.now ≡ asked_of own
  pub given : e.given.now ≡ own.given.items
  pub verifies : e.verifies ≡ own.verifies
  pub json : e.json ≡ own.json

-- ---- why there is none

-- there is no text of an operation, and no new EPC
abbrev pub no_texts : List (Bor (List ℕ)) → Bool
no_texts [] = true
no_texts (text ∷ texts) = Bool.false

abbrev pub ask_nothing : ErrandWords → Bool
ask_nothing w = no_texts w.reads.now && no_texts w.writes.now && no_texts w.locks.now && is_none w.epc

-- the first text of an option that says no operation
pub record Refuses (option : OperationOption) (texts : List (Bor (List ℕ))) (e : WordErr) : Type 0 where
  pub before : List (Bor (List ℕ))
  pub text : Bor (List ℕ)
  pub after : List (Bor (List ℕ))
  pub texts_are : texts ≡ before ++ text ∷ after
  pub said : (os : List Operation) × AreSaid option before os
  pub refused : RefusesText option text.now e

-- all texts of an option say operations
abbrev pub AllSaid : OperationOption → List (Bor (List ℕ)) → Type 0
AllSaid option texts = (os : List Operation) × AreSaid option texts os

-- of what is read, then of what is written, then of what is locked
abbrev pub RefusesOption : ErrandWords → OperationOption → WordErr → Type 0
RefusesOption w option.Read e = Refuses option.Read w.reads.now e
RefusesOption w option.Write e = AllSaid option.Read w.reads.now × Refuses option.Write w.writes.now e
RefusesOption w option.Lock e = AllSaid option.Read w.reads.now × AllSaid option.Write w.writes.now × Refuses option.Lock w.locks.now e

-- the tag and the EPC that it is to be given are said
abbrev pub SaysEpcs : ErrandWords → Type 0
SaysEpcs w = ((epc : List ℕ) × IsTag w.tag.now epc) × ((given : List ℕ) × IsGiven w.epc given)

abbrev pub RefusesErrand : ErrandWords → ErrandErr → Type 0
RefusesErrand w refusal.Tag = NoTag w.tag.now
RefusesErrand w refusal.Uri = ((epc : List ℕ) × IsTag w.tag.now epc) × NoGiven w.epc
RefusesErrand w refusal.Nothing = SaysEpcs w × (ask_nothing w ≡ true)
RefusesErrand w (refusal.Text option e) = SaysEpcs w × RefusesOption w option e
RefusesErrand w refusal.TooLong = SaysEpcs w
RefusesErrand w refusal.Memory = ⊤
