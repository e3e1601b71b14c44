-- What the calls from words to operations return, whatever came before.
use Rattle.std.specs.Prelude.{◌≡◌, ⊤, ℕ, List, [], ◌∷◌, ◌++◌, Option, Some, None, Vec}
use Rattle.std.specs.Borrow.{Bor}
use Rattle.std.specs.declared.alloc.Global.{Global}
use Rattle.llrp_operations.specs.declared.errand.ErrandErr.{ErrandErr}
use Rattle.llrp_operations.specs.declared.errand.ErrandErr.TheVariants as refusal
use Rattle.llrp_operations.specs.declared.errand.ErrandWords.{ErrandWords}
use Rattle.llrp_operations.specs.declared.errand.OperationOption.{OperationOption}
use Rattle.llrp_operations.specs.declared.operation.Operation.{Operation}
use Rattle.llrp_operations.specs.Calls.Errands.{AreSaid, IsDigitsOf, IsGiven, IsRenaming, IsSaid, IsTag, IsUriOf, NoDigits, NoGiven, NoTag, NoUri, Refuses, RefusesOption, RefusesText}

-- ---- an EPC that a text says, if it says one

abbrev pub SaysUri : (text : List ℕ) → Option (Vec ℕ Global) → Type 0
SaysUri text None = NoUri text
SaysUri text (Some epc) = IsUriOf text epc.items

abbrev pub SaysDigits : (text : List ℕ) → Option (Vec ℕ Global) → Type 0
SaysDigits text None = NoDigits text
SaysDigits text (Some epc) = IsDigitsOf text epc.items

abbrev pub SaysTag : (text : List ℕ) → Option (Vec ℕ Global) → Type 0
SaysTag text None = NoTag text
SaysTag text (Some epc) = IsTag text epc.items

abbrev pub SaysGiven : Option (Bor (List ℕ)) → Option (Vec ℕ Global) → Type 0
SaysGiven text None = NoGiven text
SaysGiven text (Some epc) = IsGiven text epc.items

-- ---- operations

-- new is old and the operation that a text of an option says
abbrev pub AddsOne : OperationOption → (text : List ℕ) → (old new : List Operation) → Type 0
AddsOne option text old new = (o : Operation) × IsSaid option text o × (new ≡ old ++ o ∷ [])

-- new is old and the operations that the texts of an option say
abbrev pub AddsSaid : OperationOption → List (Bor (List ℕ)) → (old new : List Operation) → Type 0
AddsSaid option texts old new = (os : List Operation) × AreSaid option texts os × (new ≡ old ++ os)

-- new is old and the write of the EPC that the tag is to be given, where it is
abbrev pub AddsGiven : (epc given : List ℕ) → (old new : List Operation) → Type 0
AddsGiven epc given old new = (os : List Operation) × IsRenaming epc given os × (new ≡ old ++ os)

-- ---- errors

abbrev pub RefusesOne : OperationOption → (text : List ℕ) → ErrandErr → Type 0
RefusesOne option text (refusal.Text of e) = (of ≡ option) × RefusesText option text e
RefusesOne option text refusal.Memory = ⊤
RefusesOne option text _ = ⊥

abbrev pub RefusesTexts : OperationOption → List (Bor (List ℕ)) → ErrandErr → Type 0
RefusesTexts option texts (refusal.Text of e) = (of ≡ option) × Refuses option texts e
RefusesTexts option texts refusal.Memory = ⊤
RefusesTexts option texts _ = ⊥

abbrev pub RefusesOptions : ErrandWords → ErrandErr → Type 0
RefusesOptions w (refusal.Text option e) = RefusesOption w option e
RefusesOptions w refusal.Memory = ⊤
RefusesOptions w _ = ⊥

abbrev pub HasNoRoom : ErrandErr → Type 0
HasNoRoom refusal.TooLong = ⊤
HasNoRoom refusal.Memory = ⊤
HasNoRoom _ = ⊥
