-- The line of octets as they are in a file of messages: "! ", and hexadecimal digits. No message has to stand there, lawful or not.
use Rattle.std.specs.Prelude.{◌≡◌, ℕ, ◌<◌, ◌==◌, Bool, true, false, List, [], ◌∷◌, length}
use Rattle.llrp_listing.specs.declared.outcome.Refusal.{Refusal}
use Rattle.llrp_listing.specs.declared.outcome.Refusal.TheVariants.{Number, Tail}
use Rattle.llrp_listing.specs.Calls.Hexadecimal.{IsHexOf}
use Rattle.llrp_ask.specs.Calls.Pause.{IsPause}

-- the line is that of these octets, one at least: 33 is !, 32 a space; spaces and tabs may stand between digits
abbrev pub IsRaw : List ℕ → List ℕ → Type 0
IsRaw line octets = (word : List ℕ) × (line ≡ 33 ∷ 32 ∷ word) × IsHexOf word octets × (0 < length octets)

abbrev pub begins_raw : List ℕ → Bool
begins_raw [] = false
begins_raw (b ∷ bs) = b == 33

-- the line is neither that of a pause nor of octets, and is refused for this reason
abbrev pub IsNoOwn : List ℕ → Refusal → Type 0
IsNoOwn line Number = (begins_raw line ≡ false) × ((milliseconds : ℕ) → ¬ IsPause line milliseconds)
IsNoOwn line Tail = (begins_raw line ≡ true) × ((octets : List ℕ) → ¬ IsRaw line octets)
IsNoOwn line _ = ⊥
