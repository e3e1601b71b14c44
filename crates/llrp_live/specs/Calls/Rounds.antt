-- The tags of a file, which a line of a script sees one after another.
use Rattle.std.specs.Prelude.{◌≡◌, ℕ, ◌+◌, ◌%◌, ◌⊎◌, ℤ, pos, nat_abs, ◌+ℤ◌, ◌-ℤ◌, ◌<ℤ◌, List, [], Option, None, Some, length, take, slice_get}
use Rattle.llrp_session.specs.declared.types.Sighting.{Sighting}
use Rattle.llrp_live.specs.declared.lines.Again.{Again}
use Rattle.llrp_live.specs.declared.lines.Line.{Line}
use Rattle.llrp_live.specs.declared.rounds.Rounds.{Rounds}

-- how many times a line has happened before, which is whose turn it is
abbrev pub turn_by : Option Again → ℕ
turn_by None = 0
turn_by (Some again) = again.done

abbrev pub turn_of : Line → ℕ
turn_of line = turn_by line.again

-- the one of a list whose turn it is, counted from 0: from the first on, round and round
abbrev pub whose_turn : {A : Type 0} → List A → ℕ → Option A
whose_turn xs turn = slice_get xs (turn % length xs)

-- the same of the numbers from the least to the greatest
abbrev pub strength : ℤ → ℤ → ℕ → ℤ
strength least greatest turn = least +ℤ pos (turn % (nat_abs (greatest -ℤ least) + 1))

-- the antenna, the signal strength and the word of a tag whose turn it is
pub record IsTurn (r : Rounds) (words : List ℕ) (turn : ℕ) (s : Sighting) : Type 0 where
  pub antenna : whose_turn (take r.antennas.count r.antennas.numbers) turn ≡ Some s.antenna
  pub rssi : s.rssi ≡ strength r.least r.greatest turn
  pub epc : whose_turn words turn ≡ Some s.epc

-- there is no antenna, no signal strength or no tag
abbrev pub HasNone : Rounds → List ℕ → Type 0
HasNone r words = (take r.antennas.count r.antennas.numbers ≡ []) ⊎ ((r.greatest <ℤ r.least) ⊎ (words ≡ []))
