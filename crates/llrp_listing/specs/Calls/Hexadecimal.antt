-- Bytes as hexadecimal digits.
use Rattle.std.specs.Prelude.{◌≡◌, ℕ, ◌+◌, ◌*◌, ◌<◌, ◌≤◌, ◌⊎◌, ◌==◌, ◌||◌, not, Bool, List, [], ◌∷◌, filter}

-- space, tab, LF and CR may be anywhere
abbrev pub is_space : ℕ → Bool
is_space byte = byte == 32 || (byte == 9 || (byte == 10 || byte == 13))

-- the byte is the digit of this value: 0 to 9, A to F or a to f
abbrev pub IsHexDigit : ℕ → ℕ → Type 0
IsHexDigit byte n = ((n < 10) × (byte ≡ 48 + n)) ⊎ ((10 ≤ n) × (n < 16) × ((byte ≡ 55 + n) ⊎ (byte ≡ 87 + n)))

-- the digits spell the bytes: two digits a byte, the first the more significant
abbrev pub SpellBytes : List ℕ → List ℕ → Type 0
SpellBytes [] [] = Unit {0}
SpellBytes (first ∷ (second ∷ digits)) (byte ∷ bytes) = (high low : ℕ) × IsHexDigit first high × IsHexDigit second low × (byte ≡ 16 * high + low) × SpellBytes digits bytes
SpellBytes _ _ = ⊥

-- the text is digits that spell the bytes, once its spaces are left out
abbrev pub IsHexOf : List ℕ → List ℕ → Type 0
IsHexOf text bytes = SpellBytes (filter (λ byte. not (is_space byte)) text) bytes

-- the text is hexadecimal of no bytes at all
abbrev pub IsNoHex : List ℕ → Type 0
IsNoHex text = (bytes : List ℕ) → ¬ IsHexOf text bytes
