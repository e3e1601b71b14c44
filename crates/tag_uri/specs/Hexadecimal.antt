-- Hexadecimal text in upper case, as lists of the characters' codes.
use Rattle.std.specs.Prelude.{ℕ, zero, suc, ◌/◌, ◌%◌, ◌^◌, ◌||◌, ◌&&◌, nat_le, Bool, List, [], ◌∷◌, slice_index, codes}

-- the last k hexadecimal digits of n, so below 16 ^ k the list of k digits whose number is n
unfoldable pub hexadecimal : ℕ → ℕ → List ℕ
hexadecimal zero n = []
hexadecimal (suc k) n = slice_index (codes "0123456789ABCDEF") (n / 16 ^ k % 16) ∷ hexadecimal k n

-- whether a character is 0 to 9 or A to F
abbrev pub is_upper_digit : ℕ → Bool
is_upper_digit c = (nat_le 48 c && nat_le c 57) || (nat_le 65 c && nat_le c 70)
