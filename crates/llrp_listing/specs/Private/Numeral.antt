-- How a decimal word is read.
use Rattle.std.specs.Prelude.{◌≡◌, ℕ, ◌^◌, ◌<◌, ◌≤◌, ◌==◌, nat_lt, nat_le, ◌&&◌, ◌||◌, not, Bool, if◌then◌else◌, List, length, get_or, take, drop, true, Option, Some, None}
use Rattle.std.specs.Str.{all_ascii_digits}
use Rattle.std.specs.Str.Parse.{digits_value}

-- one to 20 digits, the first a 0 only where it is the only one
abbrev pub is_numeral : List ℕ → Bool
is_numeral w = all_ascii_digits w && (nat_lt 0 (length w) && (nat_le (length w) 20 && (nat_le (length w) 1 || not (get_or w 0 0 == 48))))

-- the number whose decimal text the word is
unfoldable pub numeral : List ℕ → Option ℕ
numeral w = if is_numeral w then Some (digits_value 10 w) else None

-- Some first digits were read: this is their number, and these octets follow them.
pub record ReadsFront (digits rest : List ℕ) (n : ℕ) : Type 0 where
  pub count : ℕ
  pub within : count ≤ length digits
  pub rest_is : rest ≡ drop count digits
  pub all : all_ascii_digits (take count digits) ≡ true
  pub value : n ≡ digits_value 10 (take count digits)
  pub below : n < 10 ^ count
