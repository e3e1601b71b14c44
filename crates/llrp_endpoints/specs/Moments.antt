-- A moment as text, on the Gregorian calendar, in UTC (ISO 8601). Texts are lists of ASCII codes: 45 is '-', 46 '.', 58 ':', 84 'T', 90 'Z'.
use Rattle.std.specs.Prelude.{◌≡◌, ℕ, zero, suc, ◌+◌, ◌/◌, ◌%◌, ◌<◌, ◌==◌, ◌&&◌, ◌||◌, not, Bool, if◌then◌else◌, List, [], ◌∷◌, ◌++◌, decimal}

-- ---- the calendar

abbrev pub is_leap_year : ℕ → Bool
is_leap_year y = (y % 4 == 0) && (not (y % 100 == 0) || (y % 400 == 0))

unfoldable pub days_in_year : ℕ → ℕ
days_in_year y = if is_leap_year y then 366 else 365

-- thirty days have April, June, September and November
unfoldable pub days_in_month : ℕ → ℕ → ℕ
days_in_month y m = if m == 2 then (if is_leap_year y then 29 else 28) else (if (m == 4) || (m == 6) || (m == 9) || (m == 11) then 30 else 31)

-- the days of the first n years from 1970 on
unfoldable pub days_of_years : ℕ → ℕ
days_of_years zero = 0
days_of_years (suc n) = days_of_years n + days_in_year (1970 + n)

-- the days of the first n months of a year
unfoldable pub days_of_months : ℕ → ℕ → ℕ
days_of_months y zero = 0
days_of_months y (suc n) = days_of_months y n + days_in_month y (suc n)

-- This many days after 1970-01-01, these whole years have passed, and of the year then these whole months, and of the month then these whole days.
pub record IsDate (days years months rest : ℕ) : Type 0 where
  pub days_are : days ≡ days_of_years years + (days_of_months (1970 + years) months + rest)
  pub month_is : months < 12
  pub day_is : rest < days_in_month (1970 + years) (months + 1)

-- ---- the text

abbrev pub two_digits : ℕ → List ℕ
two_digits n = (48 + n / 10) ∷ (48 + n % 10) ∷ []

-- two digits after a sign
abbrev pub part_text : ℕ → ℕ → List ℕ
part_text sign n = sign ∷ two_digits n

abbrev pub date_text : (years months rest : ℕ) → List ℕ
date_text years months rest = decimal (1970 + years) ++ (part_text 45 (months + 1) ++ part_text 45 (rest + 1))

-- the hours, minutes and seconds of a day's seconds
abbrev pub clock_text : ℕ → List ℕ
clock_text seconds = part_text 84 (seconds / 3600) ++ (part_text 58 (seconds / 60 % 60) ++ part_text 58 (seconds % 60))

-- six digits
abbrev pub fraction_text : ℕ → List ℕ
fraction_text micros = part_text 46 (micros / 10000) ++ (two_digits (micros / 100 % 100) ++ two_digits (micros % 100))

-- The moment this many microseconds after 1970-01-01T00:00:00Z, with no leap seconds.
pub record IsMomentText (micros : ℕ) (text : List ℕ) : Type 0 where
  pub years : ℕ
  pub months : ℕ
  pub rest : ℕ
  pub date_is : IsDate (micros / 86400000000) years months rest
  pub text_is : text ≡ date_text years months rest ++ (clock_text (micros / 1000000 % 86400) ++ (fraction_text (micros % 1000000) ++ 90 ∷ []))
