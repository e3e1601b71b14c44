-- The days of years and months.
use Rattle.std.proofs.Common.{◌≡◌, ℕ, ◌+◌, ◌<◌, ◌≤◌, Bool, true, false, List, ◌++◌, refl, sym, ap, ◌∙◌, add-one, append_assoc, arith}
use Rattle.std.specs.Prelude.{if◌then◌else◌}
use Rattle.llrp_endpoints.specs.Moments.{days_in_month, days_in_year, days_of_months, days_of_years, is_leap_year}

pub years_none : days_of_years 0 ≡ 0
unfolding days_of_years
years_none = refl

pub years_more : (n : ℕ) → days_of_years (n + 1) ≡ days_of_years n + days_in_year (1970 + n)
unfolding days_of_years
years_more n = ap days_of_years (add-one n)

pub months_none : (y : ℕ) → days_of_months y 0 ≡ 0
unfolding days_of_months
months_none y = refl

pub months_more : (y n : ℕ) → days_of_months y (n + 1) ≡ days_of_months y n + days_in_month y (n + 1)
unfolding days_of_months
months_more y n = ap (days_of_months y) (add-one n) ∙ ap (λ (m : ℕ). days_of_months y n + days_in_month y m) (sym (add-one n))

by_leap : (leap : Bool) → (((((((((((31 + (if leap then 29 else 28)) + 31) + 30) + 31) + 30) + 31) + 31) + 30) + 31) + 30) + 31) ≡ (if leap then 366 else 365)
by_leap true = refl
by_leap false = refl

-- the days of all months are those of the year
months_all : (y : ℕ) → days_of_months y 12 ≡ days_in_year y
unfolding days_of_months days_in_month days_in_year
months_all y = by_leap (is_leap_year y)

-- twelve months have more days than what is before in a year
pub year_is_whole : (y days months rest : ℕ) → days < days_in_year y → days ≡ days_of_months y months + rest → 12 ≤ months → months ≤ 12 → ⊥
year_is_whole y days months rest within whole least most =
    let twelve : months ≡ 12 = omega arith in
    let all : days ≡ days_in_year y + rest = whole ∙ ap (λ (m : ℕ). days_of_months y m + rest) twelve ∙ ap (λ (n : ℕ). n + rest) (months_all y) in
    omega arith

-- four parts, appended one after another
pub four_parts : (a b c d start one two three four : List ℕ) → one ≡ start ++ a → two ≡ one ++ b → three ≡ two ++ c → four ≡ three ++ d → four ≡ start ++ (a ++ (b ++ (c ++ d)))
four_parts a b c d start one two three four p q r s =
    s ∙ ap (λ (x : List ℕ). x ++ d) (r ∙ ap (λ (x : List ℕ). x ++ c) (q ∙ ap (λ (x : List ℕ). x ++ b) p)) ∙ append_assoc ((start ++ a) ++ b) c d ∙ append_assoc (start ++ a) b (c ++ d) ∙ append_assoc start a (b ++ (c ++ d))
