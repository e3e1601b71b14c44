use Rattle.std.proofs.Common.{◌≡◌, ℕ, ◌%◌, ◌^◌, ◌≤◌, List, length, take, sym, ap, subst, ◌∙◌, arith, w8}
use lib.Count.{count_trailing_zeros}
use Rattle.std.specs.Simd.Lanes.{mask_l, zip2}
use Rattle.std.proofs.lemmas.List.{length-take}
use Rattle.std.proofs.lemmas.Simd.{length-zip2, mask_l-mod, tops_compared}
use Rattle.llrp_listing.proofs.NearLemmas.{differ, first_differs, none_differ}
use Rattle.llrp_listing.proofs.near.octets_alike.Goals as goal

-- what the marks are
marks_are : (text row : List ℕ) → 32 ≤ length text → 32 ≤ length row → mask_l (zip2 differ (take 32 text) (take 32 row)) % 2 ^ 64 ≡ mask_l (zip2 differ (take 32 text) (take 32 row))
marks_are text row long whole =
    let same : length (take 32 text) ≡ length (take 32 row) = omega (arith, length-take 32 text, length-take 32 row, long, whole) in
    mask_l-mod (zip2 differ (take 32 text) (take 32 row)) 64 (omega (arith, length-zip2 differ (take 32 text) (take 32 row) same, length-take 32 text))

pub returns-then-marks-eq0 : goal.returns-then-marks-eq0
returns-then-marks-eq0 c k le =
    let text = c.args.text.now in
    let row = c.args.row.now in
    let whole = c.requires.row in
    let is = ap (λ ms. mask_l ms % 2 ^ 64) (tops_compared w8 differ (take 32 text) (take 32 row)) ∙ marks_are text row c.requires.text whole in
    none_differ text row c.requires.text whole (sym is ∙ c.if-marks-eq0.true) k le

pub returns-else-marks-eq0 : goal.returns-else-marks-eq0
returns-else-marks-eq0 c k le =
    let text = c.args.text.now in
    let row = c.args.row.now in
    let whole = c.requires.row in
    let is = ap (λ ms. mask_l ms % 2 ^ 64) (tops_compared w8 differ (take 32 text) (take 32 row)) ∙ marks_are text row c.requires.text whole in
    first_differs text row c.requires.text whole (λ e. c.if-marks-eq0.false (is ∙ e)) k (subst (λ (n : ℕ). k ≤ count_trailing_zeros 64 n) is le)
