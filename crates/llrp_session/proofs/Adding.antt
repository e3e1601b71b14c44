-- What it takes that a ROSpec is added.
use Rattle.std.proofs.Common.{◌≡◌, ℕ, ◌+◌, ◌-◌, ◌≤◌, refl, List, arith, Bool, true, false}
use Rattle.std.specs.Prelude.{nat_lt, if◌then◌else◌}
use Rattle.std.proofs.lemmas.Bool.Decides.{nat_tests}
use Rattle.llrp_session.specs.RoSpec.{RoSpec}
use Rattle.llrp_session.specs.Table.{Entry, octets_of}
use Rattle.llrp_session.specs.ReaderMachine.{add_status, has_bad_field, is_too_long}

abbrev status : Bool → Bool → ℕ
status a b = if a then 101 else (if b then 100 else 0)

chose_last : (a b : Bool) → status a b ≡ 0 → (a ≡ false) × (b ≡ false)
chose_last true b h = absurd (omega arith)
chose_last false true h = absurd (omega arith)
chose_last false false h = (refl, refl)

pub not_less : (a b : ℕ) → nat_lt a b ≡ false → b ≤ a
not_less a b h = grind (arith, nat_tests)

-- the ROSpecs of the table fit one message with it
pub added-fits : (limit : ℕ) (table : List Entry) (s : RoSpec) → add_status limit table s ≡ 0 → octets_of table + s.octets ≤ limit - 18
added-fits limit table s h = not_less _ _ (chose_last (has_bad_field table s) (is_too_long limit table s) h).1
