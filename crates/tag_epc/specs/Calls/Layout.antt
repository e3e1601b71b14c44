-- Beside Layout: what contracts say that no promise rests on.
use Rattle.std.specs.Prelude.{ℕ, ◌+◌, ◌^◌, nat_le, ◌==◌, ◌&&◌, Bool, true, List, [], ◌∷◌, length}
use Rattle.tag_epc.specs.declared.scheme.Row.{Row}
use Rattle.tag_epc.specs.Layout.{Layout}

-- whether a row's segments fill the word, and each number of its decimal digits has as many binary digits
abbrev pub row_is_sound : Layout → ℕ → Row → Bool
row_is_sound l p r =
    (8 + 3 + 3 + r.company_bits + r.reference_bits + l.last_bits == 96)
    && nat_le (10 ^ r.company_digits) (2 ^ r.company_bits)
    && nat_le (10 ^ r.reference_digits) (2 ^ r.reference_bits)
    && (r.company_digits + p == 12) && nat_le r.reference_digits 12

-- whether the rows from a partition value on are sound
abbrev pub rows_are_sound : Layout → ℕ → List Row → Bool
rows_are_sound l p [] = true
rows_are_sound l p (r ∷ rs) = row_is_sound l p r && rows_are_sound l (p + 1) rs

-- whether a layout has a header of eight bits, and seven sound rows
abbrev pub is_sound : Layout → Bool
is_sound l = nat_le l.header 255 && (length l.rows == 7) && nat_le l.last_bits 63 && rows_are_sound l 0 l.rows
