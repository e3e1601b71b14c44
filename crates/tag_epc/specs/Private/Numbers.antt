-- The numbers after a partition value.
use Rattle.std.specs.Prelude.{ℕ}
use Rattle.tag_epc.specs.declared.lawful_parts.Number.{Number}
use Rattle.tag_epc.specs.declared.lawful_parts.Number.TheVariants.{Company, Reference, Last}

-- how many of them come before one
abbrev pub place_of_number : Number → ℕ
place_of_number Company = 0
place_of_number Reference = 1
place_of_number Last = 2
