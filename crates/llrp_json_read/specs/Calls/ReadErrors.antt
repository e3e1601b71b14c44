-- The errors of reading.
use Rattle.std.specs.Prelude.{option_map}
use Rattle.llrp_json_read.specs.declared.refusal.ReadErr.{ReadErr}
use Rattle.llrp_json_read.specs.declared.refusal.ReadErr.TheVariants as error
use Rattle.llrp_json_read.specs.declared.refusal.Refusal.{Refusal}
use Rattle.llrp_json_read.specs.ObjectRefused.{Refused}

-- what a refusal says
abbrev pub told : Refusal → Refused
told refusal = record { places = refusal.places.items; member = option_map (λ name. name.now) refusal.member; reason = refusal.reason }

-- memory ran out, or it is such a refusal
abbrev pub IsReadErr : (Refused → Type 0) → ReadErr → Type 0
IsReadErr IsSuch error.Memory = Unit {0}
IsReadErr IsSuch (error.Refused refusal) = IsSuch (told refusal)
