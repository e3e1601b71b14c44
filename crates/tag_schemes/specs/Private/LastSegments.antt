-- The last segments of words.
use Rattle.std.specs.Prelude.{◌≡◌, ℕ}
use Rattle.tag_epc.specs.declared.fault.WordReason.TheVariants.{Zeros}
use Rattle.tag_schemes.specs.declared.scheme.Scheme.{Scheme}
use Rattle.tag_schemes.specs.declared.scheme.Scheme.TheVariants.{Giai, Gsrnp, Sgcn, Cpi}
use Rattle.tag_schemes.specs.declared.fault.PartReason.{PartReason}
use Rattle.tag_schemes.specs.declared.fault.PartReason.TheVariants.{Word, Serial}
use Rattle.tag_schemes.specs.LawfulWord.{HasSerial}

-- the number that a last segment with enough bits may have
abbrev pub IsLastIn : Scheme → ℕ → Type 0
IsLastIn Giai last = last ≡ 0
IsLastIn Gsrnp last = last ≡ 0
IsLastIn Sgcn last = HasSerial Sgcn last
IsLastIn Cpi last = Unit {0}

-- why another number is none
abbrev pub FailsLast : Scheme → ℕ → PartReason → Type 0
FailsLast Giai last reason = (reason ≡ Word Zeros) × ¬ (last ≡ 0)
FailsLast Gsrnp last reason = (reason ≡ Word Zeros) × ¬ (last ≡ 0)
FailsLast Sgcn last reason = (reason ≡ Serial) × ¬ HasSerial Sgcn last
FailsLast Cpi last reason = ⊥
