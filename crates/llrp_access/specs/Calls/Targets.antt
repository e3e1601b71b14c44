-- Which tags an AccessSpec is for (LLRP 1.1, section 16.2.1: C1G2TagSpec, C1G2TargetTag), as a tag compares the mask of a Select with its memory (EPC C1G2).
use Rattle.std.specs.Prelude.{ℕ, ◌==◌, Bool, true, false, not, ◌&&◌, ◌||◌, List, [], ◌∷◌, drop, Option, Some, None, if◌then◌else◌}
use Rattle.std.specs.Bool.{beq}
use Rattle.std.specs.List.{flat_map, list_all}
use Rattle.tag_bits.specs.Digits.{digits}
use Rattle.tag_memory.specs.declared.bank.Bank.{Bank}
use Rattle.tag_memory.specs.Calls.Memory.{Memory, words_of}
use Rattle.llrp_access.specs.declared.access_spec.Target.{Target}
use Rattle.llrp_access.specs.declared.access_spec.AccessSpec.{AccessSpec}
use Rattle.llrp_access.specs.declared.access_spec.Entry.{Entry}

-- the bits of a bank, those of each word from the most significant on
abbrev pub bits_of : List ℕ → List Bool
bits_of words = flat_map (λ w. digits 16 w) words

abbrev pub first : List Bool → Option Bool
first [] = None
first (b ∷ bs) = Some b

-- a bit that counts is the one that is wanted; both are there
abbrev pub agrees_at : (counts : Bool) (wanted bit : Option Bool) → Bool
agrees_at counts (Some w) (Some b) = not counts || beq w b
agrees_at counts (Some w) None = false
agrees_at counts None bit = false

-- each bit of the mask says whether that bit counts
abbrev pub agrees : (mask wanted bits : List Bool) → Bool
agrees [] ws bs = true
agrees (m ∷ ms) ws bs = agrees_at m (first ws) (first bs) && agrees ms (drop 1 ws) (drop 1 bs)

-- a pattern of bits, which stands in a bank or does not
pub record Pattern : Type 0 where
  pub bank : Bank
  pub matches : Bool  -- it is to stand there
  pub pointer : ℕ  -- the bit of the bank where it begins
  pub mask : List Bool  -- the bits that count
  pub bits : List Bool  -- what they are

abbrev pub stands : Memory → Pattern → Bool
stands m p = agrees p.mask p.bits (drop p.pointer (bits_of (words_of p.bank m)))

-- the tag is as the pattern wants; a pattern without bits stands everywhere
abbrev pub hits : Memory → Pattern → Bool
hits m p = beq p.matches (stands m p)

abbrev pub pattern_of : Target → Pattern
pattern_of t = record { bank = t.bank; matches = t.matches; pointer = t.pointer; mask = t.mask.items; bits = t.bits.items }

-- 0 names every antenna, and every ROSpec
abbrev pub is_named : ℕ → ℕ → Bool
is_named n id = (n == 0) || (n == id)

-- an AccessSpec is for a tag that an antenna sees while a ROSpec is active
abbrev pub is_for : ℕ → ℕ → Memory → AccessSpec → Bool
is_for antenna rospec m a = is_named a.antenna antenna && (is_named a.rospec rospec && list_all (λ t. hits m (pattern_of t)) a.targets.items)

-- the first that is enabled and for it
unfoldable pub chosen : ℕ → ℕ → Memory → List Entry → Option Entry
chosen antenna rospec m [] = None
chosen antenna rospec m (e ∷ es) = if e.enabled && is_for antenna rospec m e.spec then Some e else chosen antenna rospec m es
