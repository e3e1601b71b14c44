-- The parts of the numbers in a head.
use Rattle.std.proofs.Common.{◌≡◌, ℕ, ◌+◌, ◌-◌, ◌*◌, ◌<◌, ◌≤◌, Bool, List, ◌++◌, length, ◌∙◌, arith}
use Rattle.tag_bits.specs.Digits.{digits_of_bytes}
use Rattle.llrp_tree.specs.FirstFault.{number}
use Rattle.llrp_tree.proofs.NumberLemmas.{number_joined, room}
use Rattle.llrp_tree.proofs.ReadDigits.{value_at}

-- ---- the parts of a head's first octet and first word

module _ (octets : List ℕ) (later : List Bool) (one : 1 ≤ length octets) (first : ℕ) (is : first ≡ number (digits_of_bytes octets ++ later) 0 8) where
  first_joined : first ≡ number (digits_of_bytes octets ++ later) 0 1 * 128 + number (digits_of_bytes octets ++ later) 1 7
  first_joined = is ∙ number_joined (digits_of_bytes octets ++ later) 0 1 7 (let fits = room octets later in omega arith)

  type_below : number (digits_of_bytes octets ++ later) 1 7 < 128
  type_below = value_at 1 7 (digits_of_bytes octets ++ later) (let fits = room octets later in omega arith)

  first_below : number (digits_of_bytes octets ++ later) 0 1 < 2
  first_below = value_at 0 1 (digits_of_bytes octets ++ later) (let fits = room octets later in omega arith)

  pub short_digit : 128 ≤ first → number (digits_of_bytes octets ++ later) 0 1 ≡ 1
  short_digit le = let a = first_joined in let b = type_below in let c = first_below in omega arith

  pub short_type : 128 ≤ first → first - 128 ≡ number (digits_of_bytes octets ++ later) 1 7
  short_type le = let a = first_joined in let b = short_digit le in omega arith

  pub long_digit : first < 128 → number (digits_of_bytes octets ++ later) 0 1 ≡ 0
  long_digit lt = let a = first_joined in omega arith

module _ (octets : List ℕ) (later : List Bool) (two : 2 ≤ length octets) (head : ℕ) (is : head ≡ number (digits_of_bytes octets ++ later) 0 16) where
  head_joined : head ≡ number (digits_of_bytes octets ++ later) 0 6 * 1024 + number (digits_of_bytes octets ++ later) 6 10
  head_joined = is ∙ number_joined (digits_of_bytes octets ++ later) 0 6 10 (let fits = room octets later in omega arith)

  type_below_long : number (digits_of_bytes octets ++ later) 6 10 < 1024
  type_below_long = value_at 6 10 (digits_of_bytes octets ++ later) (let fits = room octets later in omega arith)

  pub reserved_some : 1024 ≤ head → number (digits_of_bytes octets ++ later) 0 6 ≡ 0 → ⊥
  reserved_some le e = let a = head_joined in let b = type_below_long in omega arith

  pub reserved_none : head < 1024 → number (digits_of_bytes octets ++ later) 0 6 ≡ 0
  reserved_none lt = let a = head_joined in omega arith

  pub long_type : head < 1024 → head ≡ number (digits_of_bytes octets ++ later) 6 10
  long_type lt = let a = head_joined in let b = reserved_none lt in omega arith

  pub long_head : head < 1024 → number (digits_of_bytes octets ++ later) 0 1 ≡ 0
  long_head lt =
      let zeros = reserved_none lt in
      let joined = number_joined (digits_of_bytes octets ++ later) 0 1 5 (let fits = room octets later in omega arith) in
      omega arith
