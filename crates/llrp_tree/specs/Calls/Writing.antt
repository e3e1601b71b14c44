-- What the functions that write octets promise.
use Rattle.std.specs.Prelude.{◌≡◌, ℕ, List, ◌++◌, Bool}
use Rattle.tag_bits.specs.Digits.{digits_of_bytes}
use Rattle.llrp_tree.specs.Lawful.{AreOctets}

-- new is old with octets of these digits at its end
pub record Appends (old new : List ℕ) (ds : List Bool) : Type 0 where
  pub more : List ℕ
  pub whole : new ≡ old ++ more
  pub octets : AreOctets more
  pub spelled : digits_of_bytes more ≡ ds
