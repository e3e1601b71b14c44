use Rattle.std.proofs.Common.{◌≡◌, ℕ, Bool, List, length}
use Rattle.std.specs.Prelude.{drop}
use Rattle.std.specs.String.{string_bytes}
use Rattle.llrp_sides.specs.Calls.Captures.{EndAll}
use Rattle.llrp_sides.proofs.session.Session.end.Given as goal

-- with the ends of the pairs that are left, the ends of all of them are listed
abbrev pub invariant-pairs : goal.invariant-pairs
invariant-pairs l = record {
  size : length l.self.pairs.items ≡ l.place-end;
  rest : (lawful : Bool) (text : List ℕ) → EndAll (string_bytes l.time) (drop l.place l.self.pairs.items) l.self.is_lawful lawful l.text text → EndAll (string_bytes l.time) l.fn.self.pairs.items l.fn.self.is_lawful lawful l.fn.text text;
}
