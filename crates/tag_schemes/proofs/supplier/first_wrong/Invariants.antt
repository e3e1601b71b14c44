use Rattle.std.proofs.Common.{take}
use Rattle.tag_schemes.specs.Suppliers.{MayStand}
use Rattle.tag_schemes.proofs.supplier.first_wrong.Given as goal

abbrev pub invariant-loop-place : goal.invariant-loop-place
invariant-loop-place l = MayStand 0 (take l.place l.code)
