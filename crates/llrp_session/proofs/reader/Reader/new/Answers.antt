use Rattle.std.proofs.Common.{◌≡◌, [], rules, arith, refl, ap, inl}
use Rattle.llrp_session.specs.Table.{octets_of}
use Rattle.llrp_session.proofs.reader.Reader.new.Goals as goal

pub invariant_of-result : goal.invariant_of-result
unfolding octets_of
invariant_of-result c =
    let none : c.new.result.items ≡ [] = search rules in
    let empty : octets_of c.new.result.items ≡ 0 = ap octets_of none in
    record { version = inl refl; least = omega arith; limit = omega arith; octets = omega (arith, empty); reports = search rules; few = search rules }

pub returns : goal.returns
returns c = search rules
