use Rattle.std.proofs.Common.{◌≡◌, List, [], ap, arith}
use Rattle.llrp_schema.specs.declared.kinds.Kind.TheVariants.{Parameter}
use Rattle.llrp_schema.specs.Schema.{FieldRule, bits_of, fields_of, tail_of}
use Rattle.llrp_tree.specs.Lawful.{body_octets, count_octets}
use Rattle.llrp_tree.proofs.heads.bare_front.Goals as goal

pub returns-clause-all : goal.returns-clause-all
unfolding body_octets
returns-clause-all c =
    let none : bits_of (fields_of (Parameter c.args.kind)) ≡ bits_of [] = ap (λ (rules : List FieldRule). bits_of rules) c.requires.fields in
    let absent : count_octets (tail_of (Parameter c.args.kind)) ≡ 0 = ap count_octets c.requires.tail in
    omega (arith, c.in_front.ensures.count, c.head.ensures.bits, none, absent)
