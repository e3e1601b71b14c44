use Rattle.std.proofs.Common.{ℕ, ◌++◌, ◌∙◌, Bool, List, ap, arith}
use Rattle.tag_bits.specs.Digits.{digits}
use Rattle.llrp_schema.specs.Calls.Schema.{field_rule}
use Rattle.llrp_tree.specs.Spelling.{head_digits, head_of}
use Rattle.llrp_tree.proofs.TvLemmas.{few_width, head_bits, value_digits, whole_width}
use Rattle.llrp_tree.proofs.heads.tv_bits.Goals as goal

pub joined-requires-clause-few : goal.joined-requires-clause-few
joined-requires-clause-few c = omega (arith, few_width c.args.kind (field_rule c.args.rule.now) c.requires.rule)

pub joined-requires-clause-small : goal.joined-requires-clause-small
joined-requires-clause-small c = let rule = field_rule c.args.rule.now in omega (arith, few_width c.args.kind rule c.requires.rule, head_bits c.args.kind rule c.requires.rule, c.head-head.ensures.bits)

pub returns-clause-few : goal.returns-clause-few
returns-clause-few c = let rule = field_rule c.args.rule.now in omega (arith, few_width c.args.kind rule c.requires.rule, head_bits c.args.kind rule c.requires.rule, c.head-head.ensures.bits, c.joined.ensures.bits)

pub returns-clause-whole : goal.returns-clause-whole
returns-clause-whole c = let rule = field_rule c.args.rule.now in rw c.joined.ensures.bits (whole_width c.args.kind rule c.head-head.result.bits c.requires.rule c.head-head.ensures.bits)

pub returns-clause-some : goal.returns-clause-some
returns-clause-some c = let rule = field_rule c.args.rule.now in omega (arith, head_bits c.args.kind rule c.requires.rule, c.head-head.ensures.bits, c.joined.ensures.bits)

pub returns-clause-spelled : goal.returns-clause-spelled
returns-clause-spelled c =
    let rule = field_rule c.args.rule.now in
    ap (λ (bits : ℕ). digits bits c.joined.result.number) c.joined.ensures.bits ∙ c.joined.ensures.spelled
    ∙ ap (λ (ds : List Bool). ds ++ digits rule.width c.args.value) c.head-head.ensures.spelled
    ∙ ap (λ (ds : List Bool). head_digits (head_of c.args.kind 0) ++ ds) (value_digits c.args.kind rule c.args.value c.requires.rule)
