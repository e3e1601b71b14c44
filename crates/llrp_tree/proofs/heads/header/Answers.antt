use Rattle.std.proofs.Common.{◌≡◌, ◌∙◌, ◌+◌, ◌++◌, ℕ, arith, ap, List, Bool}
use Rattle.tag_bits.specs.Digits.{digits}
use Rattle.llrp_schema.proofs.TableLaws.{message_number_fits}
use Rattle.llrp_schema.specs.declared.kinds.Kind.TheVariants.{Message}
use Rattle.llrp_schema.specs.Schema.{number_of}
use Rattle.llrp_tree.specs.Spelling.{head_digits}
use Rattle.llrp_tree.proofs.SpellingLemmas.{message_start}
use Rattle.llrp_tree.proofs.SpelledLemmas.{four_parts}
use Rattle.llrp_tree.proofs.heads.header.Goals as goal

pub joined-requires-clause-value : goal.joined-requires-clause-value
joined-requires-clause-value c = omega (arith, message_number_fits c.args.kind, c.number-number.ensures, c.requires)

pub returns-clause-spelled : goal.returns-clause-spelled
unfolding head_digits
returns-clause-spelled c =
    let n = c.joined.result.number in
    let rest = c.joined-rest.result in
    let wide : 80 ≡ 16 + rest.bits = omega (arith, c.joined-rest.ensures.bits) in
    let tail : digits rest.bits rest.number ≡ digits 32 c.args.octets ++ digits 32 c.args.id = ap (λ (b : ℕ). digits b rest.number) c.joined-rest.ensures.bits ∙ c.joined-rest.ensures.spelled in
    ap (λ (b : ℕ). digits b n) wide ∙ c.joined.ensures.spelled
    ∙ rw (tail, c.number-number.ensures) (ap (λ (x : List Bool). x ++ (digits 32 c.args.octets ++ digits 32 c.args.id)) (message_start c.args.version c.args.kind (omega (arith, c.requires))) ∙ four_parts (digits 3 0 ++ digits 3 c.args.version ++ digits 10 (number_of (Message c.args.kind))) (digits 32 c.args.octets) (digits 32 c.args.id))
