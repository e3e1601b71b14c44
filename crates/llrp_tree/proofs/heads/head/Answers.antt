use Rattle.std.proofs.Common.{◌≡◌, ◌∙◌, ℕ, true, false, arith, ap, refl}
use Rattle.tag_bits.specs.Digits.{digits}
use Rattle.llrp_schema.specs.Schema.{is_tv}
use Rattle.llrp_schema.proofs.TableLaws.{param_number_fits}
use Rattle.llrp_tree.proofs.SpellingLemmas.{tv_number, tv_head, tlv_head}
use Rattle.llrp_tree.proofs.heads.head.Goals as goal

pub returns-then-is_tv-clause-spelled : goal.returns-then-is_tv-clause-spelled
returns-then-is_tv-clause-spelled c =
    let short : is_tv c.args.kind ≡ true = cc (c.if-is_tv.true, c.is_tv.ensures) in
    rw c.number-number.ensures (tv_head c.args.kind c.args.octets short)

pub returns-then-is_tv-clause-below : goal.returns-then-is_tv-clause-below
returns-then-is_tv-clause-below c =
    let short : is_tv c.args.kind ≡ true = cc (c.if-is_tv.true, c.is_tv.ensures) in
    omega (arith, tv_number c.args.kind short, c.number-number.ensures)

pub returns-then-is_tv-clause-bits : goal.returns-then-is_tv-clause-bits
returns-then-is_tv-clause-bits c =
    let short : is_tv c.args.kind ≡ true = cc (c.if-is_tv.true, c.is_tv.ensures) in
    rw short refl

pub joined-requires-clause-value : goal.joined-requires-clause-value
joined-requires-clause-value c = omega (arith, param_number_fits c.args.kind, c.number-number.ensures)

pub returns-clause-spelled : goal.returns-clause-spelled
returns-clause-spelled c =
    let long : is_tv c.args.kind ≡ false = cc (c.if-is_tv.false, c.is_tv.ensures) in
    ap (λ (b : ℕ). digits b c.joined.result.number) c.joined.ensures.bits ∙ c.joined.ensures.spelled
    ∙ rw c.number-number.ensures (tlv_head c.args.kind c.args.octets long (omega (arith, c.requires)))

pub returns-clause-bits : goal.returns-clause-bits
returns-clause-bits c =
    let long : is_tv c.args.kind ≡ false = cc (c.if-is_tv.false, c.is_tv.ensures) in
    c.joined.ensures.bits ∙ rw long refl
