use Rattle.std.proofs.Common.{◌++◌, arith}
use Rattle.tag_bits.specs.Digits.{digits_of_bytes}
use Rattle.llrp_explain.proofs.RefusedTexts.{header_none, header_one, header_two, header_three, header_four, on_ok}
use Rattle.llrp_explain.proofs.refused.push_header.Goals as goal

pub returns-then-fields-eq0 : goal.returns-then-fields-eq0
returns-then-fields-eq0 c = λ later. header_none (digits_of_bytes c.args.octets.now ++ later) c.args.text.now.items c.args.fields (omega (arith, c.if-fields-eq0.true))

pub returns-then-fields-eq1 : goal.returns-then-fields-eq1
returns-then-fields-eq1 c = λ later. header_one (digits_of_bytes c.args.octets.now ++ later) c.args.text.now.items c.push_read.new.text.items (c.in_ok-push_read.ensures later) c.args.fields (omega (arith, c.if-fields-eq1.true))

pub returns-then-fields-eq2 : goal.returns-then-fields-eq2
returns-then-fields-eq2 c = λ later. header_two (digits_of_bytes c.args.octets.now ++ later) c.args.text.now.items c.push_read.new.text.items (c.in_ok-push_read.ensures later) c.push_read-2.new.text.items (c.in_ok-push_read-2.ensures later) c.args.fields (omega (arith, c.if-fields-eq2.true))

pub returns-then-fields-eq3 : goal.returns-then-fields-eq3
returns-then-fields-eq3 c = λ later. header_three (digits_of_bytes c.args.octets.now ++ later) c.args.text.now.items c.push_read.new.text.items (c.in_ok-push_read.ensures later) c.push_read-2.new.text.items (c.in_ok-push_read-2.ensures later) c.push_read-3.new.text.items (c.in_ok-push_read-3.ensures later) c.args.fields (omega (arith, c.if-fields-eq3.true))

pub returns : goal.returns
returns c = on_ok c.push_read-4.result _ _ c.push_read-4.ensures (λ h later. header_four (digits_of_bytes c.args.octets.now ++ later) c.args.text.now.items c.push_read.new.text.items (c.in_ok-push_read.ensures later) c.push_read-2.new.text.items (c.in_ok-push_read-2.ensures later) c.push_read-3.new.text.items (c.in_ok-push_read-3.ensures later) c.push_read-4.new.text.items (h later) c.args.fields (omega (arith, c.if-fields-eq0.false, c.if-fields-eq1.false, c.if-fields-eq2.false, c.if-fields-eq3.false, c.requires.few)))
