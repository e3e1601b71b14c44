use Rattle.std.proofs.Common.{◌++◌, arith}
use Rattle.tag_bits.specs.Digits.{digits_of_bytes}
use Rattle.llrp_explain.proofs.RefusedTexts.{tlv_none, tlv_one, tlv_two, tlv_three, on_ok}
use Rattle.llrp_explain.proofs.refused.push_tlv.Goals as goal

pub returns-then-fields-eq0 : goal.returns-then-fields-eq0
returns-then-fields-eq0 c = λ later. tlv_none c.args.bit c.args.level (digits_of_bytes c.args.octets.now ++ later) c.args.text.now.items c.args.fields (omega (arith, c.if-fields-eq0.true))

pub returns-then-fields-eq1 : goal.returns-then-fields-eq1
returns-then-fields-eq1 c = λ later. tlv_one c.args.bit c.args.level (digits_of_bytes c.args.octets.now ++ later) c.args.text.now.items c.push_read.new.text.items (c.in_ok-push_read.ensures later) c.args.fields (omega (arith, c.if-fields-eq1.true))

pub returns-then-fields-eq2 : goal.returns-then-fields-eq2
returns-then-fields-eq2 c = λ later. tlv_two c.args.bit c.args.level (digits_of_bytes c.args.octets.now ++ later) c.args.text.now.items c.push_read.new.text.items (c.in_ok-push_read.ensures later) c.push_read-2.new.text.items (c.in_ok-push_read-2.ensures later) c.args.fields (omega (arith, c.if-fields-eq2.true))

pub returns : goal.returns
returns c = on_ok c.push_read-3.result _ _ c.push_read-3.ensures (λ h later. tlv_three c.args.bit c.args.level (digits_of_bytes c.args.octets.now ++ later) c.args.text.now.items c.push_read.new.text.items (c.in_ok-push_read.ensures later) c.push_read-2.new.text.items (c.in_ok-push_read-2.ensures later) c.push_read-3.new.text.items (h later) c.args.fields (omega (arith, c.if-fields-eq0.false, c.if-fields-eq1.false, c.if-fields-eq2.false, c.requires.few)))
