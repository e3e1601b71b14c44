use Rattle.std.proofs.Common.{◌++◌, length, arith}
use Rattle.tag_bits.specs.Digits.{digits_of_bytes}
use Rattle.std.proofs.lemmas.Result.{on_ok_weaker}
use Rattle.llrp_explain.proofs.RefusedParts.{tlv_none_refused, tlv_whole, tlv_refused}
use Rattle.llrp_explain.proofs.refused.push_refused_tlv.Goals as goal

pub returns-then-count-eq0 : goal.returns-then-count-eq0
returns-then-count-eq0 c = λ later w. tlv_none_refused c.args.reason c.tlv_count-count.result c.args.bit c.args.level (digits_of_bytes c.args.octets.now ++ later) c.args.text.now.items (omega (arith, c.if-count-eq0.true)) c.tlv_count-count.ensures.fields

pub returns-then-octets-lt4 : goal.returns-then-octets-lt4
returns-then-octets-lt4 c = λ later w. tlv_whole c.args.reason c.tlv_count-count.result (length c.args.octets.now) (omega (arith, c.if-count-eq0.false)) c.tlv_count-count.ensures.fields (omega (arith, c.if-octets-lt4.true)) w

pub returns : goal.returns
returns c = on_ok_weaker c.push_tlv.result (λ e later w. tlv_refused c.args.reason c.tlv_count-count.result c.args.bit c.args.level (digits_of_bytes c.args.octets.now ++ later) _ _ _ (omega (arith, c.if-count-eq0.false)) c.tlv_count-count.ensures.fields c.in_ok-push_heading.ensures (e later)) c.push_tlv.ensures
