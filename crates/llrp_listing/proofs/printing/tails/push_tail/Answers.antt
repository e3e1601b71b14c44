use Rattle.std.proofs.Common.{◌++◌, ap, ◌∙◌}
use Rattle.std.proofs.lemmas.Result.{on_ok_weaker}
use Rattle.llrp_listing.proofs.TailLemmas.{text_started, bits_started, data_started}
use Rattle.llrp_listing.proofs.printing.tails.push_tail.Goals as goal

pub returns-in-Text : goal.returns-in-Text
returns-in-Text c = on_ok_weaker c.push_two-in-Text.result (λ e. e ∙ ap (λ x. c.args.text.now ++ x) (text_started c.args.form c.in-Text.is)) c.push_two-in-Text.ensures

pub returns-in-Bits : goal.returns-in-Bits
returns-in-Bits c = on_ok_weaker c.push_two-in-Bits.result (λ e. e ∙ ap (λ x. c.args.text.now ++ x) (bits_started c.args.form c.in-Bits.is)) c.push_two-in-Bits.ensures

pub returns-in-Data : goal.returns-in-Data
returns-in-Data c = on_ok_weaker c.push_two-in-Data.result (λ e. e ∙ ap (λ x. c.args.text.now ++ x) (data_started c.args.form c.in-Data.is)) c.push_two-in-Data.ensures
