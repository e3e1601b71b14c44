use Rattle.llrp_explain.proofs.JsonLemmas.{cut_name, cut_value, uncut_name, uncut_value}
use Rattle.llrp_explain.proofs.json.cut_last.Goals as goal

pub returns-in-None-clause-front : goal.returns-in-None-clause-front
returns-in-None-clause-front c = uncut_name c.args.octet c.args.text.now _ c.in-None.ensures c.split_at.ensures.front

pub returns-in-None-clause-back : goal.returns-in-None-clause-back
returns-in-None-clause-back c = uncut_value c.args.octet c.args.text.now _ c.in-None.ensures c.split_at.ensures.back

pub returns-in-Some-clause-front : goal.returns-in-Some-clause-front
returns-in-Some-clause-front c = cut_name c.args.octet c.args.text.now _ c.in-Some.place c.in-Some.ensures.0 c.in-Some.ensures.1 c.split_at-in-Some.ensures.front

pub returns-in-Some-clause-back : goal.returns-in-Some-clause-back
returns-in-Some-clause-back c = cut_value c.args.octet c.args.text.now c.split_at-in-Some.result.1.now _ c.in-Some.place c.in-Some.ensures.0 c.in-Some.ensures.1 c.split_at-in-Some.ensures.back c.skip.ensures
