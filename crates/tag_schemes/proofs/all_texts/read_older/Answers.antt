use Rattle.std.proofs.Common.{◌<◌, ◌^◌, refl, inr, rules}
use Rattle.tag_schemes.proofs.TextLaws.{is_raw}
use Rattle.tag_schemes.proofs.all_texts.read_older.Goals as goal

pub returns-then-is_further-clause-err : goal.returns-then-is_further-clause-err
returns-then-is_further-clause-err c =
    let here : c.in-Ok.word < 2 ^ 96 = search rules in
    inr (inr (c.requires, inr (refl, is_raw c.in-Ok.word c.args.text.now here c.in-Ok.ensures.ok (c.is_further.ensures.0 c.if-is_further.true))))

pub returns-else-is_further-clause-ok : goal.returns-else-is_further-clause-ok
returns-else-is_further-clause-ok c = inr (inr (λ further. let yes = c.is_further.ensures.1 further in let denied = c.if-is_further.false in cc, c.in-Ok.ensures.ok))
