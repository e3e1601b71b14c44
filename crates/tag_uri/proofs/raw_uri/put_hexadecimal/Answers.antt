use Rattle.std.proofs.Common.{ℕ, List, subst, arith}
use Rattle.tag_uri.specs.Room.{HasText}
use Rattle.tag_uri.proofs.HexadecimalLemmas.{joined_eights}
use Rattle.tag_uri.proofs.WritingLemmas.{two_texts}
use Rattle.tag_uri.proofs.raw_uri.put_hexadecimal.Goals as goal

pub returns-clause-text : goal.returns-clause-text
returns-clause-text c =
    let two = two_texts c.args.at c.put_text-second_at.result c.put_text-third_at.result c.args.room.now c.put_text-second_at.new.room c.put_text-third_at.new.room _ _ (omega (arith, c.requires, c.put_text-second_at.ensures.ends, c.put_text-third_at.ensures.ends)) c.put_text-second_at.ensures c.put_text-third_at.ensures in
    let three = two_texts c.args.at c.put_text-third_at.result c.put_text.result c.args.room.now c.put_text-third_at.new.room c.put_text.new.room _ _ (omega (arith, c.requires, c.put_text-second_at.ensures.ends, c.put_text-third_at.ensures.ends, c.put_text.ensures.ends)) two c.put_text.ensures in
    subst (λ (x : List ℕ). HasText c.args.room.now c.put_text.new.room c.args.at c.put_text.result x)
    (joined_eights c.args.word c.number-number.result _ _ _ c.number-number.ensures.number c.eight_digits-first.ensures c.eight_digits-second.ensures c.eight_digits-third.ensures) three
