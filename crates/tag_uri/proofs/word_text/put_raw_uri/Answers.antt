use Rattle.std.proofs.Common.{◌∙◌, sym, subst, List, ℕ, arith}
use Rattle.tag_uri.specs.Room.{HasText}
use Rattle.tag_uri.specs.Hexadecimal.{hexadecimal}
use Rattle.tag_uri.specs.TagText.{raw_start, raw_length}
use Rattle.std.proofs.lemmas.List.{append_assoc}
use Rattle.tag_uri.proofs.TextLaws.{raw_is}
use Rattle.tag_uri.proofs.WritingLemmas.{two_texts}
use Rattle.tag_uri.proofs.word_text.put_raw_uri.Goals as goal

pub returns-clause-text : goal.returns-clause-text
returns-clause-text c = subst (λ (x : List ℕ). HasText c.args.room.now c.put_hexadecimal.new.room c.args.at c.put_hexadecimal.result x)
    (append_assoc raw_start raw_length (hexadecimal 24 c.args.word) ∙ sym (raw_is c.args.word))
    (two_texts c.args.at c.put_text-digits_at.result c.put_hexadecimal.result c.args.room.now c.put_text-digits_at.new.room c.put_hexadecimal.new.room _ _ (omega (arith, c.requires, c.put_hexadecimal.ensures.end, c.put_text-digits_at.ensures.ends)) c.put_text-digits_at.ensures c.put_hexadecimal.ensures.text)
