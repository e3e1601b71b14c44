use Rattle.std.proofs.Common.{ℕ, List, ◌++◌, ◌∷◌, [], subst, arith}
use Rattle.tag_uri.specs.Room.{HasText}
use Rattle.tag_uri.specs.TagText.{tag_start}
use Rattle.tag_uri.proofs.WritingLemmas.{two_texts}
use Rattle.tag_uri.proofs.print_uri.put_start.Goals as goal

pub returns : goal.returns
returns c =
    let name : List ℕ = c.as_bytes.result.now in
    let within = c.requires in
    let first = two_texts c.args.at c.put_text-name_at.result c.put_text-colon_at.result c.args.room.now c.put_text-name_at.new.room c.put_text-colon_at.new.room tag_start name
    (omega (arith, c.put_text-name_at.ensures.ends, c.put_text-colon_at.ensures.ends)) c.put_text-name_at.ensures c.put_text-colon_at.ensures in
    let all = two_texts c.args.at c.put_text-colon_at.result c.put_text.result c.args.room.now c.put_text-colon_at.new.room c.put_text.new.room (tag_start ++ name) (58 ∷ [])
    (omega (arith, c.put_text-name_at.ensures.ends, c.put_text-colon_at.ensures.ends, c.put_text.ensures.ends)) first c.put_text.ensures in
    subst (λ (x : List ℕ). HasText c.args.room.now c.put_text.new.room c.args.at c.put_text.result ((tag_start ++ x) ++ 58 ∷ [])) c.as_bytes.ensures.value all
