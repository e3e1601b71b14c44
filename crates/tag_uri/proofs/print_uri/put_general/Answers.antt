use Rattle.std.proofs.Common.{◌≡◌, ℕ, ◌+◌, List, ◌∷◌, [], ◌++◌, take, drop, length-append, ap, ◌∙◌, subst, arith, length}
use Rattle.tag_uri.specs.Room.{HasText}
use Rattle.tag_uri.specs.TagText.{tag_start}
use Rattle.tag_uri.proofs.UriLemmas.{five_parts, general_uri}
use Rattle.tag_uri.proofs.WritingLemmas.{ends_of}
use Rattle.tag_uri.proofs.print_uri.put_general.Goals as goal

pub returns-clause-text : goal.returns-clause-text
returns-clause-text c =
    let name : List ℕ = c.name-name.result.now in
    let start : List ℕ = tag_start ++ (name ++ 58 ∷ []) in
    let six : length name ≡ 6 = ap length c.name-name.ensures in
    let end : ℕ = c.args.at + 15 + length name + c.count_of-managers.result + c.count_of-classes.result + c.count_of-serials.result in
    let met : c.put_start.result ≡ c.put_plain.result = omega (arith, c.put_plain-serial_at.ensures.begin, c.put_octet-dot_at.ensures.begin, c.put_plain-class_at.ensures.begin, c.put_octet-first_dot_at.ensures.begin, c.put_plain.ensures.begin, six, c.put_start.ensures.ends, length-append tag_start (name ++ 58 ∷ []), length-append name (58 ∷ [])) in
    let octets = five_parts c.args.at end c.put_plain-serial_at.result c.put_octet-dot_at.result c.put_plain-class_at.result c.put_octet-first_dot_at.result c.put_plain.result
    c.args.room.now c.put_plain-serial_at.new.room c.put_octet-dot_at.new.room c.put_plain-class_at.new.room c.put_octet-first_dot_at.new.room c.put_plain.new.room c.put_start.new.room
    _ _ _ start
    c.put_plain-serial_at.ensures.written c.put_octet-dot_at.ensures.written c.put_plain-class_at.ensures.written c.put_octet-first_dot_at.ensures.written c.put_plain.ensures.written
    (c.put_plain.ensures.kept c.args.at (omega (arith, c.put_plain-serial_at.ensures.begin, c.put_octet-dot_at.ensures.begin, c.put_plain-class_at.ensures.begin, c.put_octet-first_dot_at.ensures.begin, c.put_plain.ensures.begin, six)) ∙ c.put_octet-first_dot_at.ensures.kept c.args.at (omega (arith, c.put_plain-serial_at.ensures.begin, c.put_octet-dot_at.ensures.begin, c.put_plain-class_at.ensures.begin, c.put_octet-first_dot_at.ensures.begin, c.put_plain.ensures.begin, six)) ∙ c.put_plain-class_at.ensures.kept c.args.at (omega (arith, c.put_plain-serial_at.ensures.begin, c.put_octet-dot_at.ensures.begin, c.put_plain-class_at.ensures.begin, c.put_octet-first_dot_at.ensures.begin, c.put_plain.ensures.begin, six)) ∙ c.put_octet-dot_at.ensures.kept c.args.at (omega (arith, c.put_plain-serial_at.ensures.begin, c.put_octet-dot_at.ensures.begin, c.put_plain-class_at.ensures.begin, c.put_octet-first_dot_at.ensures.begin, c.put_plain.ensures.begin, six)) ∙ c.put_plain-serial_at.ensures.kept c.args.at (omega (arith, c.put_plain-serial_at.ensures.begin, c.put_octet-dot_at.ensures.begin, c.put_plain-class_at.ensures.begin, c.put_octet-first_dot_at.ensures.begin, c.put_plain.ensures.begin, six)))
    (c.put_start.ensures.octets ∙ ap (λ (i : ℕ). take c.args.at c.put_plain.new.room ++ (start ++ drop i c.put_plain.new.room)) met) in
    let uri = general_uri c.args.manager c.args.object_class c.args.serial name c.name-name.ensures in
    subst (λ (x : List ℕ). HasText c.args.room.now c.put_start.new.room c.args.at end x) uri
    (ends_of c.args.at end c.args.room.now c.put_start.new.room _
    (omega (arith, c.put_start.auto.room, c.put_plain.ensures.len, c.put_octet-first_dot_at.ensures.len, c.put_plain-class_at.ensures.len, c.put_octet-dot_at.ensures.len, c.put_plain-serial_at.ensures.len))
    (omega arith) (omega (arith, six, c.count_of-managers.ensures.few, c.count_of-classes.ensures.few, c.count_of-serials.ensures.few, c.requires.room)) octets)
