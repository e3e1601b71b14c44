use Rattle.std.proofs.Common.{◌≡◌, ℕ, ◌+◌, List, ◌∷◌, [], ◌++◌, ◌-◌, ◌≤◌, take, drop, length-append, sym, ap, ◌∙◌, subst, arith, length}
use Rattle.tag_uri.specs.Room.{HasText}
use Rattle.tag_uri.specs.TagText.{tag_start}
use Rattle.tag_uri.proofs.PrintLemmas.{at_row}
use Rattle.tag_uri.proofs.RowDigits.{row_fits}
use Rattle.tag_uri.proofs.UriLemmas.{six_parts, partitioned_uri, front_few}
use Rattle.tag_uri.proofs.WritingLemmas.{ends_of}
use Rattle.tag_uri.proofs.print_uri.put_partitioned.Goals as goal

pub returns-clause-text : goal.returns-clause-text
returns-clause-text g c =
    let l = g.S.Scheme.layout in
    let row = c.in-Some.row in
    let a = at_row c.args.kind l _ _ _ _ _ c.requires.known g.met.S.Scheme.sound c.requires.lawful in
    let name : List ℕ = c.name-name.result.now in
    let end : ℕ = c.args.at + 16 + length name + c.args.company_digits + row.reference_digits + c.tail_length-tail.result in
    let start : List ℕ = tag_start ++ (name ++ 58 ∷ []) in
    let placed = sym c.row.ensures ∙ c.in-Some.is in
    let fits = row_fits l g.met.S.Scheme.sound (12 - c.args.company_digits) row placed in
    let some : 6 ≤ c.args.company_digits = omega (arith, fits.partition, a.short) in
    let few : length name + c.args.company_digits + row.reference_digits ≤ 33 = front_few c.args.kind l row name _ _ _ _ _ c.requires.known c.name-name.ensures g.met.S.Scheme.sound c.requires.lawful c.ranges.last.fits placed in
    let met : c.put_start.result ≡ c.put_octet.result = omega (arith, some, c.put_tail-last_at.ensures.begin, c.put_padded-reference_at.ensures.begin, c.put_octet-dot_at.ensures.begin, c.put_padded-company_at.ensures.begin, c.put_octet-first_dot_at.ensures.begin, c.put_octet.ensures.begin, c.put_start.ensures.ends, length-append tag_start (name ++ 58 ∷ []), length-append name (58 ∷ [])) in
    let octets = six_parts c.args.at end c.put_tail-last_at.result c.put_padded-reference_at.result c.put_octet-dot_at.result c.put_padded-company_at.result c.put_octet-first_dot_at.result c.put_octet.result
    c.args.room.now c.put_tail-last_at.new.room c.put_padded-reference_at.new.room c.put_octet-dot_at.new.room c.put_padded-company_at.new.room c.put_octet-first_dot_at.new.room c.put_octet.new.room c.put_start.new.room
    _ _ _ start (48 + c.args.filter)
    c.put_tail-last_at.ensures.written c.put_padded-reference_at.ensures.written c.put_octet-dot_at.ensures.written c.put_padded-company_at.ensures.written c.put_octet-first_dot_at.ensures.written c.put_octet.ensures.written
    (c.put_octet.ensures.kept c.args.at (omega (arith, some, c.put_tail-last_at.ensures.begin, c.put_padded-reference_at.ensures.begin, c.put_octet-dot_at.ensures.begin, c.put_padded-company_at.ensures.begin, c.put_octet-first_dot_at.ensures.begin, c.put_octet.ensures.begin)) ∙ c.put_octet-first_dot_at.ensures.kept c.args.at (omega (arith, some, c.put_tail-last_at.ensures.begin, c.put_padded-reference_at.ensures.begin, c.put_octet-dot_at.ensures.begin, c.put_padded-company_at.ensures.begin, c.put_octet-first_dot_at.ensures.begin, c.put_octet.ensures.begin)) ∙ c.put_padded-company_at.ensures.kept c.args.at (omega (arith, some, c.put_tail-last_at.ensures.begin, c.put_padded-reference_at.ensures.begin, c.put_octet-dot_at.ensures.begin, c.put_padded-company_at.ensures.begin, c.put_octet-first_dot_at.ensures.begin, c.put_octet.ensures.begin))
    ∙ c.put_octet-dot_at.ensures.kept c.args.at (omega (arith, some, c.put_tail-last_at.ensures.begin, c.put_padded-reference_at.ensures.begin, c.put_octet-dot_at.ensures.begin, c.put_padded-company_at.ensures.begin, c.put_octet-first_dot_at.ensures.begin, c.put_octet.ensures.begin)) ∙ c.put_padded-reference_at.ensures.kept c.args.at (omega (arith, some, c.put_tail-last_at.ensures.begin, c.put_padded-reference_at.ensures.begin, c.put_octet-dot_at.ensures.begin, c.put_padded-company_at.ensures.begin, c.put_octet-first_dot_at.ensures.begin, c.put_octet.ensures.begin)) ∙ c.put_tail-last_at.ensures.kept c.args.at (omega (arith, some, c.put_tail-last_at.ensures.begin, c.put_padded-reference_at.ensures.begin, c.put_octet-dot_at.ensures.begin, c.put_padded-company_at.ensures.begin, c.put_octet-first_dot_at.ensures.begin, c.put_octet.ensures.begin)))
    (c.put_start.ensures.octets ∙ ap (λ (i : ℕ). take c.args.at c.put_octet.new.room ++ (start ++ drop i c.put_octet.new.room)) met) in
    let uri = partitioned_uri c.args.kind l row name c.args.filter c.args.company_digits c.args.company c.args.reference c.args.last _ c.requires.known c.name-name.ensures g.met.S.Scheme.sound a.short placed (c.ZERO_TAIL-2.ensures ∙ g.met.S.Scheme.zero_tail_is) a.filter_fits in
    subst (λ (x : List ℕ). HasText c.args.room.now c.put_start.new.room c.args.at end x) uri
    (ends_of c.args.at end c.args.room.now c.put_start.new.room _
    (omega (arith, c.put_start.auto.room, c.put_octet.ensures.len, c.put_octet-first_dot_at.ensures.len, c.put_padded-company_at.ensures.len, c.put_octet-dot_at.ensures.len, c.put_padded-reference_at.ensures.len, c.put_tail-last_at.ensures.len))
    (omega arith) (omega (arith, c.tail_length-tail.ensures.few, few, c.requires.room)) octets)

pub put_tail-last_at-requires-clause-within : goal.put_tail-last_at-requires-clause-within
put_tail-last_at-requires-clause-within g c =
    let few = front_few c.args.kind g.S.Scheme.layout c.in-Some.row c.name-name.result.now _ _ _ _ _ c.requires.known c.name-name.ensures g.met.S.Scheme.sound c.requires.lawful c.ranges.last.fits (sym c.row.ensures ∙ c.in-Some.is) in
    omega (arith, few, c.tail_length-tail.ensures.few, c.requires.room)

pub put_padded-reference_at-requires-clause-within : goal.put_padded-reference_at-requires-clause-within
put_padded-reference_at-requires-clause-within g c =
    let few = front_few c.args.kind g.S.Scheme.layout c.in-Some.row c.name-name.result.now _ _ _ _ _ c.requires.known c.name-name.ensures g.met.S.Scheme.sound c.requires.lawful c.ranges.last.fits (sym c.row.ensures ∙ c.in-Some.is) in
    omega (arith, few, c.tail_length-tail.ensures.few, c.requires.room, c.put_tail-last_at.ensures.begin, c.put_tail-last_at.ensures.len)

pub returns-clause-most : goal.returns-clause-most
returns-clause-most g c =
    let few = front_few c.args.kind g.S.Scheme.layout c.in-Some.row c.name-name.result.now _ _ _ _ _ c.requires.known c.name-name.ensures g.met.S.Scheme.sound c.requires.lawful c.ranges.last.fits (sym c.row.ensures ∙ c.in-Some.is) in
    omega (arith, few, c.tail_length-tail.ensures.few)
