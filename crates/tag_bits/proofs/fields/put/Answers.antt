use Rattle.std.proofs.Common.{◌≡◌, ◌<◌, ◌-◌, ◌^◌, length, take, drop, get_or, arith, ◌∙◌, length-take, length-drop}
use Rattle.tag_bits.proofs.FieldLemmas.{put_in_octet, put_over_octets, upper, upper_fits}
use Rattle.tag_bits.proofs.fields.put.Goals as goal

pub fill-requires : goal.fill-requires
unfolding upper
fill-requires c =
    let r = c.span_of-first.result in
    let e = c.span_of-first.ensures in
    let small : get_or c.args.bytes.now r.first 0 < 2 ^ 8 = omega arith in
    let long : length (take (r.last - r.first) (drop r.first c.args.bytes.now)) ≡ r.last - r.first = omega (arith, length-take (r.last - r.first) (drop r.first c.args.bytes.now), length-drop r.first c.args.bytes.now) in
    record { fits = rw long (upper_fits (get_or c.args.bytes.now r.first 0) r.first r.before r.last r.kept c.args.place c.args.width c.args.value e.start e.end (omega arith) e.before e.kept c.requires.most small c.requires.fits) }

pub returns-then-first-last : goal.returns-then-first-last
returns-then-first-last c =
    let r = c.span_of-first.result in
    let e = c.span_of-first.ensures in
    put_in_octet c.args.bytes.now r.last r.before r.kept c.args.place c.args.width c.args.value c.octet_with.result (omega arith) e.end (omega arith) e.kept c.octet_with.ensures

pub returns-else-first-last : goal.returns-else-first-last
unfolding upper
returns-else-first-last c =
    let r = c.span_of-first.result in
    let e = c.span_of-first.ensures in
    let small : get_or c.args.bytes.now r.first 0 < 2 ^ 8 = omega arith in
    let long : length (take (r.last - r.first) (drop r.first c.args.bytes.now)) ≡ r.last - r.first = omega (arith, length-take (r.last - r.first) (drop r.first c.args.bytes.now), length-drop r.first c.args.bytes.now) in
    put_over_octets c.args.bytes.now c.fill.new.octets r.first r.before r.last r.kept c.args.place c.args.width c.args.value c.octet_with-else-first-last.result e.start e.end (omega arith) (omega arith) e.before e.kept c.requires.most small c.requires.fits (c.fill.auto.octets ∙ long) (rw long at c.fill.ensures) c.octet_with-else-first-last.ensures
