-- The header begins an open tree, whose end is the message's.
use Rattle.std.proofs.Common.{◌*◌, [], refl, arith}
use Rattle.std.proofs.lemmas.Result.{err_from_is_err_and}
use Rattle.llrp_tree.specs.Tree.{forest}
use Rattle.llrp_tree.specs.Spelling.{message}
use Rattle.llrp_tree.proofs.OctetLemmas.{are_octets}
use Rattle.llrp_tree.proofs.HeaderLemmas.{own_header, own_header_fault}
use Rattle.llrp_tree.proofs.BodyLemmas.{of_set, is_length, within_limit, frame_begins, frame_stands, body_tells, body_is_frame}
use Rattle.llrp_tree.proofs.decode.decode_frame_in.Goals as goal

pub returns-in_err-header : goal.returns-in_err-header
returns-in_err-header c =
    let p = err_from_is_err_and c.from_residual.result c.from_residual.ensures.1 in
    rw (p.1, p.2) (own_header_fault c.args.set c.args.limit c.args.frame.now c.in_err-header.field-0.0 c.in_err-header.ensures.fault)

pub read_body-requires-clause-small : goal.read_body-requires-clause-small
read_body-requires-clause-small c =
    let h = c.in_ok-header.header in
    let says = own_header c.args.set c.args.limit c.args.frame.now h c.in_ok-header.ensures.header in
    omega (
      arith,
      is_length c.args.set c.args.frame.now c.args.limit h.version h.kind h.octets h.id says c.requires.own_length c.requires.header,
      within_limit c.args.set c.args.frame.now c.args.limit h.version h.kind h.octets h.id says c.requires.own_length c.requires.header,
      c.requires.most,
    )

pub read_body-requires-clause-begins : goal.read_body-requires-clause-begins
read_body-requires-clause-begins c =
    let h = c.in_ok-header.header in
    let says = own_header c.args.set c.args.limit c.args.frame.now h c.in_ok-header.ensures.header in
    frame_begins c.args.set c.args.frame.now c.args.limit h.version h.kind h.octets h.id says c.requires.own_length c.requires.header

pub returns-in_err-body : goal.returns-in_err-body
returns-in_err-body c =
    let h = c.in_ok-header.header in
    let says = own_header c.args.set c.args.limit c.args.frame.now h c.in_ok-header.ensures.header in
    let stands = frame_stands c.args.set c.args.frame.now c.args.limit h.version h.kind h.octets h.id says c.requires.own_length c.requires.header in
    let p = err_from_is_err_and c.from_residual-in_err-body.result c.from_residual-in_err-body.ensures.1 in
    rw (p.1, p.2) (body_tells c.args.set c.args.frame.now c.args.limit h.version h.kind h.octets h.id says c.requires.own_length c.requires.header c.in_err-body.field-0.0 (c.in_err-body.ensures.read (message h.version h.kind h.octets h.id) [] refl refl stands))

pub of_lawful-requires : goal.of_lawful-requires
of_lawful-requires c =
    let h = c.in_ok-header.header in
    let says = own_header c.args.set c.args.limit c.args.frame.now h c.in_ok-header.ensures.header in
    let stands = frame_stands c.args.set c.args.frame.now c.args.limit h.version h.kind h.octets h.id says c.requires.own_length c.requires.header in
    let frame = body_is_frame c.args.set c.args.frame.now c.args.limit h.version h.kind h.octets h.id says c.requires.own_length c.requires.header c.read_body.new.fields.items c.in_ok-body.body.tail (forest c.in_ok-body.body.children) (8 * c.in_ok-body.body.at) c.requires.most (are_octets c.args.frame.now (λ i. c.type_inv.frame i)) c.in_ok-body.ensures.count c.in_ok-body.ensures.whole (c.in_ok-body.ensures.read (message h.version h.kind h.octets h.id) [] refl refl stands) in
    rw c.as_slice.ensures.value frame.lawful

pub returns : goal.returns
returns c =
    let h = c.in_ok-header.header in
    let says = own_header c.args.set c.args.limit c.args.frame.now h c.in_ok-header.ensures.header in
    let stands = frame_stands c.args.set c.args.frame.now c.args.limit h.version h.kind h.octets h.id says c.requires.own_length c.requires.header in
    let frame = body_is_frame c.args.set c.args.frame.now c.args.limit h.version h.kind h.octets h.id says c.requires.own_length c.requires.header c.read_body.new.fields.items c.in_ok-body.body.tail (forest c.in_ok-body.body.children) (8 * c.in_ok-body.body.at) c.requires.most (are_octets c.args.frame.now (λ i. c.type_inv.frame i)) c.in_ok-body.ensures.count c.in_ok-body.ensures.whole (c.in_ok-body.ensures.read (message h.version h.kind h.octets h.id) [] refl refl stands) in
    rw (c.of_lawful.ensures.value, c.as_slice.ensures.value) (frame, of_set c.args.set c.args.frame.now c.args.limit h.version h.kind h.octets h.id says c.requires.own_length c.requires.header)
