use Rattle.std.proofs.Common.{[], None, refl, sym, ◌∙◌, arith}
use Rattle.std.proofs.lemmas.List.{append-nil}
use Rattle.llrp_schema.specs.declared.kinds.Kind.TheVariants.{Message}
use Rattle.llrp_listing.proofs.Putting.{bare_message, bare_passes, passed, puts_message, small_version}
use Rattle.llrp_listing.proofs.encode.line_octets.put_bare_message.Goals as goal

pub message_front-front-requires-clause-short : goal.message_front-front-requires-clause-short
message_front-front-requires-clause-short c = omega (arith, bare_message c.args.kind c.requires.fields)

pub message_front-front-requires-clause-version : goal.message_front-front-requires-clause-version
message_front-front-requires-clause-version c = small_version c.args.kind c.args.version c.args.id [] [] c.requires.said

pub message_front-front-requires-clause-values : goal.message_front-front-requires-clause-values
message_front-front-requires-clause-values c =
    let kind = c.args.kind in
    (passed (Message kind) [] [] None (bare_passes (Message kind) c.requires.fields c.requires.tail) refl).0

pub returns : goal.returns
returns c = λ number.
    let kind = c.args.kind in
    puts_message kind c.args.version c.args.id [] [] _ c.args.room.now.items c.append_front.new.room.items number None 10 _ c.requires.said (bare_passes (Message kind) c.requires.fields c.requires.tail) (omega (arith, bare_message kind c.requires.fields)) refl c.message_front-front.ensures.spelled (c.in_ok-append_front.ensures ∙ sym (append-nil _))
