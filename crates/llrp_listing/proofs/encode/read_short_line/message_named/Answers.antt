use Rattle.llrp_listing.proofs.NamedLines.{bare_message_says}
use Rattle.std.proofs.Common.{refl, arith}
use Rattle.llrp_listing.proofs.encode.read_short_line.message_named.Goals as goal

pub returns : goal.returns
returns c = bare_message_says c.args.kind c.in_ok-version.version c.in_ok-id.id c.in_ok-end.end c.args.line.now refl c.in_ok-version.ensures.known (omega (arith, c.if-id.false)) c.in_ok-id.ensures c.requires.short (c.if-not-is_bare.ensures.fields refl) c.requires.starts c.in_ok-end.ensures.named c.in_ok-version.ensures.digits
