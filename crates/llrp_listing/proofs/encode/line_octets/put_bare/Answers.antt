use Rattle.std.proofs.Common.{[], None, refl, sym, ◌∙◌, arith}
use Rattle.std.proofs.lemmas.List.{append-nil}
use Rattle.llrp_schema.specs.declared.kinds.Kind.TheVariants.{Parameter}
use Rattle.llrp_listing.proofs.Putting.{bare_passes, puts_parameter}
use Rattle.llrp_listing.proofs.encode.line_octets.put_bare.Goals as goal

pub returns : goal.returns
returns c = λ number.
    puts_parameter c.args.kind [] [] _ c.args.room.now.items c.append_front.new.room.items number None _ _ c.requires.said (bare_passes (Parameter c.args.kind) c.requires.fields c.requires.tail) (omega (arith, c.bare_front-front.ensures.all, c.bare_front-front.ensures.few)) refl c.bare_front-front.ensures.spelled (c.in_ok-append_front.ensures ∙ sym (append-nil _))
