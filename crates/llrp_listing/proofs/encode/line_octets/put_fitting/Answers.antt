use Rattle.std.proofs.Common.{[], ◌∷◌, None, ◌∙◌, arith, refl, sym}
use Rattle.std.proofs.lemmas.List.{append-nil}
use Rattle.llrp_tree.proofs.TvLemmas.{few_width}
use Rattle.llrp_listing.proofs.Putting.{puts_parameter}
use Rattle.llrp_listing.proofs.TvLines.{few_octets, one_test, value_below}
use Rattle.llrp_listing.proofs.ValueSteps.{fits_test}
use Rattle.llrp_listing.proofs.encode.line_octets.put_fitting.Goals as goal

pub tv_front-front-requires-clause-rule : goal.tv_front-front-requires-clause-rule
tv_front-front-requires-clause-rule c = c.requires.fits.rule

pub tv_front-front-requires-clause-value : goal.tv_front-front-requires-clause-value
tv_front-front-requires-clause-value c = value_below c.args.line.kind _ c.args.line.value None c.requires.fits.rule (fits_test _ _ c.requires.fits.fits) refl

pub returns : goal.returns
returns c = λ number.
    let line = c.args.line in
    let f = c.requires.fits in
    puts_parameter line.kind (line.value ∷ []) [] _ c.args.room.now.items c.append_front.new.room.items number None _ _ c.requires.said (one_test line.kind _ line.value None f.rule (fits_test _ _ f.fits)) (few_octets line.kind _ f.rule) refl c.tv_front-front.ensures.spelled (c.in_ok-append_front.ensures ∙ sym (append-nil _))

pub overflow_add-result : goal.overflow_add-result
overflow_add-result c = omega (arith, few_width c.args.line.kind _ c.requires.fits.rule)
