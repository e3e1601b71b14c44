use Rattle.std.proofs.Common.{◌∙◌, sym}
use Rattle.std.proofs.lemmas.List.{append_cancel_left}
use Rattle.tag_uri.proofs.TextLaws.{begins}
use Rattle.tag_keys.specs.PureIdentity.{id_start}
use Rattle.tag_scheme_keys.proofs.read_id_uri.id_in_front.Goals as goal

pub returns-in-None-clause-none : goal.returns-in-None-clause-none
returns-in-None-clause-none c = λ scheme rest e. c.in-None.ensures.none scheme rest (append_cancel_left id_start _ _ (sym (begins id_start c.args.text.now c.in-Some.named.now c.in-Some.ensures.cases) ∙ e))
