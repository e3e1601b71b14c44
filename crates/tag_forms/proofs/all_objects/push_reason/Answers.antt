use Rattle.std.proofs.Common.{[], refl, sym, inl}
use Rattle.std.proofs.lemmas.List.{append-nil}
use Rattle.tag_forms.proofs.all_objects.push_reason.Goals as goal

pub returns-in-None : goal.returns-in-None
returns-in-None c = ([], inl (c.in-None.ensures.none, refl), sym (append-nil c.args.object.now.items))
