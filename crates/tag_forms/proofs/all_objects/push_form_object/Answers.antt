use Rattle.std.proofs.Common.{◌++◌, codes, refl}
use Rattle.tag_forms.proofs.ListLemmas.{grown}
use Rattle.tag_forms.proofs.all_objects.push_form_object.Goals as goal

pub returns : goal.returns
returns c =
    let a = c.in_ok-push_member.ensures in
    let r = c.in_ok-push_reason_in.ensures in
    let why = grown _ _ _ r.0 (codes "}") r.2 c.in_ok-extend_from_slice.ensures.items in
    (a.0 ++ (r.0 ++ codes "}"), (c.in-Some.field-0.bytes, a.0, r.0, c.in-Some.ensures, a.1, r.1, refl), grown _ _ _ a.0 (r.0 ++ codes "}") a.2 why)
