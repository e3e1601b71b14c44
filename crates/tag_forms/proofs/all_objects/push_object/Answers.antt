use Rattle.std.proofs.Common.{◌++◌, codes, refl}
use Rattle.std.proofs.lemmas.Result.{on_ok_weaker}
use Rattle.tag_forms.proofs.ListLemmas.{grown, left_on_ok}
use Rattle.tag_forms.proofs.all_objects.push_object.Goals as goal

pub returns : goal.returns
returns c =
    let a = c.in_ok-push_member.ensures in
    let r = c.in_ok-push_reason.ensures in
    let b = c.in_ok-push_member-2.ensures in
    let d = c.in_ok-push_member-3.ensures in
    let e = c.in_ok-push_member-4.ensures in
    let f = c.in_ok-push_member-5.ensures in
    let g = c.in_ok-push_member-6.ensures in
    on_ok_weaker c.extend_from_slice.result
    (λ last.
    let key = grown _ _ _ g.0 (codes "}") g.2 last in
    let hex = grown _ _ _ f.0 (g.0 ++ codes "}") f.2 key in
    let link = grown _ _ _ e.0 (f.0 ++ (g.0 ++ codes "}")) e.2 hex in
    let element = grown _ _ _ d.0 (e.0 ++ (f.0 ++ (g.0 ++ codes "}"))) d.2 link in
    let pure = grown _ _ _ b.0 (d.0 ++ (e.0 ++ (f.0 ++ (g.0 ++ codes "}")))) b.2 element in
    let why = grown _ _ _ r.0 (b.0 ++ (d.0 ++ (e.0 ++ (f.0 ++ (g.0 ++ codes "}"))))) r.2 pure in
    let all = grown _ _ _ a.0 (r.0 ++ (b.0 ++ (d.0 ++ (e.0 ++ (f.0 ++ (g.0 ++ codes "}")))))) a.2 why in (
      a.0 ++ (r.0 ++ (b.0 ++ (d.0 ++ (e.0 ++ (f.0 ++ (g.0 ++ codes "}")))))),
      record {
        tag = a.0;
        why = r.0;
        pure = b.0;
        element = d.0;
        link = e.0;
        hex = f.0;
        key = g.0;
        tag_is = a.1;
        why_is = r.1;
        pure_is = b.1;
        element_is = d.1;
        link_is = e.1;
        hex_is = f.1;
        key_is = g.1;
        joined = refl;
      },
      all,
    )) (left_on_ok c.extend_from_slice.result c.extend_from_slice.new.self.items _ _ c.extend_from_slice.ensures.items)
