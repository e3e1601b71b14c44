use Rattle.std.proofs.Common.{◌++◌, refl}
use Rattle.std.proofs.lemmas.Result.{on_ok_weaker}
use Rattle.tag_forms.proofs.ListLemmas.{grown}
use Rattle.tag_forms.proofs.all_answers.push_forms_in_all.Goals as goal

pub returns : goal.returns
returns c =
    let a = c.in_ok-push_form.ensures in
    let b = c.in_ok-push_form-2.ensures in
    let d = c.in_ok-push_form-3.ensures in
    let e = c.in_ok-push_form-4.ensures in
    let f = c.in_ok-push_form-5.ensures in
    on_ok_weaker c.push_form-6.result
    (λ g.
    let last = grown _ _ _ f.0 g.0 f.2 g.2 in
    let fourth = grown _ _ _ e.0 (f.0 ++ g.0) e.2 last in
    let third = grown _ _ _ d.0 (e.0 ++ (f.0 ++ g.0)) d.2 fourth in
    let second = grown _ _ _ b.0 (d.0 ++ (e.0 ++ (f.0 ++ g.0))) b.2 third in
    let all = grown _ _ _ a.0 (b.0 ++ (d.0 ++ (e.0 ++ (f.0 ++ g.0)))) a.2 second in (
      a.0 ++ (b.0 ++ (d.0 ++ (e.0 ++ (f.0 ++ g.0)))),
      record {
        tag = a.0;
        pure = b.0;
        element = d.0;
        link = e.0;
        hex = f.0;
        key = g.0;
        tag_is = a.1;
        pure_is = b.1;
        element_is = d.1;
        link_is = e.1;
        hex_is = f.1;
        key_is = g.1;
        joined = refl;
      },
      all,
    )) c.push_form-6.ensures
