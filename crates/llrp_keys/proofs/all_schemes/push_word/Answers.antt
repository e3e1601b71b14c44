use Rattle.std.proofs.Common.{◌++◌, [], ap, inl, inr, refl, sym, ℕ, List}
use Rattle.std.proofs.lemmas.List.{append-nil}
use Rattle.std.proofs.lemmas.Result.{on_ok_weaker}
use Rattle.llrp_listing.specs.Calls.EpcLines.{line}
use Rattle.llrp_listing.proofs.TextLemmas.{grown, with_part}
use Rattle.llrp_keys.specs.AllSchemes.{remark_in_all}
use Rattle.llrp_keys.proofs.all_schemes.push_word.Goals as goal

pub returns-in-Some : goal.returns-in-Some
returns-in-Some c =
    let text : List ℕ = c.text_in_all.result.bytes in
    on_ok_weaker c.push_remark.result
    (λ more. (
      line text ++ remark_in_all c.in-Some.fault,
      record { text = text; remark = remark_in_all c.in-Some.fault; text_is = c.text_in_all.ensures; remark_is = inr (c.in-Some.fault, c.in-Some.ensures.some, refl); joined = refl },
      grown _ _ _ (line text) (remark_in_all c.in-Some.fault) (with_part _ _ _ _ c.in_ok-push_line.ensures (ap line c.as_str.ensures.value)) more,
    )) c.push_remark.ensures

pub returns-in-None : goal.returns-in-None
returns-in-None c =
    let text : List ℕ = c.text_in_all.result.bytes in (
      line text,
      record { text = text; remark = []; text_is = c.text_in_all.ensures; remark_is = inl (c.in-None.ensures.none, refl); joined = sym (append-nil (line text)) },
      with_part _ _ _ _ c.in_ok-push_line.ensures (ap line c.as_str.ensures.value),
    )
