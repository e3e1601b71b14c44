use Rattle.std.proofs.Common.{◌++◌, [], ap, inl, inr, refl, sym, ℕ, List}
use Rattle.std.proofs.lemmas.List.{append-nil}
use Rattle.std.proofs.lemmas.Result.{on_ok_weaker}
use Rattle.llrp_listing.specs.Calls.EpcLines.{line, remark_line}
use Rattle.llrp_listing.proofs.TextLemmas.{grown, with_part}
use Rattle.llrp_listing.proofs.epc.push_word.Goals as goal

pub returns-in-Ok : goal.returns-in-Ok
returns-in-Ok c =
    let lawful = c.in-Ok.ensures.exactly.0 refl in
    let text : List ℕ = c.print.result.bytes in
    on_ok_weaker c.push_line.result
    (λ more. (
      line text,
      record { text = text; remark = []; text_is = inl (c.in-Ok.epc, c.in-Ok.ensures.ok, c.print.ensures); remark_is = inl (lawful, refl); joined = sym (append-nil (line text)) },
      with_part _ _ _ _ more (ap line c.as_str.ensures.value),
    )) c.push_line.ensures

pub returns-in_ok-push_line-in-Err : goal.returns-in_ok-push_line-in-Err
returns-in_ok-push_line-in-Err c =
    let text : List ℕ = c.print_raw.result.bytes in
    on_ok_weaker c.push_remark.result
    (λ more. (
      line text ++ remark_line c.in-Err.fault,
      record { text = text; remark = remark_line c.in-Err.fault; text_is = inr (λ epc h. let no = c.in-Err.ensures.exactly.1 (epc, h) in cc, c.print_raw.ensures); remark_is = inr (c.in-Err.fault, c.in-Err.ensures.err, refl); joined = refl },
      grown _ _ _ (line text) (remark_line c.in-Err.fault) (with_part _ _ _ _ c.in_ok-push_line-in-Err.ensures (ap line c.as_str-in-Err.ensures.value)) more,
    )) c.push_remark.ensures
