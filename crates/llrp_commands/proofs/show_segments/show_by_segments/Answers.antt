use Rattle.std.proofs.Common.{inl, inr, refl}
use Rattle.llrp_commands.proofs.SegmentLemmas.{not_zero}
use Rattle.llrp_commands.proofs.show_segments.show_by_segments.Goals as goal

pub returns-in-Ok-clause-shown : goal.returns-in-Ok-clause-shown
returns-in-Ok-clause-shown g c =
    let listed = c.in-Ok.ensures in
    inl (
      c.in-Some.port,
      c.in-Some.ensures,
      inl (record {
        form = _;
        is_form = record { json_is = refl; set_is = refl; limit_is = refl };
        bytes = listed.0;
        listing = listed.1;
        verdict = c.in-Ok.verdict;
        read = listed.2;
        lists = listed.3;
        wrote = listed.4;
        answers = rw c.verdict_status.ensures at c.answer.ensures;
      }),
    )

pub returns-in-Err-clause-shown : goal.returns-in-Err-clause-shown
returns-in-Err-clause-shown g c = inl (c.in-Some.port, c.in-Some.ensures, inr (λ e. not_zero c.answer_stopped.result c.answer_stopped.ensures.status e))
