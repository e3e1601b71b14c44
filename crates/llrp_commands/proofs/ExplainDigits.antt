-- How explain goes through hexadecimal digits, piece by piece.
use Rattle.std.proofs.Common.{◌≡◌, ℕ, List, ◌++◌, Bool, Option, Result, Ok, Err, sym, ap, subst, ◌∙◌, append_assoc, inl, inr}
use Rattle.llrp_schema.specs.declared.kinds.KindSet.{KindSet}
use Rattle.llrp_stream.specs.Device.{Gave, SourceLog, SinkLog}
use Rattle.llrp_stream.proofs.WritingLemmas.{wrote_more, wrote_then_failed}
use Rattle.llrp_explain.specs.declared.form.Form.{Form}
use Rattle.llrp_explain.specs.declared.explained.Explainer.{Explainer}
use Rattle.llrp_listing.specs.declared.outcome.ToolErr.{ToolErr}
use Rattle.llrp_listing.specs.declared.outcome.ToolErr.TheVariants.{Listing, Script, Hex, Read, Write, Bound, Memory, Broken, Peer, Strange, Early}
use Rattle.llrp_listing.specs.declared.outcome.Verdict.{Verdict}
use Rattle.llrp_listing.specs.Calls.Copying.{GivesNone}
use Rattle.llrp_listing.specs.Encoding.{WasRead}
use Rattle.llrp_commands.specs.Calls.Digits.{Spells, SpellsFront}
use Rattle.llrp_commands.specs.Calls.Explain.{DigitsStopped, ExplainsDigits, ReadEnoughDigits, WroteWhole}
use Rattle.llrp_commands.specs.Private.Explain.{Ends, HandsDigits, HandsOn, IsLast}
use Rattle.llrp_commands.proofs.ExplainRuns.{AtEnd, at_end, by_form, longer, whole_text, wrote_whole}

-- ---- a piece

-- the octets of a piece were not handed on
pub undigested : (old new : Explainer) (half : Option ℕ) (right : Bool) (digits octets taken : List ℕ) (w0 w1 : SinkLog) (e : ToolErr) → Spells digits octets half right → HandsOn old new octets taken w0 w1 (Err e) → HandsDigits old new half digits taken w0 w1 (Err e)
undigested old new half right digits octets taken w0 w1 Write s h = (octets, right, s, h)
undigested old new half right digits octets taken w0 w1 Memory s h = h
undigested old new half right digits octets taken w0 w1 Read s h = absurd h
undigested old new half right digits octets taken w0 w1 Bound s h = absurd h
undigested old new half right digits octets taken w0 w1 Hex s h = absurd h
undigested old new half right digits octets taken w0 w1 (Listing at reason) s h = absurd h
undigested old new half right digits octets taken w0 w1 (Script at) s h = absurd h
undigested old new half right digits octets taken w0 w1 Broken s h = absurd h
undigested old new half right digits octets taken w0 w1 Early s h = absurd h
undigested old new half right digits octets taken w0 w1 (Peer status) s h = absurd h
undigested old new half right digits octets taken w0 w1 Strange s h = absurd h

-- no piece came
pub no_digits_came : (form : Form) (only : Option ℕ) (p : KindSet) (limit : ℕ) (r0 r1 : SourceLog) (w0 w1 : SinkLog) (digits octets : List ℕ) (half : Option ℕ) (e : ToolErr) → GivesNone r0 r1 digits e → SpellsFront digits octets half → WroteWhole form only p limit octets w0 w1 → DigitsStopped form only p limit r0 r1 w0 w1 e
no_digits_came form only p limit r0 r1 w0 w1 digits octets half e (inl none) s whole = rw none.0 (none.1, digits, octets, half, none.2, s, whole)
no_digits_came form only p limit r0 r1 w0 w1 digits octets half e (inr none) s whole = rw none.0 (digits, octets, half, none.1, s, whole)

-- a piece was not handed on, or is no hexadecimal
pub digits_stopped : (old new : Explainer) (form : Form) (only : Option ℕ) (p : KindSet) (limit n : ℕ) (r0 r1 : SourceLog) (w0 w1 w2 : SinkLog) (digits piece octets taken : List ℕ) (half now : Option ℕ) (e : ToolErr)
    → AtEnd old form only p limit w0 w1 octets taken → new.form ≡ old.form → new.only ≡ old.only → new.set ≡ old.set → new.limit ≡ old.limit → Gave r0 r1 n (digits ++ piece) → SpellsFront digits octets half → HandsDigits old new now (digits ++ piece) taken w1 w2 (Err e) → DigitsStopped form only p limit r0 r1 w0 w2 e
digits_stopped old new form only p limit n r0 r1 w0 w1 w2 digits piece octets taken half now Memory a ef eo ep el gave s same =
    (digits, piece, octets, half, inl (n, gave), s, subst (λ (x : SinkLog). WroteWhole form only p limit octets w0 x) (sym same) (wrote_whole old form only p limit octets taken w0 w1 a.form_is a.only_is a.set_is a.limit_is a.empty a.so_far a.wrote))
digits_stopped old new form only p limit n r0 r1 w0 w1 w2 digits piece octets taken half now Write a ef eo ep el gave s (more, right, spelled, u) =
    let all = whole_text u.now more taken u.so_far in (
      digits ++ piece,
      more,
      (taken ++ u.now.text.items) ++ all.0,
      taken ++ u.front,
      now,
      right,
      all.1,
      inl (n, gave),
      spelled,
      by_form form u.now.form only u.now.only p u.now.set limit u.now.limit more ((taken ++ u.now.text.items) ++ all.0) all.1 (u.form_is ∙ a.form_is) (u.only_is ∙ a.only_is) (u.set_is ∙ a.set_is) (u.limit_is ∙ a.limit_is) all.2,
      longer taken u.front u.begins.0 u.now.text.items all.0 u.begins.1,
      wrote_then_failed w0 w1 w2 taken u.front a.wrote u.failed,
    )
digits_stopped old new form only p limit n r0 r1 w0 w1 w2 digits piece octets taken half now Hex a ef eo ep el gave s (more, spelled, h) =
    (more, inl (n, digits ++ piece, now, gave, spelled), wrote_whole new form only p limit more (taken ++ h.text) w0 w2 (ef ∙ a.form_is) (eo ∙ a.only_is) (ep ∙ a.set_is) (el ∙ a.limit_is) h.empty h.so_far (wrote_more w0 w1 w2 taken h.text a.wrote h.wrote))
digits_stopped old new form only p limit n r0 r1 w0 w1 w2 digits piece octets taken half now Read a ef eo ep el gave s stop = absurd stop
digits_stopped old new form only p limit n r0 r1 w0 w1 w2 digits piece octets taken half now Bound a ef eo ep el gave s stop = absurd stop
digits_stopped old new form only p limit n r0 r1 w0 w1 w2 digits piece octets taken half now (Listing at reason) a ef eo ep el gave s stop = absurd stop
digits_stopped old new form only p limit n r0 r1 w0 w1 w2 digits piece octets taken half now (Script at) a ef eo ep el gave s stop = absurd stop
digits_stopped old new form only p limit n r0 r1 w0 w1 w2 digits piece octets taken half now Broken a ef eo ep el gave s stop = absurd stop
digits_stopped old new form only p limit n r0 r1 w0 w1 w2 digits piece octets taken half now Early a ef eo ep el gave s stop = absurd stop
digits_stopped old new form only p limit n r0 r1 w0 w1 w2 digits piece octets taken half now (Peer status) a ef eo ep el gave s stop = absurd stop
digits_stopped old new form only p limit n r0 r1 w0 w1 w2 digits piece octets taken half now Strange a ef eo ep el gave s stop = absurd stop

-- ---- the end

pub digits_ended : (e : Explainer) (form : Form) (only : Option ℕ) (p : KindSet) (limit : ℕ) (r0 r1 : SourceLog) (w0 w1 w2 : SinkLog) (digits octets taken : List ℕ) (half : Option ℕ) (right : Bool) (outcome : Result Verdict ToolErr)
    → AtEnd e form only p limit w0 w1 octets taken → WasRead r0 r1 digits → Spells digits octets half right → ((text : List ℕ) (lawful : Bool) → IsLast e text lawful → ReadEnoughDigits form only p limit r0 r1 (taken ++ text) lawful) → Ends e w1 w2 outcome → ExplainsDigits form only p limit r0 r1 w0 w2 outcome
digits_ended e form only p limit r0 r1 w0 w1 w2 digits octets taken half right (Ok verdict) a read s enough (text, lawful, last, wrote, is) = (taken ++ text, lawful, enough text lawful last, wrote_more w0 w1 w2 taken text a.wrote wrote, is)
digits_ended e form only p limit r0 r1 w0 w1 w2 digits octets taken half right (Err Memory) a read s enough same = (
  s.front,
  s.rest,
  octets,
  half,
  subst (WasRead r0 r1) s.whole read,
  s.spells,
  subst (λ (x : SinkLog). WroteWhole form only p limit octets w0 x) (sym same) (wrote_whole e form only p limit octets taken w0 w1 a.form_is a.only_is a.set_is a.limit_is a.empty a.so_far a.wrote),
)
digits_ended e form only p limit r0 r1 w0 w1 w2 digits octets taken half right (Err Write) a read s enough (text, front, lawful, last, is, failed) = (
  digits,
  octets,
  taken ++ text,
  taken ++ front,
  half,
  right,
  lawful,
  read,
  s,
  at_end e form only p limit octets taken text lawful a.form_is a.only_is a.set_is a.limit_is last a.so_far,
  (is.0, ap (λ (x : List ℕ). taken ++ x) is.1 ∙ sym (append_assoc taken front is.0)),
  wrote_then_failed w0 w1 w2 taken front a.wrote failed,
)
digits_ended e form only p limit r0 r1 w0 w1 w2 digits octets taken half right (Err Read) a read s enough stop = absurd stop
digits_ended e form only p limit r0 r1 w0 w1 w2 digits octets taken half right (Err Bound) a read s enough stop = absurd stop
digits_ended e form only p limit r0 r1 w0 w1 w2 digits octets taken half right (Err Hex) a read s enough stop = absurd stop
digits_ended e form only p limit r0 r1 w0 w1 w2 digits octets taken half right (Err (Listing at reason)) a read s enough stop = absurd stop
digits_ended e form only p limit r0 r1 w0 w1 w2 digits octets taken half right (Err (Script at)) a read s enough stop = absurd stop
digits_ended e form only p limit r0 r1 w0 w1 w2 digits octets taken half right (Err Broken) a read s enough stop = absurd stop
digits_ended e form only p limit r0 r1 w0 w1 w2 digits octets taken half right (Err Early) a read s enough stop = absurd stop
digits_ended e form only p limit r0 r1 w0 w1 w2 digits octets taken half right (Err (Peer status)) a read s enough stop = absurd stop
digits_ended e form only p limit r0 r1 w0 w1 w2 digits octets taken half right (Err Strange) a read s enough stop = absurd stop
