-- How explain goes through a stream, piece by piece.
use Rattle.std.proofs.Common.{◌≡◌, ◌⊎◌, ℕ, List, [], ◌++◌, Bool, ◌&&◌, Option, Result, Ok, Err, refl, sym, ap, subst, ◌∙◌, append_assoc, inl, inr}
use Rattle.std.proofs.lemmas.List.{append-nil}
use Rattle.llrp_schema.specs.declared.kinds.KindSet.{KindSet}
use Rattle.llrp_stream.specs.declared.item.End.{End}
use Rattle.llrp_stream.specs.declared.item.End.TheVariants as end
use Rattle.llrp_stream.specs.Cuts.{Breaks, EndsStream, IsPartial}
use Rattle.llrp_stream.specs.Device.{Gave, SourceLog, SinkLog, Wrote}
use Rattle.llrp_stream.proofs.PrefixLemmas.{end_of, ends}
use Rattle.llrp_stream.proofs.WritingLemmas.{wrote_more, wrote_then_failed}
use Rattle.llrp_explain.specs.declared.form.Form.{Form}
use Rattle.llrp_explain.specs.declared.explained.Explainer.{Explainer}
use Rattle.llrp_explain.specs.Calls.Explained.{AreExplained, ExplainsOnly, end_line, is_clean}
use Rattle.llrp_explain.specs.Calls.Explaining.{ExplainedSoFar, StandsAt}
use Rattle.llrp_explain.specs.Calls.Printing.{Begins, Stands}
use Rattle.llrp_listing.specs.declared.outcome.ToolErr.{ToolErr}
use Rattle.llrp_listing.specs.declared.outcome.ToolErr.TheVariants.{Listing, Script, Hex, Read, Write, Bound, Memory, Broken, Peer, Strange, Early}
use Rattle.llrp_listing.specs.declared.outcome.Verdict.{Verdict}
use Rattle.llrp_listing.specs.Calls.Copying.{GivesNone, Writes}
use Rattle.llrp_listing.specs.Copying.{IsPrefix}
use Rattle.llrp_listing.specs.Encoding.{WasRead}
use Rattle.llrp_listing.proofs.EngineLemmas.{comes_partial}
use Rattle.llrp_commands.specs.Calls.Explain.{ExplainsBytes, ExplainStopped, ReadEnough, WroteWhole}
use Rattle.llrp_commands.specs.Private.Explain.{Ends, HandsOn, IsLast}

-- ---- what is explained so far

-- what is left of the stream has no whole frame
left_at : (e : Explainer) (front : List ℕ) → StandsAt e front → IsPartial front ⊎ Breaks front
left_at e front (inl c) = inl (comes_partial (Begins e.printer) (Stands e.printer) e.frames front c.0)
left_at e front (inr c) = inr c.1

ends_so : (front : List ℕ) → IsPartial front ⊎ Breaks front → (x : End) × EndsStream front x
ends_so front (inl p) = (end_of front, ends front p)
ends_so front (inr b) = (end.Broken, b)

-- the text of the stream, if it ended here
pub whole_text : (e : Explainer) (bytes taken : List ℕ) → ExplainedSoFar e bytes taken → (rest : List ℕ) × (lawful : Bool) × ExplainsOnly e.form e.only e.set e.limit bytes ((taken ++ e.text.items) ++ rest) lawful
whole_text e bytes taken s =
    let last = ends_so s.front (left_at e s.front s.stands) in (
      end_line e.form last.0,
      e.lawful && is_clean last.0,
      record {
        frames = s.parts;
        end = last.0;
        cut = record { tail = s.front; whole = s.whole; each = s.each; ends = last.1 };
        front = taken ++ e.text.items;
        all = e.lawful;
        are = s.are;
        text_is = refl;
        lawful_is = refl;
      },
    )

pub by_form : (form f : Form) (only o : Option ℕ) (p q : KindSet) (limit n : ℕ) (bytes text : List ℕ) (lawful : Bool) → f ≡ form → o ≡ only → q ≡ p → n ≡ limit → ExplainsOnly f o q n bytes text lawful → ExplainsOnly form only p limit bytes text lawful
by_form form f only o p q limit n bytes text lawful ef eo ep el h =
    subst (λ (x : Form). ExplainsOnly x only p limit bytes text lawful) ef (subst (λ (x : Option ℕ). ExplainsOnly f x p limit bytes text lawful) eo (subst (λ (x : KindSet). ExplainsOnly f o x limit bytes text lawful) ep (subst (λ (x : ℕ). ExplainsOnly f o q x bytes text lawful) el h)))

pub wrote_whole : (e : Explainer) (form : Form) (only : Option ℕ) (p : KindSet) (limit : ℕ) (bytes taken : List ℕ) (w0 w1 : SinkLog) → e.form ≡ form → e.only ≡ only → e.set ≡ p → e.limit ≡ limit → e.text.items ≡ [] → ExplainedSoFar e bytes taken → Wrote w0 w1 taken → WroteWhole form only p limit bytes w0 w1
wrote_whole e form only p limit bytes taken w0 w1 ef eo ep el empty s wrote =
    let text : taken ++ e.text.items ≡ taken = ap (λ (x : List ℕ). taken ++ x) empty ∙ append-nil taken in
    let own : AreExplained e.form e.only e.set e.limit 1 s.parts taken e.lawful = subst (λ (x : List ℕ). AreExplained e.form e.only e.set e.limit 1 s.parts x e.lawful) text s.are in
    record {
      frames = s.parts;
      rest = s.front;
      text = taken;
      all = e.lawful;
      whole = s.whole;
      each = s.each;
      unfinished = left_at e s.front s.stands;
      are = subst (λ (x : Form). AreExplained x only p limit 1 s.parts taken e.lawful) ef (subst (λ (x : Option ℕ). AreExplained e.form x p limit 1 s.parts taken e.lawful) eo (subst (λ (x : KindSet). AreExplained e.form e.only x limit 1 s.parts taken e.lawful) ep (subst (λ (x : ℕ). AreExplained e.form e.only e.set x 1 s.parts taken e.lawful) el own)));
      written = wrote;
    }

-- ---- a piece

-- a write of the text failed
pub unhanded : (old mid new : Explainer) (stream taken : List ℕ) (w0 w1 : SinkLog) (e : ToolErr) → mid.form ≡ old.form → mid.only ≡ old.only → mid.set ≡ old.set → mid.limit ≡ old.limit → ExplainedSoFar mid stream taken → Writes mid.text.items w0 w1 (Err e) → HandsOn old new stream taken w0 w1 (Err e)
unhanded old mid new stream taken w0 w1 Write ef eo ep el s (front, is, failed) = record { now = mid; form_is = ef; only_is = eo; set_is = ep; limit_is = el; so_far = s; front = front; begins = is; failed = failed }
unhanded old mid new stream taken w0 w1 Memory ef eo ep el s stop = absurd stop.2
unhanded old mid new stream taken w0 w1 Read ef eo ep el s stop = absurd stop.2
unhanded old mid new stream taken w0 w1 Bound ef eo ep el s stop = absurd stop.2
unhanded old mid new stream taken w0 w1 Hex ef eo ep el s stop = absurd stop.2
unhanded old mid new stream taken w0 w1 (Listing at reason) ef eo ep el s stop = absurd stop.2
unhanded old mid new stream taken w0 w1 (Script at) ef eo ep el s stop = absurd stop.2
unhanded old mid new stream taken w0 w1 Broken ef eo ep el s stop = absurd stop.2
unhanded old mid new stream taken w0 w1 Early ef eo ep el s stop = absurd stop.2
unhanded old mid new stream taken w0 w1 (Peer status) ef eo ep el s stop = absurd stop.2
unhanded old mid new stream taken w0 w1 Strange ef eo ep el s stop = absurd stop.2

-- a part of a text begins it, after what was written
pub longer : (done front back text rest : List ℕ) → text ≡ front ++ back → IsPrefix (done ++ front) ((done ++ text) ++ rest)
longer done front back text rest is =
    (back ++ rest, ap (λ (x : List ℕ). (done ++ x) ++ rest) is ∙ ap (λ (x : List ℕ). x ++ rest) (sym (append_assoc done front back)) ∙ append_assoc (done ++ front) back rest)

-- no piece came
pub none_came : (form : Form) (only : Option ℕ) (p : KindSet) (limit : ℕ) (r0 r1 : SourceLog) (w0 w1 : SinkLog) (bytes : List ℕ) (e : ToolErr) → GivesNone r0 r1 bytes e → WroteWhole form only p limit bytes w0 w1 → ExplainStopped form only p limit r0 r1 w0 w1 e
none_came form only p limit r0 r1 w0 w1 bytes e (inl none) whole = rw none.0 (none.1, bytes, none.2, whole)
none_came form only p limit r0 r1 w0 w1 bytes e (inr none) whole = rw none.0 (bytes, none.1, whole)

-- a piece was not handed on
pub piece_stopped : (old new : Explainer) (form : Form) (only : Option ℕ) (p : KindSet) (limit n : ℕ) (r0 r1 : SourceLog) (w0 w1 w2 : SinkLog) (bytes piece taken : List ℕ) (e : ToolErr) → old.form ≡ form → old.only ≡ only → old.set ≡ p → old.limit ≡ limit → Gave r0 r1 n (bytes ++ piece) → WroteWhole form only p limit bytes w0 w1 → Wrote w0 w1 taken → HandsOn old new (bytes ++ piece) taken w1 w2 (Err e) → ExplainStopped form only p limit r0 r1 w0 w2 e
piece_stopped old new form only p limit n r0 r1 w0 w1 w2 bytes piece taken Memory ef eo ep el gave whole wrote same = (bytes, piece, inl (n, gave), subst (λ (x : SinkLog). WroteWhole form only p limit bytes w0 x) (sym same) whole)
piece_stopped old new form only p limit n r0 r1 w0 w1 w2 bytes piece taken Write ef eo ep el gave whole wrote u =
    let all = whole_text u.now (bytes ++ piece) taken u.so_far in (
      bytes ++ piece,
      (taken ++ u.now.text.items) ++ all.0,
      taken ++ u.front,
      all.1,
      inl (n, gave),
      by_form form u.now.form only u.now.only p u.now.set limit u.now.limit (bytes ++ piece) ((taken ++ u.now.text.items) ++ all.0) all.1 (u.form_is ∙ ef) (u.only_is ∙ eo) (u.set_is ∙ ep) (u.limit_is ∙ el) all.2,
      longer taken u.front u.begins.0 u.now.text.items all.0 u.begins.1,
      wrote_then_failed w0 w1 w2 taken u.front wrote u.failed,
    )
piece_stopped old new form only p limit n r0 r1 w0 w1 w2 bytes piece taken Read ef eo ep el gave whole wrote stop = absurd stop
piece_stopped old new form only p limit n r0 r1 w0 w1 w2 bytes piece taken Bound ef eo ep el gave whole wrote stop = absurd stop
piece_stopped old new form only p limit n r0 r1 w0 w1 w2 bytes piece taken Hex ef eo ep el gave whole wrote stop = absurd stop
piece_stopped old new form only p limit n r0 r1 w0 w1 w2 bytes piece taken (Listing at reason) ef eo ep el gave whole wrote stop = absurd stop
piece_stopped old new form only p limit n r0 r1 w0 w1 w2 bytes piece taken (Script at) ef eo ep el gave whole wrote stop = absurd stop
piece_stopped old new form only p limit n r0 r1 w0 w1 w2 bytes piece taken Broken ef eo ep el gave whole wrote stop = absurd stop
piece_stopped old new form only p limit n r0 r1 w0 w1 w2 bytes piece taken Early ef eo ep el gave whole wrote stop = absurd stop
piece_stopped old new form only p limit n r0 r1 w0 w1 w2 bytes piece taken (Peer status) ef eo ep el gave whole wrote stop = absurd stop
piece_stopped old new form only p limit n r0 r1 w0 w1 w2 bytes piece taken Strange ef eo ep el gave whole wrote stop = absurd stop

-- ---- the end

-- a write of the last text failed
pub unended : (e : Explainer) (text : List ℕ) (lawful : Bool) (w0 w1 : SinkLog) (error : ToolErr) → IsLast e text lawful → Writes text w0 w1 (Err error) → Ends e w0 w1 (Err error)
unended e text lawful w0 w1 Write last (front, is, failed) = (text, front, lawful, last, is, failed)
unended e text lawful w0 w1 Memory last stop = absurd stop.2
unended e text lawful w0 w1 Read last stop = absurd stop.2
unended e text lawful w0 w1 Bound last stop = absurd stop.2
unended e text lawful w0 w1 Hex last stop = absurd stop.2
unended e text lawful w0 w1 (Listing at reason) last stop = absurd stop.2
unended e text lawful w0 w1 (Script at) last stop = absurd stop.2
unended e text lawful w0 w1 Broken last stop = absurd stop.2
unended e text lawful w0 w1 Early last stop = absurd stop.2
unended e text lawful w0 w1 (Peer status) last stop = absurd stop.2
unended e text lawful w0 w1 Strange last stop = absurd stop.2

-- What a run has to have when it comes to its end.
pub record AtEnd (e : Explainer) (form : Form) (only : Option ℕ) (p : KindSet) (limit : ℕ) (w0 w1 : SinkLog) (bytes taken : List ℕ) : Type 0 where
  pub form_is : e.form ≡ form
  pub only_is : e.only ≡ only
  pub set_is : e.set ≡ p
  pub limit_is : e.limit ≡ limit
  pub empty : e.text.items ≡ []
  pub so_far : ExplainedSoFar e bytes taken
  pub wrote : Wrote w0 w1 taken

-- the text of a stream at its end
pub at_end : (e : Explainer) (form : Form) (only : Option ℕ) (p : KindSet) (limit : ℕ) (bytes taken text : List ℕ) (lawful : Bool) → e.form ≡ form → e.only ≡ only → e.set ≡ p → e.limit ≡ limit → IsLast e text lawful → ExplainedSoFar e bytes taken → ExplainsOnly form only p limit bytes (taken ++ text) lawful
at_end e form only p limit bytes taken text lawful ef eo ep el last s = by_form form e.form only e.only p e.set limit e.limit bytes (taken ++ text) lawful ef eo ep el (last bytes taken s)

pub ended : (e : Explainer) (form : Form) (only : Option ℕ) (p : KindSet) (limit : ℕ) (r0 r1 : SourceLog) (w0 w1 w2 : SinkLog) (bytes taken : List ℕ) (outcome : Result Verdict ToolErr) → AtEnd e form only p limit w0 w1 bytes taken → WasRead r0 r1 bytes
    → ((text : List ℕ) (lawful : Bool) → IsLast e text lawful → ReadEnough form only p limit r0 r1 (taken ++ text) lawful) → Ends e w1 w2 outcome → ExplainsBytes form only p limit r0 r1 w0 w2 outcome
ended e form only p limit r0 r1 w0 w1 w2 bytes taken (Ok verdict) a read enough (text, lawful, last, wrote, is) = (taken ++ text, lawful, enough text lawful last, wrote_more w0 w1 w2 taken text a.wrote wrote, is)
ended e form only p limit r0 r1 w0 w1 w2 bytes taken (Err Memory) a read enough same =
    (bytes, [], subst (WasRead r0 r1) (sym (append-nil bytes)) read, subst (λ (x : SinkLog). WroteWhole form only p limit bytes w0 x) (sym same) (wrote_whole e form only p limit bytes taken w0 w1 a.form_is a.only_is a.set_is a.limit_is a.empty a.so_far a.wrote))
ended e form only p limit r0 r1 w0 w1 w2 bytes taken (Err Write) a read enough (text, front, lawful, last, is, failed) = (
  bytes,
  taken ++ text,
  taken ++ front,
  lawful,
  read,
  at_end e form only p limit bytes taken text lawful a.form_is a.only_is a.set_is a.limit_is last a.so_far,
  (is.0, ap (λ (x : List ℕ). taken ++ x) is.1 ∙ sym (append_assoc taken front is.0)),
  wrote_then_failed w0 w1 w2 taken front a.wrote failed,
)
ended e form only p limit r0 r1 w0 w1 w2 bytes taken (Err Read) a read enough stop = absurd stop
ended e form only p limit r0 r1 w0 w1 w2 bytes taken (Err Bound) a read enough stop = absurd stop
ended e form only p limit r0 r1 w0 w1 w2 bytes taken (Err Hex) a read enough stop = absurd stop
ended e form only p limit r0 r1 w0 w1 w2 bytes taken (Err (Listing at reason)) a read enough stop = absurd stop
ended e form only p limit r0 r1 w0 w1 w2 bytes taken (Err (Script at)) a read enough stop = absurd stop
ended e form only p limit r0 r1 w0 w1 w2 bytes taken (Err Broken) a read enough stop = absurd stop
ended e form only p limit r0 r1 w0 w1 w2 bytes taken (Err Early) a read enough stop = absurd stop
ended e form only p limit r0 r1 w0 w1 w2 bytes taken (Err (Peer status)) a read enough stop = absurd stop
ended e form only p limit r0 r1 w0 w1 w2 bytes taken (Err Strange) a read enough stop = absurd stop
